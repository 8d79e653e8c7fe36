use Rattle.std.proofs.Common.{◌≡◌, ◌≤◌, map}
use Rattle.std.specs.Vec.Iter.{into_iter_items}
use Rattle.drive_script.specs.Texts.{round_of}
use Rattle.script_player.proofs.PagesSoFar.{PagedSoFar}
use Rattle.script_player.proofs.RoundSteps.{IsSoFar}
use Rattle.script_player.proofs.Standing.{StandsBefore}
use Rattle.script_player.proofs.play.Player.play_rounds.Given as goal

abbrev pub invariant-loop-round : goal.invariant-loop-round
invariant-loop-round g l = record {
  stands : StandsBefore l.initial.self (map round_of l.fn.rounds.items)
      (record { sent = g.L.Link.sent l.initial.link; faults = g.L.Link.faults l.initial.link }) (record { sent = g.L.Link.sent l.link; faults = g.L.Link.faults l.link })
      l.self (map round_of (into_iter_items l.round-iterator));
  so_far : IsSoFar l.initial.self.settings l.initial.self.pages (map round_of l.fn.rounds.items) l.self.pages (map round_of (into_iter_items l.round-iterator))
      (g.K.Sink.written l.initial.out) (g.K.Sink.written l.out);
  paged : PagedSoFar l.initial.self.settings l.initial.self.pages (map round_of l.fn.rounds.items) l.self.pages (map round_of (into_iter_items l.round-iterator))
      (g.K.Sink.written l.initial.out) (g.K.Sink.written l.out);
  aims : g.L.Link.aimed l.link ≡ g.L.Link.aimed l.initial.link;
  never_falls : g.K.Sink.faults l.initial.out ≤ g.K.Sink.faults l.out;
}
