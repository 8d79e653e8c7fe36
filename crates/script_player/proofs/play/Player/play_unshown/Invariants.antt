use Rattle.std.proofs.Common.{◌≡◌, ℕ, map}
use Rattle.std.specs.Vec.Iter.{into_iter_items}
use Rattle.drive_script.specs.Texts.{round_of}
use Rattle.script_player.specs.Player.{Awaits}
use Rattle.script_player.specs.Served.{moment_from}
use Rattle.script_player.proofs.ServingRounds.{IsServedSoFar}
use Rattle.script_player.proofs.play.Player.play_unshown.Given as goal

abbrev pub invariant-loop-round : goal.invariant-loop-round
invariant-loop-round g l = record {
  settings : l.self.settings ≡ l.initial.self.settings;
  awaits : (m : ℕ) × Awaits m (map round_of (into_iter_items l.round-iterator)) l.self;
  so_far : IsServedSoFar l.initial.self.pages (map round_of l.fn.rounds.items) l.self.pages (map round_of (into_iter_items l.round-iterator));
  moment : moment_from l.moment (map round_of (into_iter_items l.round-iterator)) ≡ moment_from 0 (map round_of l.fn.rounds.items);
}
