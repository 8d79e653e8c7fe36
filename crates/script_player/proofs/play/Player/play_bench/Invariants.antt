use Rattle.std.proofs.Common.{◌≡◌, ◌+◌}
use Rattle.script_player.proofs.BenchSteps.{StandsAt, left_from}
use Rattle.script_player.proofs.play.Player.play_bench.Given as goal

abbrev pub invariant-loop-played : goal.invariant-loop-played
invariant-loop-played g l = record {
  number : l.rounds + 1 ≡ l._played;
  aimed : g.L.Link.aimed l.link ≡ g.L.Link.aimed l.initial.link;
  stands : StandsAt l.count l.initial.self (record { sent = g.L.Link.sent l.initial.link; faults = g.L.Link.faults l.initial.link }) (record { sent = g.L.Link.sent l.link; faults = g.L.Link.faults l.link })
      l.self (left_from l.rounds l.count);
}
