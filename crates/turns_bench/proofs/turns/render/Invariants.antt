use Rattle.shared_recorder.specs.Recorder.{Stays}
use Rattle.turns_bench.proofs.turns.render.Given as goal

abbrev pub invariant-loop : goal.invariant-loop
invariant-loop g l = Stays l.recorder l.initial.pass l.pass
