use Rattle.shared_recorder.specs.Recorder.{Stays}
use Rattle.turns_bench.proofs.turns.register.Given as goal

abbrev pub invariant-loop-place : goal.invariant-loop-place
invariant-loop-place g l = Stays l.recorder l.initial.pass l.pass
