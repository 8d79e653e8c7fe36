use Rattle.std.proofs.Common.{◌≡◌, All}
use Rattle.shared_turns.specs.Passes.{view_of}
use Rattle.shared_recorder.specs.Recorder.{IsPass}
use Rattle.shared_beside.specs.Beside.{IsLent}
use Rattle.turns_bench.proofs.turns.take_all.Given as goal

abbrev pub invariant-loop-one : goal.invariant-loop-one
invariant-loop-one l = record {
  pass : IsPass l.recorder l.root;
  root : (view_of l.root).number ≡ 0;
  lent : All (λ one. IsLent l.recorder one.pass) l.turned.items;
}

abbrev pub decreases-loop-one : goal.decreases-loop-one
decreases-loop-one l = goal.left-loop-one l
