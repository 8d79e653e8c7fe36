use Rattle.std.proofs.Common.{◌≡◌, All}
use Rattle.shared_turns.specs.Passes.{view_of}
use Rattle.shared_recorder.specs.Recorder.{IsPass}
use Rattle.shared_beside.specs.Beside.{IsLent}
use Rattle.shared_tests.proofs.beside.take_all.Given as goal

abbrev pub invariant-loop-answer : goal.invariant-loop-answer
invariant-loop-answer l = record {
  pass : IsPass l.recorder l.root;
  root : (view_of l.root).number ≡ 0;
  lent : All (λ answer. IsLent l.recorder answer.pass) l.answers.items;
}

abbrev pub decreases-loop-answer : goal.decreases-loop-answer
decreases-loop-answer l = goal.left-loop-answer l
