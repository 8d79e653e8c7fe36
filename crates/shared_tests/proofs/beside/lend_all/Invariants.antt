use Rattle.std.proofs.Common.{◌≡◌, ◌+◌, All}
use Rattle.shared_turns.specs.Passes.{view_of}
use Rattle.shared_recorder.specs.Recorder.{IsPass}
use Rattle.shared_beside.specs.Beside.{IsLent}
use Rattle.shared_tests.proofs.beside.lend_all.Given as goal

abbrev pub invariant-loop-name : goal.invariant-loop-name
invariant-loop-name l = record {
  pass : IsPass l.recorder l.root;
  root : (view_of l.root).number ≡ 0;
  splits : l.root.splits ≡ l.initial.root.splits + l.name-index;
  lent : All (λ job. IsLent l.recorder job.pass) l.jobs.items;
}
