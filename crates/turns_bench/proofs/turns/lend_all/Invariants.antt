use Rattle.std.proofs.Common.{◌≡◌, ◌+◌, All}
use Rattle.shared_turns.specs.Passes.{view_of}
use Rattle.shared_recorder.specs.Recorder.{IsPass}
use Rattle.shared_beside.specs.Beside.{IsLent}
use Rattle.turns_bench.proofs.turns.lend_all.Given as goal

abbrev pub invariant-loop-thread : goal.invariant-loop-thread
invariant-loop-thread l = record {
  pass : IsPass l.recorder l.root;
  root : (view_of l.root).number ≡ 0;
  splits : l.root.splits ≡ l.initial.root.splits + l.thread;
  lent : All (λ job. IsLent l.recorder job.pass) l.jobs.items;
}
