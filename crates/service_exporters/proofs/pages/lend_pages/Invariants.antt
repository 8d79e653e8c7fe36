use Rattle.std.proofs.Common.{◌≡◌, ◌+◌, ◌≤◌}
use Rattle.shared_turns.specs.Passes.{view_of}
use Rattle.shared_recorder.specs.Recorder.{IsPass}
use Rattle.service_exporters.proofs.pages.lend_pages.Given as goal

abbrev pub invariant-loop-lent : goal.invariant-loop-lent
invariant-loop-lent l = record {
  pass : IsPass l.recorder l.root;
  root : (view_of l.root).number ≡ 0;
  splits : l.root.splits ≤ l.initial.root.splits + l._lent;
}
