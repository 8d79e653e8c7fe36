use Rattle.std.proofs.Common.{◌≡◌, ◌+◌, take}
use Rattle.std.specs.Prelude.{ℤ}
use Rattle.metrics_registry.specs.Bags.{copies}
use Rattle.metrics_registry.specs.Chunks.{AreOrdered, entries_of}
use Rattle.metrics_registry.proofs.chunks.add_all.Given as goal

abbrev pub invariant-loop-other : goal.invariant-loop-other
invariant-loop-other l = record {
  ordered : AreOrdered l.chunks.items;
  added : (v : ℤ) → copies v (entries_of l.chunks.items) ≡ copies v (entries_of l.initial.chunks.items) + copies v (entries_of (take l.other-index l.others));
}
