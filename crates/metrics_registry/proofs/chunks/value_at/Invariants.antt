use Rattle.std.proofs.Common.{◌≡◌, ◌-◌, ◌≤◌, drop}
use Rattle.std.specs.Prelude.{slice_get}
use Rattle.metrics_registry.specs.Bags.{repeated}
use Rattle.metrics_registry.specs.Chunks.{entries_of}
use Rattle.metrics_registry.proofs.chunks.value_at.Given as goal

abbrev pub invariant-loop-chunk : goal.invariant-loop-chunk
invariant-loop-chunk l =
    (1 ≤ l.left) × (slice_get (repeated (entries_of l.chunks)) (l.initial.left - 1) ≡ slice_get (repeated (entries_of (drop l.chunk-index l.chunks))) (l.left - 1))
