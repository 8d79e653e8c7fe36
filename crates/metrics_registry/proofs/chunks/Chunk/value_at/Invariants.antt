use Rattle.std.proofs.Common.{◌≡◌, ◌-◌, ◌≤◌, drop}
use Rattle.std.specs.Prelude.{slice_get}
use Rattle.metrics_registry.specs.Bags.{repeated}
use Rattle.metrics_registry.proofs.chunks.Chunk.value_at.Given as goal

abbrev pub invariant-loop-value : goal.invariant-loop-value
invariant-loop-value l =
    (1 ≤ l.left) × (slice_get (repeated l.value-items) (l.initial.left - 1) ≡ slice_get (repeated (drop l.value-index l.value-items)) (l.left - 1))
