use Rattle.std.proofs.Common.{◌≡◌, length, take}
use Rattle.metrics_registry.specs.Bags.{repeated}
use Rattle.metrics_registry.proofs.chunks.count_of.Given as goal

abbrev pub invariant-loop-count : goal.invariant-loop-count
invariant-loop-count l = l.total ≡ length (repeated (take l.count-index l.entries))
