use Rattle.std.proofs.Common.{length, sym, ap, ◌∙◌}
use Rattle.metrics_registry.specs.Bags.{repeated}
use Rattle.metrics_registry.specs.Chunks.{entries_of}
use Rattle.metrics_registry.specs.QuantileLaws.{length-ascending}
use Rattle.metrics_registry.proofs.bag.Bag.count.Goals as goal

pub returns : goal.returns
returns c = c.self.invariant.counted ∙ sym (length-ascending (repeated (entries_of c.self.inside.chunks.items))) ∙ ap length c.self.view_is
