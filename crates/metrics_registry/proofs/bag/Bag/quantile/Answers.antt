use Rattle.std.proofs.Common.{◌≡◌, ◌-◌, ◌∙◌, ap}
use Rattle.std.specs.Prelude.{option_map, slice_get}
use Rattle.metrics_core.specs.Fixed.{of_billionths}
use Rattle.metrics_registry.specs.Bags.{repeated}
use Rattle.metrics_registry.specs.Chunks.{entries_of}
use Rattle.metrics_registry.specs.Quantiles.{rank}
use Rattle.metrics_registry.proofs.Chunked.{quantile-at}
use Rattle.metrics_registry.proofs.bag.Bag.quantile.Goals as goal

pub returns : goal.returns
returns c =
    let count = c.self.inside.count in
    let ranked : c.rank_of.result ≡ rank c.args.q.now count = c.rank_of.ensures ∙ ap (λ q. rank q count) c.billionths.ensures.billionths in
    c.value_at.ensures
    ∙ (λ j. option_map of_billionths (slice_get (repeated (entries_of (c.as_slice.ensures.value j))) (ranked j - 1)))
    ∙ quantile-at c.args.q.now count c.self.inside.chunks.items c.args.self.now c.self.invariant c.self.view_is
