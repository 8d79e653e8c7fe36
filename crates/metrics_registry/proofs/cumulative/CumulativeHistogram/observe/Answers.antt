use Rattle.std.proofs.Common.{◌+◌, ◌++◌, map, sym, ap, subst, ◌∙◌}
use Rattle.std.specs.Prelude.{replicate, FitsSigned}
use Rattle.std.specs.Int.{w128}
use Rattle.std.specs.Vec.{with_items}
use Rattle.metrics_core.specs.Numbers.{in_64_bits, add_128}
use Rattle.metrics_registry.specs.Cumulative.{StandsFor}
use Rattle.metrics_registry.specs.Buckets.{bucket_of, raised_bucket}
use Rattle.metrics_registry.proofs.Observed.{stands-more, refilled}
use Rattle.metrics_registry.proofs.cumulative.CumulativeHistogram.observe.Goals as goal

pub returns : goal.returns
returns c = λ bounds samples stands.
    let v = c.args.value.0 in
    let n = c.args.count in
    let old = c.self.inside.buckets in
    let f = raised_bucket v n in
    let raised = (with_items old c.raise_all.new.buckets).items in
    let after = samples ++ replicate n v in
    let is = refilled old.len old.items c.raise_all.new.buckets f old.ok.0 (c.raise_all.ensures ∙ ap (map f) c.as_mut_slice.ensures.value) in
    let stands_old = subst (StandsFor bounds samples) (sym c.self.view_is) stands in
    subst (λ m. StandsFor bounds after (record { buckets = map bucket_of raised; sum = add_128 c.self.inside.sum c.product.result; count = in_64_bits (c.self.inside.count + m) })) (sym c.from.ensures)
    (subst (λ p. StandsFor bounds after (record { buckets = map bucket_of raised; sum = add_128 c.self.inside.sum p; count = in_64_bits (c.self.inside.count + n) })) (sym c.product.ensures.product)
    (stands-more v n bounds samples old.items raised c.self.inside.sum c.self.inside.count stands_old is c.product.ensures.value_fits (subst (FitsSigned w128) c.product.ensures.product c.product.ensures.fits) c.self.invariant))
