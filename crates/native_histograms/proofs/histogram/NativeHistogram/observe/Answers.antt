use Rattle.std.proofs.Common.{◌+◌, sym, subst, rules}
use Rattle.std.specs.Prelude.{FitsSigned, pos, ◌*ℤ◌}
use Rattle.std.specs.Int.{w128}
use Rattle.metrics_core.specs.Numbers.{in_64_bits, add_128}
use Rattle.native_histograms.specs.Filled.{buckets_text}
use Rattle.native_histograms.specs.Native.{Observes}
use Rattle.native_histograms.proofs.Observed.{with_parts, observes}
use Rattle.native_histograms.proofs.histogram.NativeHistogram.observe.Goals as goal

pub returns-clause-observed : goal.returns-clause-observed
returns-clause-observed c =
    let v = c.args.value.0 in
    let n = c.args.count in
    let inside = c.self.inside in
    let wide : FitsSigned w128 v = search rules in
    let stands =
    observes inside.config (buckets_text inside.buckets) (buckets_text c.add.new.self) inside.sum inside.count v n c.product.ensures.value_fits wide
    (subst (FitsSigned w128) c.product.ensures.product c.product.ensures.fits) c.self.invariant.1 c.in_ok-add.ensures.added in
    subst (λ h. Observes h (v, n) (with_parts inside.config (buckets_text c.add.new.self) (add_128 inside.sum c.product.result) (in_64_bits (inside.count + c.from.result)))) c.self.view_is
    (subst (λ p. Observes (with_parts inside.config (buckets_text inside.buckets) inside.sum inside.count) (v, n) (with_parts inside.config (buckets_text c.add.new.self) (add_128 inside.sum p) (in_64_bits (inside.count + c.from.result)))) (sym c.product.ensures.product)
    (subst (λ m. Observes (with_parts inside.config (buckets_text inside.buckets) inside.sum inside.count) (v, n) (with_parts inside.config (buckets_text c.add.new.self) (add_128 inside.sum (v *ℤ pos n)) (in_64_bits (inside.count + m)))) (sym c.from.ensures) stands))
