use Rattle.std.proofs.Common.{◌≡◌, Some, sym, ap, subst, ◌∙◌, inl, inr}
use Rattle.metrics_registry.specs.Live.{cell_of}
use Rattle.distributions.specs.declared.distribution.Distribution.{Distribution}
use Rattle.distributions.specs.declared.distribution.Distribution.TheVariants as variants
use Rattle.distributions.specs.Kinds.{DistributionKind, NativeHistogram}
use Rattle.distributions.specs.Recording.{StandsFor}
use Rattle.histogram_series.specs.Series.{SampleSeries, kind_of, recorded_samples, AreInTurn}
use Rattle.native_histograms.specs.Native.{NativeText, NativeHistogramText}
use Rattle.prom_exporter.specs.Exporter.{Exporter}
use Rattle.prom_exporter.proofs.state.PrometheusState.native.Goals as goal

-- a native histogram stands for the samples that are recorded, whatever their moments
native_stands : (s : SampleSeries) (kept : Distribution) (native : NativeHistogramText) → kept ≡ variants.NativeHistogram native → kind_of kept ≡ s.kind
    → (AreInTurn s.kind (recorded_samples s) → StandsFor s.kind (recorded_samples s) kept) → StandsFor s.kind (recorded_samples s) (variants.NativeHistogram native)
native_stands s kept native is kind stands =
    let same : NativeHistogram native.config ≡ s.kind = sym (ap kind_of is) ∙ kind in
    subst (StandsFor s.kind (recorded_samples s)) is (stands (subst (λ k. AreInTurn k (recorded_samples s)) same tt))

-- what is kept in another way is of another kind
is_native : DistributionKind → Type 0
is_native (NativeHistogram config) = Unit {0}
is_native _ = ⊥

other_kind : (s : SampleSeries) (kept : Distribution) → (is_native (kind_of kept) → ⊥) → kind_of kept ≡ s.kind → (config : NativeText) → s.kind ≡ NativeHistogram config → ⊥
unfolding is_native
other_kind s kept other kind config native = other (subst is_native (sym (kind ∙ native)) tt)

pub returns-in-NativeHistogram : goal.returns-in-NativeHistogram
returns-in-NativeHistogram c =
    let cell = c.in_ok-get_histogram.field-0.now in
    let here : cell_of c.args.id c.args.self.now.series.histograms ≡ Some cell = ap (λ (e : Exporter). cell_of c.args.id e.series.histograms) (sym c.self.view_is) ∙ sym c.in_ok-get_histogram.ensures in
    rw here (native_stands cell.series c.distribution.result.now _ c.in-NativeHistogram.is c.distribution.ensures.kind c.distribution.ensures.stands)

pub returns-in-Histogram : goal.returns-in-Histogram
unfolding is_native
returns-in-Histogram c =
    let cell = c.in_ok-get_histogram.field-0.now in
    let here : cell_of c.args.id c.args.self.now.series.histograms ≡ Some cell = ap (λ (e : Exporter). cell_of c.args.id e.series.histograms) (sym c.self.view_is) ∙ sym c.in_ok-get_histogram.ensures in
    rw here (other_kind cell.series c.distribution.result.now (elim c.in-Histogram.is [
      | inl w ↦ λ native. subst (λ d. is_native (kind_of d)) w.1 native
      | inr w ↦ λ native. subst (λ d. is_native (kind_of d)) w.3 native
    ]) c.distribution.ensures.kind)
