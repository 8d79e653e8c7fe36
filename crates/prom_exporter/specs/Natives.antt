-- Native histograms that are asked for by the ids of their series.
use Rattle.std.specs.Prelude.{◌≡◌, Option, Some, None}
use Rattle.native_histograms.specs.Native.{NativeText, NativeHistogramText}
use Rattle.distributions.specs.declared.distribution.Distribution.TheVariants as variants
use Rattle.distributions.specs.Kinds.{NativeHistogram}
use Rattle.distributions.specs.Recording.{StandsFor}
use Rattle.histogram_series.specs.Series.{recorded_samples}
use Rattle.prom_exporter.specs.Sampled.{Sampled}

-- what is answered of a histogram, if one is live: its native histogram stands for the samples that are recorded, and where none is
-- answered its kind is another
abbrev pub HasNative : Option Sampled → Option NativeHistogramText → Type 0
HasNative None found = found ≡ None
HasNative (Some s) (Some native) = StandsFor s.series.kind (recorded_samples s.series) (variants.NativeHistogram native)
HasNative (Some s) None = (config : NativeText) → s.series.kind ≡ NativeHistogram config → ⊥
