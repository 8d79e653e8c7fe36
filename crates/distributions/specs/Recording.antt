-- What a distribution keeps of the samples that were recorded.
use Rattle.std.specs.Prelude.{◌≡◌, ℕ, List, ◌++◌, map, fold, replicate, ℤ}
use Rattle.std.specs.Arc.{arc_value}
use Rattle.metrics_core.specs.Numbers.{add_128}
use Rattle.metrics_core.specs.declared.numbers.Fixed.{Fixed}
use Rattle.metrics_registry.specs.Cumulative.{sample_sum}
use Rattle.metrics_registry.specs.Cumulative as cumulative
use Rattle.native_histograms.specs.Native as native
use Rattle.rolling_summaries.specs.Window.{Sample}
use Rattle.rolling_summaries.specs.Summaries.{added}
use Rattle.rolling_summaries.specs.Standing.{NeverFall}
use Rattle.rolling_summaries.specs.Standing as rolling
use Rattle.distributions.specs.declared.distribution.Distribution.{Distribution}
use Rattle.distributions.specs.declared.distribution.Distribution.TheVariants as variants
use Rattle.distributions.specs.declared.distribution.RecordSamplesFault.{RecordSamplesFault}
use Rattle.distributions.specs.declared.distribution.RecordSamplesFault.TheVariants as faults
use Rattle.distributions.specs.Kinds.{DistributionKind, NativeHistogram, Histogram, Summary}

-- a sample: its value in billionths, and its moment
abbrev pub sample_of : Fixed × ℕ → Sample
sample_of sample = record { value = sample.0.0; moment = sample.1 }

abbrev pub samples_of : List (Fixed × ℕ) → List Sample
samples_of samples = map sample_of samples

abbrev pub values_of : List Sample → List ℤ
values_of samples = map (λ sample. sample.value) samples

-- a value added so many times to the sum that a summary keeps beside its window
abbrev pub summed : ℤ → ℕ → Distribution → Distribution
summed value n (variants.Summary window quantiles sum) = variants.Summary window quantiles (fold add_128 sum (replicate n value))
summed value n other = other

-- the number of samples, modulo 2 ^ 64
abbrev pub count_of : Distribution → ℕ
count_of (variants.Histogram histogram) = histogram.count
count_of (variants.Summary window quantiles sum) = window.count
count_of (variants.NativeHistogram histogram) = histogram.count

-- how many samples were recorded before memory was refused
abbrev pub done_of : RecordSamplesFault → ℕ
done_of (faults.Memory done) = done

-- A sample recorded so many times at once. A histogram has observed its value so often. A summary has it in its window by its
-- moment, and in the sum of all.
abbrev pub RecordsTimes : Distribution → Sample → ℕ → Distribution → Type 0
RecordsTimes (variants.Histogram old) sample n (variants.Histogram new) = cumulative.Observes old (sample.value, n) new
RecordsTimes (variants.Summary old quantiles sum) sample n (variants.Summary new after total) =
    (new ≡ added sample.moment sample.value n old) × (after ≡ quantiles) × (total ≡ fold add_128 sum (replicate n sample.value))
RecordsTimes (variants.NativeHistogram old) sample n (variants.NativeHistogram new) = native.Observes old (sample.value, n) new
RecordsTimes _ _ _ _ = ⊥

-- one sample recorded
abbrev pub Records : Distribution → Sample → Distribution → Type 0
Records old sample new = RecordsTimes old sample 1 new

-- A distribution of a kind stands for a list of samples: it keeps what the definition of its kind says of them. What a
-- summary keeps of its window is defined where moments never fall.
abbrev pub StandsFor : DistributionKind → List Sample → Distribution → Type 0
StandsFor (Histogram bounds) samples (variants.Histogram histogram) = cumulative.StandsFor bounds (values_of samples) histogram
StandsFor (Summary summary) samples (variants.Summary window quantiles sum) =
    (window.limit ≡ summary.bucket_count)
    × (window.width ≡ summary.bucket_duration)
    × rolling.StandsFor window samples
    × ((arc_value quantiles).items ≡ summary.quantiles)
    × (sum ≡ sample_sum (values_of samples))
StandsFor (NativeHistogram config) samples (variants.NativeHistogram histogram) = native.StandsFor config (values_of samples) histogram
StandsFor _ _ _ = ⊥

-- Further samples behind those that a distribution stood for, whatever its kind and these were: where moments never fall, the
-- distribution then stands for all.
abbrev pub StandsForMore : Distribution → List Sample → Distribution → Type 0
StandsForMore old samples new =
    (kind : DistributionKind) (before : List Sample) → StandsFor kind before old → NeverFall (before ++ samples)
    → StandsFor kind (before ++ samples) new
