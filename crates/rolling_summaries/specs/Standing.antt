-- Which samples a rolling summary stands for, where moments never fall (this project's rule).
use Rattle.std.specs.Prelude.{◌≡◌, ℕ, ◌+◌, ◌*◌, ◌≤◌, ◌<◌, List, [], ◌∷◌, ◌++◌, length, map, zip, fold, flat_map, replicate, ℤ, Option, Some, None}
use Rattle.std.specs.List.{All}
use Rattle.metrics_core.specs.Numbers.{in_64_bits}
use Rattle.metrics_registry.specs.Quantiles.{ascending}
use Rattle.rolling_summaries.specs.declared.buckets.Bucket.{Bucket}
use Rattle.rolling_summaries.specs.Window.{Sample, begin_behind, begins, window}
use Rattle.rolling_summaries.specs.Summaries.{Summary, newest_begin, added}

-- no sample is after t
abbrev pub NoneAfter : ℕ → List Sample → Type 0
NoneAfter t samples = All (λ s. s.moment ≤ t) samples

-- each sample with its begin
abbrev pub begun_samples : ℕ → ℕ → List Sample → List (Sample × ℕ)
begun_samples width span samples = zip samples (begins width span (map (λ s. s.moment) samples))

-- the begin of the last sample
abbrev pub last_behind : ℕ → ℕ → ℕ → List ℕ → ℕ
last_behind width span b [] = b
last_behind width span b (m ∷ ms) = last_behind width span (begin_behind width span b m) ms

abbrev pub last_begin : ℕ → ℕ → List Sample → Option ℕ
last_begin width span [] = None
last_begin width span (s ∷ samples) = Some (last_behind width span s.moment (map (λ s. s.moment) samples))

-- a bucket has the last samples: they are of its begin, which is at least a width after those of the older buckets
pub record HasLast (width t : ℕ) (bucket : Bucket) (older : List Bucket) (last : List (Sample × ℕ)) : Type 0 where
  pub own : All (λ (_, begin). begin ≡ bucket.begin) last
  pub values : bucket.values ≡ ascending (map (λ (sample, _). sample.value) last)
  pub begun : bucket.begin ≤ t
  pub apart : All (λ o. o.begin + width ≤ bucket.begin) older

-- Buckets, the newest first, hold samples at t: the newest bucket has the last samples, and the older buckets hold those
-- before. What no bucket has is out of the window at t.
abbrev pub Hold : ℕ → ℕ → ℕ → List Bucket → List (Sample × ℕ) → Type 0
Hold width span t [] samples = All (λ (_, begin). begin + span ≤ t) samples
Hold width span t (bucket ∷ older) samples =
    (earlier : List (Sample × ℕ))
    × ((last : List (Sample × ℕ))
    × ((samples ≡ earlier ++ last) × (HasLast width t bucket older last × Hold width span t older earlier)))

-- A summary stands for samples whose moments never fall: it has counted them, its newest bucket is that of the last
-- sample, and its buckets hold the samples with their begins at each moment that no sample is after.
pub record StandsFor (summary : Summary) (samples : List Sample) : Type 0 where
  pub count : summary.count ≡ in_64_bits (length samples)
  pub newest : newest_begin summary.kept ≡ last_begin summary.width (summary.limit * summary.width) samples
  pub holds : (t : ℕ) → NoneAfter t samples → Hold summary.width (summary.limit * summary.width) t summary.kept (begun_samples summary.width (summary.limit * summary.width) samples)

-- Samples at a moment behind those that a summary stood for, whatever these were: where none of them is after that moment, the
-- summary then stands for all.
abbrev pub StandsForMore : Summary → ℕ → List Sample → Summary → Type 0
StandsForMore old moment more new =
    (samples : List Sample) → StandsFor old samples → NoneAfter moment samples → StandsFor new (samples ++ more)

-- the values of the window at a moment, in order, whatever samples the summary stands for: none is to be after that moment
abbrev pub ShowsWindow : Summary → ℕ → List ℤ → Type 0
ShowsWindow summary moment values =
    (samples : List Sample) → StandsFor summary samples → NoneAfter moment samples
    → values ≡ ascending (window summary.width (summary.limit * summary.width) moment samples)

-- so many samples of a value at a moment
abbrev pub same_samples : ℤ → ℕ → ℕ → List Sample
same_samples value moment n = replicate n (record { value = value; moment = moment })

-- one call of `add`: a value for so many samples at a moment
pub record Addition : Type 0 where
  pub value : ℤ
  pub moment : ℕ
  pub samples : ℕ

-- the samples of calls in turn, and the summary after them
abbrev pub added_samples : List Addition → List Sample
added_samples calls = flat_map (λ call. same_samples call.value call.moment call.samples) calls

abbrev pub added_all : Summary → List Addition → Summary
added_all summary calls = fold (λ s call. added call.moment call.value call.samples s) summary calls

-- moments never fall: no sample is before one that came earlier
abbrev pub NeverFall : List Sample → Type 0
NeverFall [] = Unit {0}
NeverFall (s ∷ samples) = All (λ later. s.moment ≤ later.moment) samples × NeverFall samples

-- Where moments never fall, the same samples in any cuts leave the same buckets and the same count: behind a summary that
-- stands for earlier samples, so also behind a new one.
abbrev pub SameInAnyCuts : Type 0
SameInAnyCuts =
    (summary : Summary) (samples : List Sample) (xs ys : List Addition) → 0 < summary.limit → 0 < summary.width → StandsFor summary samples
    → NeverFall (samples ++ added_samples xs) → added_samples xs ≡ added_samples ys → added_all summary xs ≡ added_all summary ys
