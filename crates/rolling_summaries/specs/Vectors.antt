-- Worked examples, computed.
use Rattle.std.specs.Prelude.{◌≡◌, ℕ, ◌*◌, refl, [], ◌∷◌, length, map, ℤ, pos}
use Rattle.metrics_core.specs.Numbers.{whole}
use Rattle.metrics_registry.specs.Quantiles.{quantile_of}
use Rattle.rolling_summaries.specs.Window.{Sample, window}
use Rattle.rolling_summaries.specs.Summaries.{Summary, empty_summary, added, snapshot_at}
use Rattle.rolling_summaries.specs.Standing.{Addition, added_all}

abbrev seconds : ℕ → ℕ
seconds n = n * 1000000000

-- 0.5 in billionths
abbrev half : ℤ
half = pos 500000000

abbrev at_seconds : ℕ → Addition
at_seconds n = record { value = whole 42; moment = seconds n; samples = 1 }

abbrev sample_at : ℕ → ℕ → Sample
sample_at value n = record { value = whole value; moment = seconds n }

-- 42 at 3600, 3620, 3640 and 3660 s in the default window
abbrev default_summary : Summary
default_summary = added_all (empty_summary 3 (seconds 20)) (map at_seconds (3600 ∷ 3620 ∷ 3640 ∷ 3660 ∷ []))

pub default_buckets : (length default_summary.kept ≡ 3) × (default_summary.count ≡ 4)
default_buckets = (refl, refl)

pub default_window : length (window (seconds 20) (seconds 60) (seconds 3660) (map (sample_at 42) (3600 ∷ 3620 ∷ 3640 ∷ 3660 ∷ []))) ≡ 3
default_window = refl

-- in 2 buckets of 5 s, 42 at 4 s and then 43 at 3 s, which is late
abbrev late_summary : Summary
late_summary = added (seconds 3) (whole 43) 1 (added (seconds 4) (whole 42) 1 (empty_summary 2 (seconds 5)))

pub late_buckets : (length late_summary.kept ≡ 1) × (late_summary.count ≡ 2) × (snapshot_at (seconds 4) late_summary ≡ whole 42 ∷ [])
late_buckets = (refl, refl, refl)

-- in 3 buckets of 20 s, 1 at 3600 s and 2 at 3620 s: the bucket that begins on the cutoff is out of the window
abbrev cut_summary : Summary
cut_summary = added (seconds 3620) (whole 2) 1 (added (seconds 3600) (whole 1) 1 (empty_summary 3 (seconds 20)))

pub cut_window : snapshot_at (seconds 3660) cut_summary ≡ whole 2 ∷ []
cut_window = refl

pub cut_samples : window (seconds 20) (seconds 60) (seconds 3660) (sample_at 1 3600 ∷ sample_at 2 3620 ∷ []) ≡ whole 2 ∷ []
cut_samples = refl

-- so the median is 2 then, 1 at 3620 s, and 0 of no samples
pub cut_medians : (quantile_of half (snapshot_at (seconds 3660) cut_summary) ≡ whole 2) × (quantile_of half (snapshot_at (seconds 3620) cut_summary) ≡ whole 1)
cut_medians = (refl, refl)

pub empty_median : quantile_of half (snapshot_at (seconds 3660) (empty_summary 3 (seconds 20))) ≡ pos 0
empty_median = refl

-- 1 at 3600 s and 3619 s, 2 at 3645 s: the second bucket begins 2 widths after the first
abbrev aligned_summary : Summary
aligned_summary = added (seconds 3645) (whole 2) 1 (added (seconds 3619) (whole 1) 1 (added (seconds 3600) (whole 1) 1 (empty_summary 3 (seconds 20))))

pub aligned_begins : map (λ bucket. bucket.begin) aligned_summary.kept ≡ seconds 3640 ∷ seconds 3600 ∷ []
aligned_begins = refl
