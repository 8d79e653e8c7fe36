-- What a rolling summary keeps, sample by sample, at any moments (this project's rule).
use Rattle.std.specs.Prelude.{◌≡◌, ℕ, zero, suc, ◌+◌, ◌^◌, ◌<◌, ◌≤◌, length, ◌-◌, ◌*◌, ◌/◌, ◌&&◌, ◌||◌, Bool, false, nat_lt, nat_le, List, [], ◌∷◌, ◌++◌, take, filter, flat_map, replicate, position, slice_get, ℤ, Option, Some, None, option_map, unwrap_or, if◌then◌else◌}
use Rattle.std.specs.List.{All}
use Rattle.metrics_core.specs.Numbers.{in_64_bits}
use Rattle.metrics_registry.specs.Quantiles.{ascending}
use Rattle.rolling_summaries.specs.declared.buckets.Bucket.{Bucket}

-- a summary: how many buckets it was built for and how wide they are; the buckets that it keeps, the newest first; how
-- many samples there were, modulo 2 ^ 64
pub record Summary : Type 0 where
  pub limit : ℕ
  pub width : ℕ
  pub kept : List Bucket
  pub count : ℕ

-- a summary of no samples
abbrev pub empty_summary : ℕ → ℕ → Summary
empty_summary limit width = record { limit = limit; width = width; kept = []; count = 0 }

-- a begin is in the window at t where it is after t less the span, and always where t is less than the span
abbrev pub in_window : ℕ → ℕ → ℕ → Bool
in_window span t begin = nat_lt t span || nat_lt (t - span) begin

-- the buckets in the window at t
abbrev pub kept_in_window : ℕ → ℕ → List Bucket → List Bucket
kept_in_window span t kept = filter (λ bucket. in_window span t bucket.begin) kept

-- a bucket takes the samples from its begin to its width later
abbrev pub takes : ℕ → ℕ → Bucket → Bool
takes width t bucket = nat_le bucket.begin t && nat_lt t (bucket.begin + width)

-- the search for the bucket of a sample at t ends at one that takes it, and stops where t is after a begin plus the width
abbrev pub ends_search : ℕ → ℕ → Bucket → Bool
ends_search width t bucket = nat_lt (bucket.begin + width) t || takes width t bucket

-- the place of the bucket that takes a sample at t, counted from the newest, if the search comes to one
abbrev pub taker_at : ℕ → ℕ → List Bucket → ℕ → Option ℕ
taker_at width t kept place =
    if unwrap_or (option_map (takes width t) (slice_get kept place)) false then Some place else None

abbrev pub taker_from : ℕ → ℕ → List Bucket → Option ℕ → Option ℕ
taker_from width t kept None = None
taker_from width t kept (Some place) = taker_at width t kept place

abbrev pub taker : ℕ → ℕ → List Bucket → Option ℕ
taker width t kept = taker_from width t kept (position (ends_search width t) kept)

-- values put to the bucket at a place
abbrev pub joined : List ℤ → ℕ → List Bucket → List Bucket
joined values place [] = []
joined values zero (bucket ∷ older) = record bucket { values = ascending (bucket.values ++ values) } ∷ older
joined values (suc place) (bucket ∷ older) = bucket ∷ joined values place older

-- the begin of a new bucket at t behind one that began at b: the greatest moment that is b plus a multiple of the width
-- and isn't after t
abbrev pub aligned : ℕ → ℕ → ℕ → ℕ
aligned width b t = b + (t - b) / width * width

-- The begin of a bucket for values at t that no bucket takes: t where no bucket is left, an aligned one where t is after
-- the newest begin. Otherwise there is none, and the values are in no bucket.
abbrev pub new_begin : ℕ → ℕ → Option ℕ → Option ℕ
new_begin width t None = Some t
new_begin width t (Some newest) = if nat_lt newest t then Some (aligned width newest t) else None

abbrev pub newest_begin : List Bucket → Option ℕ
newest_begin kept = option_map (λ bucket. bucket.begin) (slice_get kept 0)

-- values in a new bucket before the others, if it has a begin; so many are kept, the newest ones
abbrev pub begun_at : ℕ → List ℤ → List Bucket → Option ℕ → List Bucket
begun_at limit values kept None = kept
begun_at limit values kept (Some begin) = take limit (record { begin = begin; values = ascending values } ∷ kept)

abbrev pub begun : ℕ → ℕ → ℕ → List ℤ → List Bucket → List Bucket
begun limit width t values kept = begun_at limit values kept (new_begin width t (newest_begin kept))

-- the buckets after values of a moment: they join the bucket that takes them; where none does, the buckets out of the
-- window are dropped first
abbrev pub kept_by : ℕ → ℕ → ℕ → List ℤ → List Bucket → Option ℕ → List Bucket
kept_by limit width t values kept (Some place) = joined values place kept
kept_by limit width t values kept None = begun limit width t values (kept_in_window (limit * width) t kept)

abbrev pub kept_after : ℕ → ℕ → ℕ → List ℤ → List Bucket → List Bucket
kept_after limit width t values kept = kept_by limit width t values kept (taker width t kept)

-- a value added for so many samples at t; for none nothing changes
abbrev pub added : ℕ → ℤ → ℕ → Summary → Summary
added t value zero summary = summary
added t value (suc n) summary = record summary {
  kept = kept_after summary.limit summary.width t (replicate (suc n) value) summary.kept;
  count = in_64_bits (summary.count + suc n);
}

-- the values of the buckets in the window at t, in ascending order
abbrev pub snapshot_at : ℕ → Summary → List ℤ
snapshot_at t summary =
    ascending (flat_map (λ bucket. bucket.values) (kept_in_window (summary.limit * summary.width) t summary.kept))

-- each bucket begins at least a width after the older ones
abbrev pub Apart : ℕ → List Bucket → Type 0
Apart width [] = Unit {0}
Apart width (bucket ∷ older) = All (λ o. o.begin + width ≤ bucket.begin) older × Apart width older

-- the values of each bucket stand in ascending order
abbrev pub AreOrdered : List Bucket → Type 0
AreOrdered kept = All (λ bucket. bucket.values ≡ ascending bucket.values) kept

-- what every summary keeps: it has a bucket at least, a width and a span of 64 bits, and no more buckets than it was
-- built for, which are apart, each with its values in order
pub record IsBuilt (limit width : ℕ) (kept : List Bucket) : Type 0 where
  pub some : 0 < limit
  pub wide : 0 < width
  pub fits : limit * width < 2 ^ 64
  pub within : length kept ≤ limit
  pub apart : Apart width kept
  pub ordered : AreOrdered kept
