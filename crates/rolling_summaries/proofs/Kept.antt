-- What the steps on the buckets of a summary leave.
use Rattle.std.proofs.Common.{◌≡◌, ℕ, zero, suc, ◌*◌, ◌<◌, ◌≤◌, true, cond, List, [], ◌∷◌, ◌++◌, length, get_or, Some, None, refl, ap, ◌∙◌, arith}
use Rattle.std.proofs.lemmas.List.{length-take}
use Rattle.std.proofs.lemmas.List.Sums.{length-filter, count_by-le-length}
use Rattle.std.specs.Prelude.{ℤ, Option, slice_set, flat_map}
use Rattle.metrics_registry.specs.Quantiles.{ascending}
use Rattle.rolling_summaries.specs.declared.buckets.Bucket.{Bucket}
use Rattle.rolling_summaries.specs.Summaries.{in_window, kept_in_window, taker, joined, newest_begin, new_begin, begun_at, begun, kept_by, kept_after}

-- values put to the bucket that stands at a place
joined-set : (values : List ℤ) (place : ℕ) (kept : List Bucket) (d : Bucket) → place < length kept
    → slice_set kept place (record { begin = (get_or kept place d).begin; values = ascending ((get_or kept place d).values ++ values) }) ≡ joined values place kept
joined-set values place [] d within = absurd (omega arith)
joined-set values zero (b ∷ older) d within = refl
joined-set values (suc place) (b ∷ older) d within = ap (λ l. b ∷ l) (joined-set values place older d (omega arith))

pub joined-at : (values new : List ℤ) (place : ℕ) (kept : List Bucket) (b : Bucket) → place < length kept → b ≡ get_or kept place b
    → new ≡ ascending (b.values ++ values)
    → slice_set kept place (record { begin = b.begin; values = new }) ≡ joined values place kept
joined-at values new place kept b within own is =
    (λ j. slice_set kept place (record { begin = (own j).begin; values = (is ∙ ap (λ (x : Bucket). ascending (x.values ++ values)) own) j }))
    ∙ joined-set values place kept b within

pub length-joined : (values : List ℤ) (place : ℕ) (kept : List Bucket) → length (joined values place kept) ≡ length kept
length-joined values place [] = refl
length-joined values zero (b ∷ older) = refl
length-joined values (suc place) (b ∷ older) = ap suc (length-joined values place older)

-- the newest begin in the window is that of the newest bucket where this is in it
pub newest-here : (span t : ℕ) (b : Bucket) (older : List Bucket) → in_window span t b.begin ≡ true
    → newest_begin (kept_in_window span t (b ∷ older)) ≡ Some b.begin
newest-here span t b older within = ap (λ v. newest_begin (cond v (b ∷ kept_in_window span t older) (kept_in_window span t older))) within

-- ---- the buckets in the window

abbrev pub values_of : List Bucket → List ℤ
values_of kept = flat_map (λ bucket. bucket.values) kept

-- ---- no more buckets than a summary was built for

within-begun : (limit width t : ℕ) (values : List ℤ) (kept : List Bucket) → length kept ≤ limit
    → length (begun limit width t values (kept_in_window (limit * width) t kept)) ≤ limit
within-begun limit width t values kept within =
    by (new_begin width t (newest_begin (kept_in_window (limit * width) t kept)))
  where
    by : (begin : Option ℕ) → length (begun_at limit values (kept_in_window (limit * width) t kept) begin) ≤ limit
    by None = omega (arith, within, length-filter (λ b. in_window (limit * width) t b.begin) kept, count_by-le-length (λ b. in_window (limit * width) t b.begin) kept)
    by (Some begin) = omega (arith, length-take limit (record { begin = begin; values = ascending values } ∷ kept_in_window (limit * width) t kept))

pub within-kept_after : (limit width t : ℕ) (values : List ℤ) (kept : List Bucket) → length kept ≤ limit
    → length (kept_after limit width t values kept) ≤ limit
within-kept_after limit width t values kept within = by (taker width t kept)
  where
    by : (place : Option ℕ) → length (kept_by limit width t values kept place) ≤ limit
    by None = within-begun limit width t values kept within
    by (Some place) = omega (arith, within, length-joined values place kept)
