-- What holds of each bucket that a rolling summary keeps.
use Rattle.std.proofs.Common.{◌≡◌, ℕ, zero, suc, ◌-◌, ◌*◌, ◌≤◌, Bool, true, false, cond, List, [], ◌∷◌, ◌++◌, take, refl, arith, Option, Some, None}
use Rattle.std.specs.Prelude.{ℤ, nat_lt, replicate, filter}
use Rattle.std.specs.List.{AllByRecursion}
use Rattle.std.proofs.lemmas.Bool.Decides.{nat_tests}
use Rattle.std.proofs.Math.Nat.{div-mul-le_self}
use Rattle.metrics_registry.specs.Quantiles.{ascending}
use Rattle.rolling_summaries.specs.declared.buckets.Bucket.{Bucket}
use Rattle.rolling_summaries.specs.Window.{Sample}
use Rattle.rolling_summaries.specs.Summaries.{Summary, added, in_window, kept_in_window, taker, joined, aligned, new_begin, newest_begin, begun_at, kept_by, kept_after}
use Rattle.rolling_summaries.specs.Standing.{Addition, same_samples, added_samples, added_all}

-- ---- lists

module _ {K : Type 0} (P : K → Type 0) where
  pub all-filter : (p : K → Bool) (xs : List K) → AllByRecursion P xs → AllByRecursion P (filter p xs)
  all-filter p [] h = tt
  all-filter p (x ∷ xs) h = by (p x) (all-filter p xs h.1)
    where
      by : (b : Bool) → AllByRecursion P (filter p xs) → AllByRecursion P (cond b (x ∷ filter p xs) (filter p xs))
      by true rest = (h.0, rest)
      by false rest = rest

  all-take : (n : ℕ) (xs : List K) → AllByRecursion P xs → AllByRecursion P (take n xs)
  all-take zero xs h = tt
  all-take (suc n) [] h = tt
  all-take (suc n) (x ∷ xs) h = (h.0, all-take n xs h.1)

-- ---- buckets

aligned-within : (width b m : ℕ) → b ≤ m → aligned width b m ≤ m
aligned-within width b m from = let whole = div-mul-le_self (m - b) width in omega (arith, whole)

-- what samples with some property leave: it holds of a bucket that they join, and of one that begins with them
module _ (P : Bucket → Type 0) (R : Sample → Type 0)
    (joins : (x : Sample) (n : ℕ) (b : Bucket) → R x → P b → P (record { begin = b.begin; values = ascending (b.values ++ replicate (suc n) x.value) }))
    (begins : (x : Sample) (n begin : ℕ) → R x → begin ≤ x.moment → P (record { begin = begin; values = ascending (replicate (suc n) x.value) })) where
  module _ (x : Sample) (n : ℕ) (right : R x) where
    abbrev values : List ℤ
    values = replicate (suc n) x.value

    joined-all : (place : ℕ) (kept : List Bucket) → AllByRecursion P kept → AllByRecursion P (joined values place kept)
    joined-all place [] all = tt
    joined-all zero (b ∷ older) all = (joins x n b right all.0, all.1)
    joined-all (suc place) (b ∷ older) all = (all.0, joined-all place older all.1)

    new-all : (limit width : ℕ) (kept : List Bucket) → AllByRecursion P kept → (newest : Option ℕ) → AllByRecursion P (begun_at limit values kept (new_begin width x.moment newest))
    new-all limit width kept all None = all-take P limit (record { begin = x.moment; values = ascending values } ∷ kept) (begins x n x.moment right (omega arith), all)
    new-all limit width kept all (Some newest) = by (nat_lt newest x.moment) refl
      where
        by : (r : Bool) → nat_lt newest x.moment ≡ r → AllByRecursion P (begun_at limit values kept (cond r (Some (aligned width newest x.moment)) None))
        by true later =
            let from : newest ≤ x.moment = grind (arith, nat_tests) in
            all-take P limit (record { begin = aligned width newest x.moment; values = ascending values } ∷ kept) (begins x n (aligned width newest x.moment) right (aligned-within width newest x.moment from), all)
        by false later = all

    after-all : (limit width : ℕ) (kept : List Bucket) → AllByRecursion P kept → AllByRecursion P (kept_after limit width x.moment values kept)
    after-all limit width kept all = by (taker width x.moment kept)
      where
        by : (place : Option ℕ) → AllByRecursion P (kept_by limit width x.moment values kept place)
        by (Some place) = joined-all place kept all
        by None =
            let left = kept_in_window (limit * width) x.moment kept in
            new-all limit width left (all-filter P (λ b. in_window (limit * width) x.moment b.begin) kept all) (newest_begin left)

  rest-right : (v : ℤ) (m n : ℕ) (samples : List Sample) → AllByRecursion R (same_samples v m n ++ samples) → AllByRecursion R samples
  rest-right v m zero samples right = right
  rest-right v m (suc n) samples right = rest-right v m n samples right.1

  call-all : (v : ℤ) (m n : ℕ) (w : Summary) (samples : List Sample) → AllByRecursion R (same_samples v m n ++ samples) → AllByRecursion P w.kept → AllByRecursion P (added m v n w).kept
  call-all v m zero w samples right all = all
  call-all v m (suc n) w samples right all = after-all (record { value = v; moment = m }) n right.0 w.limit w.width w.kept all

  pub kept-all : (calls : List Addition) (w : Summary) → AllByRecursion R (added_samples calls) → AllByRecursion P w.kept → AllByRecursion P (added_all w calls).kept
  kept-all [] w right all = all
  kept-all (c ∷ calls) w right all =
      kept-all calls (added c.moment c.value c.samples w) (rest-right c.value c.moment c.samples (added_samples calls) right) (call-all c.value c.moment c.samples w (added_samples calls) right all)
