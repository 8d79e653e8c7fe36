-- What a value observed so many times does to buckets, sums and counts.
use Rattle.std.proofs.Common.{◌≡◌, ℕ, zero, suc, ◌+◌, ◌*◌, ◌<◌, true, false, cond, List, [], ◌∷◌, ◌++◌, map, take, drop, length, get_or, refl, sym, ap, subst, ◌∙◌, arith, length-append, append-nil, append_assoc}
use Rattle.std.specs.Prelude.{ℤ, pos, ◌+ℤ◌, ◌*ℤ◌, int_le, fold, replicate, FitsSigned, slice_set}
use Rattle.std.specs.List.{FoldsTo}
use Rattle.std.specs.Int.{w128, int_wrap}
use Rattle.std.proofs.lemmas.Int.{ints, int_wrap_fits, wrapping_add_is, int_wrap-add_left, SFits-int_wrap}
use Rattle.std.proofs.lemmas.List.Folds.{sum_by-replicate}
use Rattle.std.proofs.lemmas.List.Sums.{sum_by-append, fold-append}
use Rattle.std.proofs.lemmas.List.{length-replicate, length-map}
use Rattle.metrics_core.specs.Numbers.{in_64_bits, add_128}
use Rattle.metrics_core.specs.declared.numbers.Fixed.{Fixed}
use Rattle.metrics_registry.specs.Cumulative.{count_at_most, bucket_count, sample_count, sample_sum, HistogramText, histogram_of, StandsFor, Observes, SameInAnyCuts, observed_samples}
use Rattle.metrics_registry.specs.Buckets.{bucket_of, raised_bucket}

-- a loop that writes f of each element, a step on
pub map_step : {A : Type 0} (f : A → A) (ys : List A) (i : ℕ) (d : A) → i < length ys
    → slice_set (map f (take i ys) ++ drop i ys) i (f (get_or (map f (take i ys) ++ drop i ys) i d)) ≡ map f (take (suc i) ys) ++ drop (suc i) ys
map_step f [] i d within = absurd (omega arith)
map_step f (y ∷ ys) zero d within = refl
map_step f (y ∷ ys) (suc i) d within = ap (λ l. f y ∷ l) (map_step f ys i d (omega arith))

-- what a vector holds after all its elements were written
refilled-own : {A : Type 0} (ws rest : List A) → take (length ws) (ws ++ rest) ≡ ws
refilled-own [] rest = refl
refilled-own (w ∷ ws) rest = ap (λ l. w ∷ l) (refilled-own ws rest)

pub refilled : {A : Type 0} (len : ℕ) (old ws : List A) (f : A → A) → len ≡ length old → ws ≡ map f old → take len (ws ++ drop (length ws) old) ≡ map f old
refilled len old ws f long is =
    ap (λ n. take n (ws ++ drop (length ws) old)) (long ∙ sym (ap length is ∙ length-map old f))
    ∙ refilled-own ws (drop (length ws) old)
    ∙ is

-- ---- counts

count-more : (a n : ℕ) → in_64_bits (a + n) ≡ in_64_bits (in_64_bits a + n)
count-more a n = omega arith

pub bucket_count-more : (bound v : ℤ) (n : ℕ) (samples : List ℤ)
    → bucket_count bound (samples ++ replicate n v) ≡ cond (int_le v bound) (in_64_bits (bucket_count bound samples + n)) (bucket_count bound samples)
bucket_count-more bound v n samples =
    ap in_64_bits (sum_by-append (λ x. cond (int_le x bound) 1 0) samples (replicate n v) ∙ ap (λ m. count_at_most bound samples + m) (sum_by-replicate (λ x. cond (int_le x bound) 1 0) n v))
    ∙ (elim (int_le v bound) as (λ b. in_64_bits (count_at_most bound samples + n * cond b 1 0) ≡ cond b (in_64_bits (bucket_count bound samples + n)) (bucket_count bound samples)) [
      | true ↦ ap (λ m. in_64_bits (count_at_most bound samples + m)) (omega arith) ∙ count-more (count_at_most bound samples) n
      | false ↦ ap in_64_bits (omega arith)
    ])

pub sample_count-more : (v : ℤ) (n : ℕ) (samples : List ℤ) → sample_count (samples ++ replicate n v) ≡ in_64_bits (sample_count samples + n)
sample_count-more v n samples =
    ap in_64_bits (length-append samples (replicate n v) ∙ ap (λ m. length samples + m) (length-replicate n v)) ∙ count-more (length samples) n

-- ---- sums

sum-repeated : (v : ℤ) → FitsSigned w128 v → (n : ℕ) (s : ℤ) → FitsSigned w128 s → fold add_128 s (replicate n v) ≡ int_wrap w128 (s +ℤ (v *ℤ pos n))
sum-repeated v fits zero s in_range = sym (ap (int_wrap w128) (omega (arith, ints)) ∙ int_wrap_fits w128 s in_range)
sum-repeated v fits (suc n) s in_range =
    let one = wrapping_add_is w128 s v in_range fits in
    ap (λ t. fold add_128 t (replicate n v)) one
    ∙ sum-repeated v fits n (int_wrap w128 (s +ℤ v)) (SFits-int_wrap w128 (s +ℤ v))
    ∙ int_wrap-add_left w128 (s +ℤ v) (v *ℤ pos n)
    ∙ ap (int_wrap w128) (omega (arith, ints))

pub sample_sum-more : (v : ℤ) (n : ℕ) (samples : List ℤ) → FitsSigned w128 v → FitsSigned w128 (v *ℤ pos n) → FitsSigned w128 (sample_sum samples)
    → sample_sum (samples ++ replicate n v) ≡ add_128 (sample_sum samples) (v *ℤ pos n)
sample_sum-more v n samples fits product_fits in_range =
    fold-append add_128 (pos 0) samples (replicate n v)
    ∙ sum-repeated v fits n (sample_sum samples) in_range
    ∙ sym (wrapping_add_is w128 (sample_sum samples) (v *ℤ pos n) in_range product_fits)

-- ---- histograms

pub buckets-more : (v : ℤ) (n : ℕ) (samples : List ℤ) (bounds : List ℤ) (items : List (Fixed × ℕ))
    → map bucket_of items ≡ map (λ bound. (bound, bucket_count bound samples)) bounds
    → map bucket_of (map (raised_bucket v n) items) ≡ map (λ bound. (bound, bucket_count bound (samples ++ replicate n v))) bounds
buckets-more v n samples [] [] same = refl
buckets-more v n samples [] (x ∷ items) same = cc
buckets-more v n samples (b ∷ bounds) [] same = cc
buckets-more v n samples (b ∷ bounds) (x ∷ items) same =
    let head : bucket_of x ≡ (b, bucket_count b samples) = cc in
    let bound : x.0.0 ≡ b = ap (λ p. p.0) head in
    let count : x.1 ≡ bucket_count b samples = ap (λ p. p.1) head in
    let rest : map bucket_of items ≡ map (λ bound. (bound, bucket_count bound samples)) bounds = cc in
    (λ j. (bound j, cond (int_le v (bound j)) (in_64_bits (count j + n)) (count j)) ∷ buckets-more v n samples bounds items rest j)
    ∙ ap (λ m. (b, m) ∷ map (λ bound. (bound, bucket_count bound (samples ++ replicate n v))) bounds) (sym (bucket_count-more b v n samples))

pub buckets-none : (bounds : List Fixed) → map bucket_of (map (λ bound. (bound, 0)) bounds) ≡ map (λ bound. (bound, bucket_count bound [])) (map (λ bound. bound.0) bounds)
buckets-none [] = refl
buckets-none (b ∷ bounds) = ap (λ l. (b.0, 0) ∷ l) (buckets-none bounds)

-- a histogram after observations in turn stands for their samples in turn
stands_after : (bounds samples : List ℤ) (old new : HistogramText) (xs : List (ℤ × ℕ)) → StandsFor bounds samples old → FoldsTo Observes old xs new → StandsFor bounds (samples ++ observed_samples xs) new
stands_after bounds samples old new [] stands folds = subst (λ s. StandsFor bounds s new) (sym (append-nil samples)) (sym folds ∙ stands)
stands_after bounds samples old new (x ∷ xs) stands folds =
    subst (λ s. StandsFor bounds s new) (append_assoc samples (replicate x.1 x.0) (observed_samples xs))
    (stands_after bounds (samples ++ replicate x.1 x.0) folds.0 new xs (folds.1 bounds samples stands) folds.2)

-- so cuts don't matter
pub same_in_any_cuts : SameInAnyCuts
same_in_any_cuts bounds xs ys a b same folds other =
    stands_after bounds [] (histogram_of bounds []) a xs refl folds
    ∙ ap (histogram_of bounds) same
    ∙ sym (stands_after bounds [] (histogram_of bounds []) b ys refl other)

pub stands-more : (v : ℤ) (n : ℕ) (bounds samples : List ℤ) (items raised : List (Fixed × ℕ)) (sum : ℤ) (count : ℕ)
    → StandsFor bounds samples (record { buckets = map bucket_of items; sum = sum; count = count }) → raised ≡ map (raised_bucket v n) items
    → FitsSigned w128 v → FitsSigned w128 (v *ℤ pos n) → FitsSigned w128 sum
    → StandsFor bounds (samples ++ replicate n v) (record { buckets = map bucket_of raised; sum = add_128 sum (v *ℤ pos n); count = in_64_bits (count + n) })
stands-more v n bounds samples items raised sum count stands is fits product_fits in_range =
    let sum_is : sum ≡ sample_sum samples = ap (λ h. h.sum) stands in
    let sums : add_128 sum (v *ℤ pos n) ≡ sample_sum (samples ++ replicate n v) =
    ap (λ s. add_128 s (v *ℤ pos n)) sum_is ∙ sym (sample_sum-more v n samples fits product_fits (subst (FitsSigned w128) sum_is in_range)) in
    let counts : in_64_bits (count + n) ≡ sample_count (samples ++ replicate n v) =
    ap (λ m. in_64_bits (m + n)) (ap (λ h. h.count) stands) ∙ sym (sample_count-more v n samples) in
    let buckets : map bucket_of raised ≡ map (λ bound. (bound, bucket_count bound (samples ++ replicate n v))) bounds =
    ap (map bucket_of) is ∙ buckets-more v n samples bounds items (ap (λ h. h.buckets) stands) in
    λ j. record { buckets = buckets j; sum = sums j; count = counts j }
