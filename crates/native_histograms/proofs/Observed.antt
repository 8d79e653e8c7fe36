-- Histograms of lists of values, a value more.
use Rattle.std.proofs.Common.{◌≡◌, ℕ, ◌+◌, List, [], ◌∷◌, ◌++◌, refl, sym, ap, subst, ◌∙◌, append-nil, append_assoc}
use Rattle.std.specs.Prelude.{ℤ, pos, ◌*ℤ◌, FitsSigned, replicate}
use Rattle.std.specs.Int.{w64, w128}
use Rattle.std.specs.List.{FoldsTo}
use Rattle.metrics_core.specs.Numbers.{in_64_bits, add_128}
use Rattle.metrics_registry.proofs.Observed.{sample_sum-more, sample_count-more}
use Rattle.metrics_registry.specs.Cumulative.{sample_sum, sample_count}
use Rattle.native_histograms.specs.Native.{NativeText, NativeHistogramText, native_of, StandsFor, Observes, observed_values, SameInAnyCuts}
use Rattle.native_histograms.specs.Placed.{BucketsText, parts_of, Adds}
use Rattle.native_histograms.proofs.Bucketed.{all-append, all-replicate}

-- the buckets of a histogram
abbrev pub parts : NativeHistogramText → BucketsText
parts h = record { depth = h.depth; positive = h.positive; negative = h.negative; zeros = h.zeros }

abbrev pub with_parts : NativeText → BucketsText → ℤ → ℕ → NativeHistogramText
with_parts config b sum count = record { config = config; depth = b.depth; positive = b.positive; negative = b.negative; zeros = b.zeros; sum = sum; count = count }

pub observes : (config : NativeText) (old new : BucketsText) (sum : ℤ) (count : ℕ) (v : ℤ) (n : ℕ) → FitsSigned w64 v → FitsSigned w128 v → FitsSigned w128 (v *ℤ pos n) → FitsSigned w128 sum
    → Adds config old (v, n) new → Observes (with_parts config old sum count) (v, n) (with_parts config new (add_128 sum (v *ℤ pos n)) (in_64_bits (count + n)))
observes config old new sum count v n fits wide product_fits in_range adds config' values stands =
    let e : with_parts config old sum count ≡ native_of config' values = stands.1 in
    let same : config ≡ config' = ap (λ h. h.config) e in
    let more : new ≡ parts_of config' (values ++ replicate n v) = subst (λ c. Adds c old (v, n) new) same adds values stands.0 (ap parts e) in
    let sum_is : sum ≡ sample_sum values = ap (λ h. h.sum) e in
    let sums : add_128 sum (v *ℤ pos n) ≡ sample_sum (values ++ replicate n v) =
    ap (λ s. add_128 s (v *ℤ pos n)) sum_is ∙ sym (sample_sum-more v n values wide product_fits (subst (FitsSigned w128) sum_is in_range)) in
    let counts : in_64_bits (count + n) ≡ sample_count (values ++ replicate n v) =
    ap (λ m. in_64_bits (m + n)) (ap (λ h. h.count) e) ∙ sym (sample_count-more v n values) in
    (all-append (FitsSigned w64) values (replicate n v) stands.0 (all-replicate (FitsSigned w64) n v fits), λ j. with_parts (same j) (more j) (sums j) (counts j))

-- a histogram after observations in turn stands for their values in turn
stands_after : (config : NativeText) (values : List ℤ) (old new : NativeHistogramText) (xs : List (ℤ × ℕ)) → StandsFor config values old → FoldsTo Observes old xs new → StandsFor config (values ++ observed_values xs) new
stands_after config values old new [] stands folds = subst (λ s. StandsFor config s new) (sym (append-nil values)) (stands.0, sym folds ∙ stands.1)
stands_after config values old new (x ∷ xs) stands folds =
    subst (λ s. StandsFor config s new) (append_assoc values (replicate x.1 x.0) (observed_values xs))
    (stands_after config (values ++ replicate x.1 x.0) folds.0 new xs (folds.1 config values stands) folds.2)

-- so cuts don't matter
pub same_in_any_cuts : SameInAnyCuts
same_in_any_cuts config xs ys a b same folds other =
    (stands_after config [] (native_of config []) a xs (tt, refl) folds).1
    ∙ ap (native_of config) same
    ∙ sym (stands_after config [] (native_of config []) b ys (tt, refl) other).1
