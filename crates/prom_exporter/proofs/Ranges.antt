-- Values that stay in the bits of the program's.
use Rattle.std.proofs.Common.{ℕ, zero, suc, ◌+◌, ◌*◌, ◌^◌, ◌<◌, Bool, true, false, cond, List, [], ◌∷◌, ◌++◌, map, sym, subst, arith}
use Rattle.std.specs.Prelude.{ℤ, pos, fold, max, replicate, flat_map, slice_get, unwrap_or, zip, FitsSigned}
use Rattle.std.specs.Int.{w64, w128}
use Rattle.std.specs.Ordering.{is_lt, int_cmp}
use Rattle.std.specs.List.{AllByRecursion}
use Rattle.std.specs.declared.cmp.Ordering.{Ordering}
use Rattle.std.proofs.lemmas.Int.{ints, wrapping_add_is, wrapping_sub_is, SFits-int_wrap, fits_signed_from_abs}
use Rattle.metrics_core.specs.Numbers.{whole, in_64_bits, add_64, sub_64, add_128}
use Rattle.metrics_core.specs.Sorting.{insert_by, sorted_by}
use Rattle.metrics_core.specs.Calls.{Call, samples, Increment, Absolute, Add, Subtract, Set, Record, counter_step, gauge_step}
use Rattle.rolling_summaries.specs.declared.buckets.Bucket.{Bucket}
use Rattle.rolling_summaries.specs.Window.{Sample, timed_samples, window}
use Rattle.rolling_summaries.specs.Summaries.{empty_summary, in_window, snapshot_at}
use Rattle.rolling_summaries.specs.Standing.{Addition, added_samples, added_all}
use Rattle.prom_exporter.proofs.KeptBuckets.{kept-all, all-filter}
use Rattle.prom_exporter.specs.Ranges.{HasFixedValue}
use Rattle.metrics_registry.specs.Quantiles.{ascending, quantile_of}

pub wider : (v : ℤ) → FitsSigned w64 v → FitsSigned w128 v
wider v fits = omega (arith, ints)

pub whole_fits : (n : ℕ) → n < 2 ^ 64 → FitsSigned w128 (whole n)
whole_fits n small = fits_signed_from_abs w128 (whole n) (omega arith)

pub in_64-small : (n : ℕ) → in_64_bits n < 2 ^ 64
in_64-small n = omega arith

pub sum_fits : (values : List ℤ) (sum : ℤ) → FitsSigned w128 sum → AllByRecursion (FitsSigned w64) values → FitsSigned w128 (fold add_128 sum values)
sum_fits [] sum fits all = fits
sum_fits (v ∷ values) sum fits all =
    let one : FitsSigned w128 (add_128 sum v) = subst (FitsSigned w128) (sym (wrapping_add_is w128 sum v fits (wider v all.0))) (SFits-int_wrap w128 _) in
    sum_fits values (add_128 sum v) one all.1

pub counter_fits : (calls : List Call) (total : ℕ) → total < 2 ^ 64 → AllByRecursion HasFixedValue calls → fold counter_step total calls < 2 ^ 64
counter_fits [] total small all = small
counter_fits (Increment n ∷ calls) total small all = counter_fits calls (in_64_bits (total + n)) (in_64-small (total + n)) all.1
counter_fits (Absolute n ∷ calls) total small all = counter_fits calls (max total n) (let least = all.0 in omega (arith, least)) all.1
counter_fits (Add v ∷ calls) total small all = counter_fits calls total small all.1
counter_fits (Subtract v ∷ calls) total small all = counter_fits calls total small all.1
counter_fits (Set v ∷ calls) total small all = counter_fits calls total small all.1
counter_fits (Record v m n ∷ calls) total small all = counter_fits calls total small all.1

pub gauge_fits : (calls : List Call) (value : ℤ) → FitsSigned w64 value → AllByRecursion HasFixedValue calls → FitsSigned w64 (fold gauge_step value calls)
gauge_fits [] value fits all = fits
gauge_fits (Add v ∷ calls) value fits all =
    gauge_fits calls (add_64 value v) (subst (FitsSigned w64) (sym (wrapping_add_is w64 value v fits all.0)) (SFits-int_wrap w64 _)) all.1
gauge_fits (Subtract v ∷ calls) value fits all =
    gauge_fits calls (sub_64 value v) (subst (FitsSigned w64) (sym (wrapping_sub_is w64 value v fits all.0)) (SFits-int_wrap w64 _)) all.1
gauge_fits (Set v ∷ calls) value fits all = gauge_fits calls v all.0 all.1
gauge_fits (Increment n ∷ calls) value fits all = gauge_fits calls value fits all.1
gauge_fits (Absolute n ∷ calls) value fits all = gauge_fits calls value fits all.1
gauge_fits (Record v m n ∷ calls) value fits all = gauge_fits calls value fits all.1

-- ---- values in order

module _ {K : Type 0} (P : K → Type 0) where
  all-insert : (R : K → K → Ordering) (x : K) (ys : List K) → P x → AllByRecursion P ys → AllByRecursion P (insert_by R x ys)
  all-insert R x [] one all = (one, tt)
  all-insert R x (y ∷ ys) one all = by (is_lt (R y x)) (all-insert R x ys one all.1)
    where
      by : (b : Bool) → AllByRecursion P (insert_by R x ys) → AllByRecursion P (cond b (y ∷ insert_by R x ys) (x ∷ y ∷ ys))
      by true rest = (all.0, rest)
      by false rest = (one, all)

  all-sorted : (R : K → K → Ordering) (xs : List K) → AllByRecursion P xs → AllByRecursion P (sorted_by R xs)
  all-sorted R [] all = tt
  all-sorted R (x ∷ xs) all = all-insert R x (sorted_by R xs) all.0 (all-sorted R xs all.1)

  pub all-append : (xs ys : List K) → AllByRecursion P xs → AllByRecursion P ys → AllByRecursion P (xs ++ ys)
  all-append [] ys h k = k
  all-append (x ∷ xs) ys h k = (h.0, all-append xs ys h.1 k)

  all-replicate : (n : ℕ) (x : K) → P x → AllByRecursion P (replicate n x)
  all-replicate zero x one = tt
  all-replicate (suc n) x one = (one, all-replicate n x one)

  all-found : (xs : List K) (i : ℕ) (d : K) → AllByRecursion P xs → P d → P (unwrap_or (slice_get xs i) d)
  all-found [] i d h k = k
  all-found (x ∷ xs) zero d h k = h.0
  all-found (x ∷ xs) (suc i) d h k = all-found xs i d h.1 k

pub zero_fits : FitsSigned w64 (pos 0)
zero_fits = omega (arith, ints)

pub quantile_fits : (q : ℤ) (values : List ℤ) → AllByRecursion (FitsSigned w64) values → FitsSigned w64 (quantile_of q values)
quantile_fits q values all = all-found (FitsSigned w64) (ascending values) _ (pos 0) (all-sorted (FitsSigned w64) int_cmp values all) zero_fits

-- ---- the values of windows

abbrev pub Fits : ℤ → Type 0
Fits = FitsSigned w64

abbrev pub HasFitting : Sample → Type 0
HasFitting sample = Fits sample.value

pub timed_fit : (calls : List Call) → AllByRecursion HasFixedValue calls → AllByRecursion HasFitting (timed_samples calls)
timed_fit [] all = tt
timed_fit (Record v m n ∷ calls) all = all-append HasFitting (replicate n (record { value = v; moment = m })) (timed_samples calls) (all-replicate HasFitting n (record { value = v; moment = m }) all.0) (timed_fit calls all.1)
timed_fit (Increment n ∷ calls) all = timed_fit calls all.1
timed_fit (Absolute n ∷ calls) all = timed_fit calls all.1
timed_fit (Add v ∷ calls) all = timed_fit calls all.1
timed_fit (Subtract v ∷ calls) all = timed_fit calls all.1
timed_fit (Set v ∷ calls) all = timed_fit calls all.1

pub plain_fit : (calls : List Call) → AllByRecursion HasFixedValue calls → AllByRecursion Fits (samples calls)
plain_fit [] all = tt
plain_fit (Record v m n ∷ calls) all = all-append Fits (replicate n v) (samples calls) (all-replicate Fits n v all.0) (plain_fit calls all.1)
plain_fit (Increment n ∷ calls) all = plain_fit calls all.1
plain_fit (Absolute n ∷ calls) all = plain_fit calls all.1
plain_fit (Add v ∷ calls) all = plain_fit calls all.1
plain_fit (Subtract v ∷ calls) all = plain_fit calls all.1
plain_fit (Set v ∷ calls) all = plain_fit calls all.1

zip_fit : (samples : List Sample) (ms : List ℕ) → AllByRecursion HasFitting samples → AllByRecursion (λ (p : Sample × ℕ). Fits p.0.value) (zip samples ms)
zip_fit [] ms all = tt
zip_fit (s ∷ samples) [] all = tt
zip_fit (s ∷ samples) (m ∷ ms) all = (all.0, zip_fit samples ms all.1)

pub all-map : {K L : Type 0} (P : L → Type 0) (f : K → L) (xs : List K) → AllByRecursion (λ x. P (f x)) xs → AllByRecursion P (map f xs)
all-map P f [] all = tt
all-map P f (x ∷ xs) all = (all.0, all-map P f xs all.1)

pub window_fits : (width span t : ℕ) (samples : List Sample) → AllByRecursion HasFitting samples → AllByRecursion Fits (window width span t samples)
window_fits width span t samples all =
    all-map Fits (λ (p : Sample × ℕ). p.0.value) _ (all-filter (λ (p : Sample × ℕ). Fits p.0.value) (λ (p : Sample × ℕ). in_window span t p.1) _ (zip_fit samples _ all))

abbrev HasValues : Bucket → Type 0
HasValues bucket = AllByRecursion Fits bucket.values

values_fit : (buckets : List Bucket) → AllByRecursion HasValues buckets → AllByRecursion Fits (flat_map (λ bucket. bucket.values) buckets)
values_fit [] all = tt
values_fit (b ∷ buckets) all = all-append Fits b.values (flat_map (λ bucket. bucket.values) buckets) all.0 (values_fit buckets all.1)

ascending_fit : (values : List ℤ) → AllByRecursion Fits values → AllByRecursion Fits (ascending values)
ascending_fit values all = all-sorted Fits int_cmp values all

pub kept_fits : (limit width t : ℕ) (calls : List Addition) → AllByRecursion HasFitting (added_samples calls) → AllByRecursion Fits (snapshot_at t (added_all (empty_summary limit width) calls))
kept_fits limit width t calls all =
    let w = added_all (empty_summary limit width) calls in
    let fit = kept-all HasValues HasFitting
    (λ x n b right kept. ascending_fit (b.values ++ replicate (suc n) x.value) (all-append Fits b.values (replicate (suc n) x.value) kept (all-replicate Fits (suc n) x.value right)))
    (λ x n begin right from. ascending_fit (replicate (suc n) x.value) (all-replicate Fits (suc n) x.value right)) calls (empty_summary limit width) all tt in
    ascending_fit _ (values_fit _ (all-filter HasValues (λ b. in_window (w.limit * w.width) t b.begin) w.kept fit))
