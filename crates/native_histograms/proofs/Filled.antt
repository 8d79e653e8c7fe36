-- Buckets of lists of values, a value more.
use Rattle.std.proofs.Common.{◌≡◌, ℕ, zero, suc, ◌+◌, ◌*◌, ◌<◌, ◌≤◌, ◌^◌, Bool, true, false, cond, ◌&&◌, ◌||◌, not, List, [], ◌∷◌, ◌++◌, map, length, refl, sym, ap, subst, ◌∙◌, arith, append_assoc, append-nil, add-one, add-zero}
use Rattle.std.specs.Prelude.{ℤ, ◌≤ℤ◌, ◌<ℤ◌, ◌==◌, nat_lt, int_lt, unsigned_abs, None, is_none, FitsSigned, count_by, filter, replicate}
use Rattle.std.specs.Int.{w64}
use Rattle.std.specs.List.{AllByRecursion}
use Rattle.std.specs.Map.{lookup}
use Rattle.std.specs.Ordering.{int_eq}
use Rattle.std.specs.Cmp.{signed_Decides}
use Rattle.std.proofs.lemmas.Int.{ints}
use Rattle.std.proofs.lemmas.Bool.{lt-ltb, le-ltb}
use Rattle.std.proofs.lemmas.List.{map-append}
use Rattle.std.proofs.lemmas.List.Elements.{filter-append}
use Rattle.std.proofs.lemmas.List.Folds.{sum_by-replicate}
use Rattle.std.proofs.lemmas.List.Sums.{sum_by-append}
use Rattle.metrics_core.specs.Numbers.{in_64_bits}
use Rattle.native_histograms.specs.Native.{NativeText, opens_beside, index_of, is_positive, is_negative, indices_where, buckets_of, bucket_total, opens_too_many, depth_behind, depth_after, native_depth, zero_count}
use Rattle.native_histograms.specs.Settings.{IsInRange}
use Rattle.native_histograms.specs.Placed.{half_up, IsIndex, Sides, sides_behind, is_full, Places, BucketsText, Adds}
use Rattle.native_histograms.proofs.Indices.{IsIndex-index_of, index_of-halved}
use Rattle.native_histograms.proofs.Bucketed.{count, count-more, not_zero, length-buckets_of-push}

pub lt-int_lt : (a b : ℤ) → a <ℤ b → int_lt a b ≡ true
lt-int_lt a b lt = grind (arith, ints)

pub le-int_lt : (a b : ℤ) → b ≤ℤ a → int_lt a b ≡ false
le-int_lt a b le = grind (arith, ints)

-- ---- indices of values

-- a test of values that no zero passes
abbrev pub IsSound : (ℤ → Bool) → Type 0
IsSound test = (v : ℤ) → test v ≡ true → 1 ≤ unsigned_abs v

magnitude : (v : ℤ) → FitsSigned w64 v → unsigned_abs v ≤ 2 ^ 63
magnitude v fits = omega (arith, ints)

filter-passes : (test : ℤ → Bool) (v : ℤ) (n : ℕ) → test v ≡ true → filter test (replicate n v) ≡ replicate n v
filter-passes test v zero is = refl
filter-passes test v (suc n) is = ap (λ b. cond b (v ∷ filter test (replicate n v)) (filter test (replicate n v))) is ∙ ap (λ l. v ∷ l) (filter-passes test v n is)

filter-none : (test : ℤ → Bool) (v : ℤ) (n : ℕ) → test v ≡ false → filter test (replicate n v) ≡ []
filter-none test v zero is = refl
filter-none test v (suc n) is = ap (λ b. cond b (v ∷ filter test (replicate n v)) (filter test (replicate n v))) is ∙ filter-none test v n is

map-replicate : (f : ℤ → ℤ) (n : ℕ) (v : ℤ) → map f (replicate n v) ≡ replicate n (f v)
map-replicate f zero v = refl
map-replicate f (suc n) v = ap (λ l. f v ∷ l) (map-replicate f n v)

indices-more : (test : ℤ → Bool) (d : ℕ) (values : List ℤ) (v : ℤ) (n : ℕ) → test v ≡ true
    → indices_where test d (values ++ replicate n v) ≡ indices_where test d values ++ replicate n (index_of d (unsigned_abs v))
indices-more test d values v n is =
    ap (map (λ v. index_of d (unsigned_abs v))) (filter-append test values (replicate n v) ∙ ap (λ l. filter test values ++ l) (filter-passes test v n is))
    ∙ map-append (λ v. index_of d (unsigned_abs v)) (filter test values) (replicate n v)
    ∙ ap (λ l. indices_where test d values ++ l) (map-replicate (λ v. index_of d (unsigned_abs v)) n v)

indices-same : (test : ℤ → Bool) (d : ℕ) (values : List ℤ) (v : ℤ) (n : ℕ) → test v ≡ false
    → indices_where test d (values ++ replicate n v) ≡ indices_where test d values
indices-same test d values v n is =
    ap (map (λ v. index_of d (unsigned_abs v))) (filter-append test values (replicate n v) ∙ ap (λ l. filter test values ++ l) (filter-none test v n is) ∙ append-nil (filter test values))

-- all of them are indices
all-indices : (test : ℤ → Bool) (d : ℕ) (values : List ℤ) → AllByRecursion (FitsSigned w64) values → AllByRecursion IsIndex (indices_where test d values)
all-indices test d [] fit = tt
all-indices test d (v ∷ values) fit = by (test v) (all-indices test d values fit.1)
  where
    by : (b : Bool) → AllByRecursion IsIndex (indices_where test d values) → AllByRecursion IsIndex (map (λ v. index_of d (unsigned_abs v)) (cond b (v ∷ filter test values) (filter test values)))
    by true rest = (IsIndex-index_of d (unsigned_abs v) (magnitude v fit.0), rest)
    by false rest = rest

-- at one schema lower each is halved upwards
indices-halved : (test : ℤ → Bool) → IsSound test → (d : ℕ) (values : List ℤ) → AllByRecursion (FitsSigned w64) values
    → indices_where test (suc d) values ≡ map half_up (indices_where test d values)
indices-halved test sound d [] fit = refl
indices-halved test sound d (v ∷ values) fit = by (test v) refl (indices-halved test sound d values fit.1)
  where
    by : (b : Bool) → test v ≡ b → indices_where test (suc d) values ≡ map half_up (indices_where test d values)
        → map (λ v. index_of (suc d) (unsigned_abs v)) (cond b (v ∷ filter test values) (filter test values)) ≡ map half_up (map (λ v. index_of d (unsigned_abs v)) (cond b (v ∷ filter test values) (filter test values)))
    by true is rest = λ j. index_of-halved d (unsigned_abs v) (sound v is) (magnitude v fit.0) j ∷ rest j
    by false is rest = rest

-- ---- the sides after a value was placed

sides_at : (test other : ℤ → Bool) → IsSound test → IsSound other → (d : ℕ) (values : List ℤ) (v : ℤ) (n : ℕ) (full : Bool) → AllByRecursion (FitsSigned w64) values → FitsSigned w64 v
    → test v ≡ true → other v ≡ false
    → sides_behind full d (indices_where test d values) (indices_where other d values) (index_of d (unsigned_abs v), n)
    ≡ record {
      depth = cond full (d + 1) d;
      side = buckets_of (indices_where test (cond full (d + 1) d) (values ++ replicate n v));
      other = buckets_of (indices_where other (cond full (d + 1) d) (values ++ replicate n v));
    }
sides_at test other sound sound' d values v n true fit fits is not = λ j. record {
  depth = d + 1;
  side = buckets_of (
      (ap (λ l. l ++ replicate n (half_up (index_of d (unsigned_abs v)))) (sym (indices-halved test sound d values fit))
      ∙ ap (λ i. indices_where test (suc d) values ++ replicate n i) (sym (index_of-halved d (unsigned_abs v) (sound v is) (magnitude v fits)))
      ∙ sym (indices-more test (suc d) values v n is)
      ∙ ap (λ e. indices_where test e (values ++ replicate n v)) (sym (add-one d))) j);
  other = buckets_of (
      (sym (indices-halved other sound' d values fit)
      ∙ sym (indices-same other (suc d) values v n not)
      ∙ ap (λ e. indices_where other e (values ++ replicate n v)) (sym (add-one d))) j);
}
sides_at test other sound sound' d values v n false fit fits is not = λ j. record {
  depth = d;
  side = buckets_of (sym (indices-more test d values v n is) j);
  other = buckets_of (sym (indices-same other d values v n not) j);
}

-- ---- how many buckets there are

length-side : (test : ℤ → Bool) (d : ℕ) (values : List ℤ) (v : ℤ) → FitsSigned w64 v → test v ≡ true
    → length (buckets_of (indices_where test d (values ++ v ∷ []))) ≡ length (buckets_of (indices_where test d values)) + cond (count (indices_where test d values) (index_of d (unsigned_abs v)) == 0) 1 0
length-side test d values v fits is =
    ap (λ l. length (buckets_of l)) (indices-more test d values v 1 is)
    ∙ length-buckets_of-push (indices_where test d values) (index_of d (unsigned_abs v)) (IsIndex-index_of d (unsigned_abs v) (magnitude v fits))

length-other : (test : ℤ → Bool) (d : ℕ) (values : List ℤ) (v : ℤ) → test v ≡ false
    → length (buckets_of (indices_where test d (values ++ v ∷ []))) ≡ length (buckets_of (indices_where test d values))
length-other test d values v not = ap (λ l. length (buckets_of l)) (indices-same test d values v 1 not)

-- a value that is there opens no bucket
length-again : (test : ℤ → Bool) (d : ℕ) (values : List ℤ) (v : ℤ) (b : Bool) → test v ≡ b → FitsSigned w64 v
    → length (buckets_of (indices_where test d ((values ++ v ∷ []) ++ v ∷ []))) ≡ length (buckets_of (indices_where test d (values ++ v ∷ [])))
length-again test d values v true is fits =
    length-side test d (values ++ v ∷ []) v fits is
    ∙ ap (λ c. length (buckets_of (indices_where test d (values ++ v ∷ []))) + cond {A = ℕ} c 1 0) (not_zero (count (indices_where test d (values ++ v ∷ [])) (index_of d (unsigned_abs v))) (omega (arith, more)))
    ∙ add-zero (length (buckets_of (indices_where test d (values ++ v ∷ []))))
  where
    once_more : (k : ℤ) (found : List ℤ) → 1 ≤ count (found ++ replicate 1 k) k
    once_more k found = omega (arith, count-more found k k 1, ap (λ b. cond {A = ℕ} b 1 0) ((signed_Decides k k).1 refl))

    more : 1 ≤ count (indices_where test d (values ++ v ∷ [])) (index_of d (unsigned_abs v))
    more = subst (λ l. 1 ≤ count l (index_of d (unsigned_abs v))) (sym (indices-more test d values v 1 is)) (once_more (index_of d (unsigned_abs v)) (indices_where test d values))
length-again test d values v false under fits = length-other test d (values ++ v ∷ []) v under

opens_by : (opens : Bool) (t t' s most : ℕ) → t' ≡ t + cond opens 1 0 → s ≡ t + 1 → (opens && nat_lt most s) ≡ (nat_lt t t' && nat_lt most t')
opens_by true t t' s most is same =
    let more : t' ≡ s = omega arith in
    ap (λ n. nat_lt most n) (sym more) ∙ ap (λ b. b && nat_lt most t') (sym (lt-ltb t t' (omega arith)))
opens_by false t t' s most is same = ap (λ b. b && nat_lt most t') (sym (le-ltb t t' (omega arith)))

full_positive : (config : NativeText) (d : ℕ) (values : List ℤ) (v : ℤ) → FitsSigned w64 v → is_positive config v ≡ true → is_negative config v ≡ false
    → is_full config.max_buckets d (indices_where (is_positive config) d values) (indices_where (is_negative config) d values) (index_of d (unsigned_abs v)) ≡ (nat_lt d 4 && opens_too_many config d values v)
full_positive config d values v fits is not =
    let side = length-side (is_positive config) d values v fits is in
    let other = length-other (is_negative config) d values v not in
    ap (λ b. nat_lt d 4 && b) (opens_by (count (indices_where (is_positive config) d values) (index_of d (unsigned_abs v)) == 0) (bucket_total config d values) (bucket_total config d (values ++ v ∷ []))
    (bucket_total config d values + 1) config.max_buckets (omega (arith, side, other)) refl)

full_negative : (config : NativeText) (d : ℕ) (values : List ℤ) (v : ℤ) → FitsSigned w64 v → is_positive config v ≡ false → is_negative config v ≡ true
    → is_full config.max_buckets d (indices_where (is_negative config) d values) (indices_where (is_positive config) d values) (index_of d (unsigned_abs v)) ≡ (nat_lt d 4 && opens_too_many config d values v)
full_negative config d values v fits not is =
    let side = length-side (is_negative config) d values v fits is in
    let other = length-other (is_positive config) d values v not in
    ap (λ b. nat_lt d 4 && b) (opens_by (count (indices_where (is_negative config) d values) (index_of d (unsigned_abs v)) == 0) (bucket_total config d values) (bucket_total config d (values ++ v ∷ []))
    (length (buckets_of (indices_where (is_negative config) d values)) + length (buckets_of (indices_where (is_positive config) d values)) + 1) config.max_buckets (omega (arith, side, other)) (omega arith))

-- ---- the schema

-- the same value again doesn't lower it
stays_once : (config : NativeText) (d : ℕ) (values : List ℤ) (v : ℤ) → bucket_total config d (values ++ v ∷ []) ≡ bucket_total config d values → depth_behind config d values v ≡ d
stays_once config d values v same =
    ap (λ t. cond (nat_lt d 4 && (nat_lt (bucket_total config d values) t && nat_lt config.max_buckets t)) (d + 1) d) same
    ∙ ap (λ b. cond (nat_lt d 4 && (b && nat_lt config.max_buckets (bucket_total config d values))) (d + 1) d) (le-ltb (bucket_total config d values) (bucket_total config d values) (omega arith))
    ∙ by (nat_lt d 4)
  where
    by : (b : Bool) → cond (b && false) (d + 1) d ≡ d
    by true = refl
    by false = refl

stays : (config : NativeText) (d : ℕ) (values : List ℤ) (v : ℤ) (n : ℕ) → FitsSigned w64 v → depth_after config d (values ++ v ∷ []) (replicate n v) ≡ d
stays config d values v zero fits = refl
stays config d values v (suc n) fits =
    let same : bucket_total config d ((values ++ v ∷ []) ++ v ∷ []) ≡ bucket_total config d (values ++ v ∷ []) =
    λ j. length-again (is_positive config) d values v (is_positive config v) refl fits j + length-again (is_negative config) d values v (is_negative config v) refl fits j in
    ap (λ e. depth_after config e ((values ++ v ∷ []) ++ v ∷ []) (replicate n v)) (stays_once config d (values ++ v ∷ []) v same)
    ∙ stays config d (values ++ v ∷ []) v n fits

depth_after-append : (config : NativeText) (d : ℕ) (before xs ys : List ℤ) → depth_after config d before (xs ++ ys) ≡ depth_after config (depth_after config d before xs) (before ++ xs) ys
depth_after-append config d before [] ys = ap (λ b. depth_after config d b ys) (sym (append-nil before))
depth_after-append config d before (x ∷ xs) ys =
    depth_after-append config (depth_behind config d before x) (before ++ x ∷ []) xs ys
    ∙ ap (λ b. depth_after config (depth_after config (depth_behind config d before x) (before ++ x ∷ []) xs) b ys) (append_assoc before (x ∷ []) xs)

depth-more : (config : NativeText) (values : List ℤ) (v : ℤ) (n : ℕ) → FitsSigned w64 v → 0 < n → native_depth config (values ++ replicate n v) ≡ depth_behind config (native_depth config values) values v
depth-more config values v zero fits some = absurd (omega arith)
depth-more config values v (suc n) fits some =
    depth_after-append config config.depth [] values (v ∷ replicate n v)
    ∙ stays config (depth_behind config (native_depth config values) values v) values v n fits

-- a zero opens no bucket
depth-same : (config : NativeText) (values : List ℤ) (v : ℤ) (n : ℕ) → FitsSigned w64 v → 0 < n → is_positive config v ≡ false → is_negative config v ≡ false
    → native_depth config (values ++ replicate n v) ≡ native_depth config values
depth-same config values v n fits some not not' =
    let d = native_depth config values in
    depth-more config values v n fits some
    ∙ stays_once config d values v (λ j. length-other (is_positive config) d values v not j + length-other (is_negative config) d values v not' j)

-- ---- zeros

abbrev is_zero : NativeText → ℤ → Bool
is_zero config v = not (is_positive config v || is_negative config v)

zeros-more : (config : NativeText) (values : List ℤ) (v : ℤ) (n : ℕ)
    → zero_count config (values ++ replicate n v) ≡ in_64_bits (zero_count config values + cond (not (is_positive config v || is_negative config v)) n 0)
zeros-more config values v n =
    ap in_64_bits (sum_by-append (λ x. cond (is_zero config x) 1 0) values (replicate n v) ∙ ap (λ m. count_by (is_zero config) values + m) (sum_by-replicate (λ x. cond (is_zero config x) 1 0) n v ∙ by (is_zero config v)))
    ∙ wrapped (count_by (is_zero config) values) (cond (is_zero config v) n 0)
  where
    by : (b : Bool) → n * cond b 1 0 ≡ cond b n 0
    by true = omega arith
    by false = omega arith

    wrapped : (a m : ℕ) → in_64_bits (a + m) ≡ in_64_bits (in_64_bits a + m)
    wrapped a m = omega arith

zeros-same : (config : NativeText) (values : List ℤ) (v : ℤ) (n : ℕ) → (is_positive config v || is_negative config v) ≡ true → zero_count config (values ++ replicate n v) ≡ zero_count config values
zeros-same config values v n is =
    zeros-more config values v n
    ∙ ap (λ b. in_64_bits (zero_count config values + cond (not b) n 0)) is
    ∙ again (count_by (λ v. not (is_positive config v || is_negative config v)) values)
  where
    again : (a : ℕ) → in_64_bits (in_64_bits a + 0) ≡ in_64_bits a
    again a = omega arith

-- ---- buckets

positive-sound : (config : NativeText) → IsInRange config → IsSound (is_positive config)
positive-sound config range v is = let least = range.threshold in grind (arith, ints)

negative-sound : (config : NativeText) → IsInRange config → IsSound (is_negative config)
negative-sound config range v is = let least = range.threshold in grind (arith, ints)

positive-alone : (config : NativeText) → IsInRange config → (v : ℤ) → is_positive config v ≡ true → is_negative config v ≡ false
positive-alone config range v is = let least = range.threshold in grind (arith, ints)

or_true : (b : Bool) → (b || true) ≡ true
or_true true = refl
or_true false = refl

pub adds_positive : (config : NativeText) → IsInRange config → (v : ℤ) (n : ℕ) → FitsSigned w64 v → 0 < n → is_positive config v ≡ true
    → (old new : Sides) (zeros : ℕ) → Places config.max_buckets old (index_of old.depth (unsigned_abs v), n) new
    → Adds config (record { depth = old.depth; positive = old.side; negative = old.other; zeros = zeros }) (v, n) (record { depth = new.depth; positive = new.side; negative = new.other; zeros = zeros })
adds_positive config range v n fits some is old new zeros placed values fit stands =
    let p = is_positive config in
    let q = is_negative config in
    let not = positive-alone config range v is in
    let d = old.depth in
    let depth : d ≡ native_depth config values = ap (λ b. b.depth) stands in
    let k = index_of d (unsigned_abs v) in
    let full = is_full config.max_buckets d (indices_where p d values) (indices_where q d values) k in
    let behind : cond full (d + 1) d ≡ native_depth config (values ++ replicate n v) =
    ap (λ b. cond b (d + 1) d) (full_positive config d values v fits is not) ∙ ap (λ e. depth_behind config e values v) depth ∙ sym (depth-more config values v n fits some) in
    let sides : new ≡ record { depth = native_depth config (values ++ replicate n v); side = buckets_of (indices_where p (native_depth config (values ++ replicate n v)) (values ++ replicate n v)); other = buckets_of (indices_where q (native_depth config (values ++ replicate n v)) (values ++ replicate n v)) } =
    placed (indices_where p d values) (indices_where q d values) (all-indices p d values fit) (all-indices q d values fit) (IsIndex-index_of d (unsigned_abs v) (magnitude v fits))
    (ap (λ b. b.positive) stands ∙ ap (λ e. buckets_of (indices_where p e values)) (sym depth)) (ap (λ b. b.negative) stands ∙ ap (λ e. buckets_of (indices_where q e values)) (sym depth))
    ∙ sides_at p q (positive-sound config range) (negative-sound config range) d values v n full fit fits is not
    ∙ (λ j. record { depth = behind j; side = buckets_of (indices_where p (behind j) (values ++ replicate n v)); other = buckets_of (indices_where q (behind j) (values ++ replicate n v)) }) in
    let same : zeros ≡ zero_count config (values ++ replicate n v) = ap (λ b. b.zeros) stands ∙ sym (zeros-same config values v n (ap (λ b. b || is_negative config v) is)) in
    λ j. record { depth = (sides j).depth; positive = (sides j).side; negative = (sides j).other; zeros = same j }

pub adds_negative : (config : NativeText) → IsInRange config → (v : ℤ) (n : ℕ) → FitsSigned w64 v → 0 < n → is_positive config v ≡ false → is_negative config v ≡ true
    → (old new : Sides) (zeros : ℕ) → Places config.max_buckets old (index_of old.depth (unsigned_abs v), n) new
    → Adds config (record { depth = old.depth; positive = old.other; negative = old.side; zeros = zeros }) (v, n) (record { depth = new.depth; positive = new.other; negative = new.side; zeros = zeros })
adds_negative config range v n fits some not is old new zeros placed values fit stands =
    let p = is_positive config in
    let q = is_negative config in
    let d = old.depth in
    let depth : d ≡ native_depth config values = ap (λ b. b.depth) stands in
    let k = index_of d (unsigned_abs v) in
    let full = is_full config.max_buckets d (indices_where q d values) (indices_where p d values) k in
    let behind : cond full (d + 1) d ≡ native_depth config (values ++ replicate n v) =
    ap (λ b. cond b (d + 1) d) (full_negative config d values v fits not is) ∙ ap (λ e. depth_behind config e values v) depth ∙ sym (depth-more config values v n fits some) in
    let sides : new ≡ record { depth = native_depth config (values ++ replicate n v); side = buckets_of (indices_where q (native_depth config (values ++ replicate n v)) (values ++ replicate n v)); other = buckets_of (indices_where p (native_depth config (values ++ replicate n v)) (values ++ replicate n v)) } =
    placed (indices_where q d values) (indices_where p d values) (all-indices q d values fit) (all-indices p d values fit) (IsIndex-index_of d (unsigned_abs v) (magnitude v fits))
    (ap (λ b. b.negative) stands ∙ ap (λ e. buckets_of (indices_where q e values)) (sym depth)) (ap (λ b. b.positive) stands ∙ ap (λ e. buckets_of (indices_where p e values)) (sym depth))
    ∙ sides_at q p (negative-sound config range) (positive-sound config range) d values v n full fit fits is not
    ∙ (λ j. record { depth = behind j; side = buckets_of (indices_where q (behind j) (values ++ replicate n v)); other = buckets_of (indices_where p (behind j) (values ++ replicate n v)) }) in
    let same : zeros ≡ zero_count config (values ++ replicate n v) = ap (λ b. b.zeros) stands ∙ sym (zeros-same config values v n (ap (λ b. is_positive config v || b) is ∙ or_true (is_positive config v))) in
    λ j. record { depth = (sides j).depth; positive = (sides j).other; negative = (sides j).side; zeros = same j }

pub adds_zero : (config : NativeText) (v : ℤ) (n : ℕ) → FitsSigned w64 v → 0 < n → is_positive config v ≡ false → is_negative config v ≡ false
    → (old : BucketsText) → Adds config old (v, n) (record old { zeros = in_64_bits (old.zeros + n) })
adds_zero config v n fits some over under old values fit stands =
    let p = is_positive config in
    let q = is_negative config in
    let vs = values ++ replicate n v in
    let depth : native_depth config values ≡ native_depth config vs = sym (depth-same config values v n fits some over under) in
    let positive : buckets_of (indices_where p (native_depth config values) values) ≡ buckets_of (indices_where p (native_depth config vs) vs) =
    λ j. buckets_of ((sym (indices-same p (native_depth config values) values v n over) ∙ ap (λ e. indices_where p e vs) depth) j) in
    let negative : buckets_of (indices_where q (native_depth config values) values) ≡ buckets_of (indices_where q (native_depth config vs) vs) =
    λ j. buckets_of ((sym (indices-same q (native_depth config values) values v n under) ∙ ap (λ e. indices_where q e vs) depth) j) in
    let zeros : in_64_bits (old.zeros + n) ≡ zero_count config vs =
    ap (λ z. in_64_bits (z + n)) (ap (λ b. b.zeros) stands) ∙ sym (zeros-more config values v n ∙ ap (λ b. in_64_bits (zero_count config values + cond (not b) n 0)) (λ j. (over j || under j))) in
    λ j. record { depth = (ap (λ b. b.depth) stands ∙ depth) j; positive = (ap (λ b. b.positive) stands ∙ positive) j; negative = (ap (λ b. b.negative) stands ∙ negative) j; zeros = zeros j }

-- ---- whether a value opens a bucket

pub opens_positive : (config : NativeText) (depth : ℕ) (positive negative : List (ℤ × ℕ)) (v k : ℤ) → is_positive config v ≡ true → k ≡ index_of depth (unsigned_abs v)
    → lookup (int_eq k) positive ≡ None → opens_beside config depth positive negative v ≡ true
opens_positive config depth positive negative v k is same absent =
    ap (λ b. cond b (is_none (lookup (int_eq (index_of depth (unsigned_abs v))) positive)) (is_negative config v && is_none (lookup (int_eq (index_of depth (unsigned_abs v))) negative))) is
    ∙ ap (λ i. is_none (lookup (int_eq i) positive)) (sym same)
    ∙ ap is_none absent

pub opens_negative : (config : NativeText) (depth : ℕ) (positive negative : List (ℤ × ℕ)) (v k : ℤ) → is_positive config v ≡ false → is_negative config v ≡ true
    → k ≡ index_of depth (unsigned_abs v) → lookup (int_eq k) negative ≡ None → opens_beside config depth positive negative v ≡ true
opens_negative config depth positive negative v k over is same absent =
    ap (λ b. cond b (is_none (lookup (int_eq (index_of depth (unsigned_abs v))) positive)) (is_negative config v && is_none (lookup (int_eq (index_of depth (unsigned_abs v))) negative))) over
    ∙ ap (λ b. b && is_none (lookup (int_eq (index_of depth (unsigned_abs v))) negative)) is
    ∙ ap (λ i. is_none (lookup (int_eq i) negative)) (sym same)
    ∙ ap is_none absent
