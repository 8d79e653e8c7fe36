-- Buckets as maps from indices to counts.
use Rattle.std.proofs.Common.{◌≡◌, ℕ, zero, suc, ◌+◌, ◌*◌, ◌<◌, ◌≤◌, Bool, true, false, cond, ◌&&◌, ◌||◌, not, List, [], ◌∷◌, ◌++◌, map, length, Option, Some, None, refl, sym, ap, subst, ◌∙◌, inl, inr, arith, zero-add, add-zero}
use Rattle.std.specs.Prelude.{ℤ, is_none, nat_lt, ◌<ℤ◌, ◌==◌, count_by, sum_by, fold, filter_map, replicate, unwrap_or}
use Rattle.std.specs.List.{AllByRecursion, range_with_len, list_any, cons_option}
use Rattle.std.specs.List.Sorted.{IsStrictlySortedBy}
use Rattle.std.specs.Map.{lookup, keys_of}
use Rattle.std.specs.Ordering.{int_cmp, int_eq, is_eq, MatchOrdering}
use Rattle.std.specs.declared.cmp.Ordering.TheVariants.{Less, Equal, Greater}
use Rattle.std.specs.declared.cmp.Ordering.{Ordering}
use Rattle.std.specs.Cmp.{int_cmp_total, int_eq_equiv, int_ranks, signed_Decides}
use Rattle.std.proofs.lemmas.Bool.{false≢true, cases_lt, cases_Bool, eqb-true}
use Rattle.std.proofs.lemmas.Int.{ints}
use Rattle.std.proofs.lemmas.List.Folds.{sum_by-replicate}
use Rattle.std.proofs.lemmas.List.Sums.{sum_by-cons, sum_by-append}
use Rattle.metrics_core.specs.Numbers.{in_64_bits}
use Rattle.native_histograms.specs.Native.{indices, bucket_at, buckets_of}
use Rattle.native_histograms.specs.Placed.{half_up, IsIndex, raised_at, Raises, Halves, is_full}
use Rattle.native_histograms.proofs.Indices.{place, IsIndex-half_up}

-- how often an index is there
abbrev pub count : List ℤ → ℤ → ℕ
count found i = count_by (int_eq i) found

-- what a map has at an index after so many more of it; none of it leaves all as it was
abbrev pub added : Option ℕ → ℕ → Option ℕ
added before zero = before
added before (suc n) = Some (in_64_bits (unwrap_or before 0 + suc n))

-- what a map has at an index that is there so often
abbrev pub held : ℕ → Option ℕ
held n = added None n

not_none : (n : ℕ) → (n == 0) ≡ false → 0 < n
not_none zero is = absurd (false≢true (sym is))
not_none (suc n) is = omega arith

pub not_zero : (n : ℕ) → 0 < n → (n == 0) ≡ false
not_zero n some = elim (cases_Bool (n == 0)) [
  | inl is ↦ absurd (omega (arith, eqb-true n 0 is))
  | inr not ↦ not
]

added-some : (before : Option ℕ) (n : ℕ) → 0 < n → added before n ≡ Some (in_64_bits (unwrap_or before 0 + n))
added-some before zero some = absurd (omega arith)
added-some before (suc n) some = refl

held-some : (n : ℕ) → 0 < n → held n ≡ Some (in_64_bits n)
held-some n some = added-some None n some ∙ ap (λ m. Some (in_64_bits m)) (zero-add n)

in_order : (a b : ℕ) → in_64_bits (in_64_bits a + b) ≡ in_64_bits (a + b)
in_order a b = omega arith

added-added : (before : Option ℕ) (m n : ℕ) → added (added before m) n ≡ added before (m + n)
added-added before zero n = ap (added before) (sym (zero-add n))
added-added before (suc m) zero = ap (added before) (sym (add-zero (suc m)))
added-added before (suc m) (suc n) =
    let both : in_64_bits (in_64_bits (unwrap_or before 0 + suc m) + suc n) ≡ in_64_bits (unwrap_or before 0 + (suc m + suc n)) = omega arith in
    ap (λ x. Some x) both ∙ sym (added-some before (suc m + suc n) (omega arith))

same_index : (i j : ℤ) → int_eq i j ≡ true → i ≡ j
same_index i j = (signed_Decides i j).0

itself : (i : ℤ) → int_eq i i ≡ true
itself i = (signed_Decides i i).1 refl

-- ---- sums over indices

sum_by-plus : (f g : ℤ → ℕ) (is : List ℤ) → sum_by (λ i. f i + g i) is ≡ sum_by f is + sum_by g is
sum_by-plus f g [] = refl
sum_by-plus f g (i ∷ is) = omega (arith, sum_by-cons (λ i. f i + g i) i is, sum_by-cons f i is, sum_by-cons g i is, sum_by-plus f g is)

sum_by-none : (is : List ℤ) → sum_by (λ _. 0) is ≡ 0
sum_by-none [] = refl
sum_by-none (i ∷ is) = sum_by-none is

apart_below : (b n : ℕ) (k : ℤ) (g : ℤ → ℕ) → ((j : ℕ) → b ≤ j → int_eq (place j) k ≡ false) → sum_by (λ i. cond (int_eq i k) (g i) 0) (map place (range_with_len b n)) ≡ 0
apart_below b zero k g apart = refl
apart_below b (suc n) k g apart =
    sum_by-cons (λ i. cond (int_eq i k) (g i) 0) (place b) (map place (range_with_len (b + 1) n))
    ∙ (λ j. cond (apart b (omega arith) j) (g (place b)) 0 + apart_below (b + 1) n k g (λ j le. apart j (omega arith)) j)

places_apart : (j k : ℕ) → k < j → int_eq (place j) (place k) ≡ false
places_apart j k lt = elim (cases_Bool (int_eq (place j) (place k))) [
  | inl is ↦ let same = same_index (place j) (place k) is in absurd (omega (arith, ints))
  | inr not ↦ not
]

once_from : (b n k : ℕ) (g : ℤ → ℕ) → b ≤ k → k < b + n → sum_by (λ i. cond (int_eq i (place k)) (g i) 0) (map place (range_with_len b n)) ≡ g (place k)
once_from b zero k g least most = absurd (omega arith)
once_from b (suc n) k g least most = elim (cases_lt b k) [
  | inl lt ↦
      sum_by-cons (λ i. cond (int_eq i (place k)) (g i) 0) (place b) (map place (range_with_len (b + 1) n))
      ∙ (λ j. cond ((int_eq_equiv.symm (place b) (place k) ∙ places_apart k b lt) j) (g (place b)) 0 + once_from (b + 1) n k g (omega arith) (omega arith) j)
      ∙ zero-add (g (place k))
  | inr ge ↦
      let same : b ≡ k = omega arith in
      sum_by-cons (λ i. cond (int_eq i (place k)) (g i) 0) (place b) (map place (range_with_len (b + 1) n))
      ∙ (λ j. cond ((ap (λ x. int_eq (place x) (place k)) same ∙ itself (place k)) j) (g (place (same j))) 0 + apart_below (b + 1) n (place k) g (λ x le. places_apart x k (omega arith)) j)
      ∙ add-zero (g (place k))
]

-- an index is there once
once : (k : ℤ) (g : ℤ → ℕ) → IsIndex k → sum_by (λ i. cond (int_eq i k) (g i) 0) indices ≡ g k
unfolding indices
once k g is = subst (λ x. sum_by (λ i. cond (int_eq i x) (g i) 0) (map place (range_with_len 0 64)) ≡ g x) (sym is.2) (once_from 0 64 is.0 g (omega arith) (let h = is.1 in omega arith))

-- ---- what is found at an index

lookup-among : (found : List ℤ) (q : ℤ) (is : List ℤ) → lookup (λ k. int_eq q k) (filter_map (bucket_at found) is) ≡ cond (list_any (int_eq q) is) (held (count found q)) None
lookup-among found q [] = refl
lookup-among found q (i ∷ is) =
    first_bucket q i (count found i) (filter_map (bucket_at found) is) (count found i == 0) refl
    ∙ ap (λ o. cond (not (count found i == 0) && int_eq q i) (Some (in_64_bits (count found i))) o) (lookup-among found q is)
    ∙ with_rest (count found i) (count found q) (count found i == 0) refl (int_eq q i) (λ own. ap (count found) (sym (same_index q i own))) (list_any (int_eq q) is)
  where
    first_bucket : (q i : ℤ) (n : ℕ) (es : List (ℤ × ℕ)) (none : Bool) → (n == 0) ≡ none
        → lookup (λ k. int_eq q k) (cons_option (cond none None (Some (i, in_64_bits n))) es) ≡ cond (not none && int_eq q i) (Some (in_64_bits n)) (lookup (λ k. int_eq q k) es)
    first_bucket q i n es true is = refl
    first_bucket q i n es false is = refl

    with_rest : (n m : ℕ) (none : Bool) → (n == 0) ≡ none → (own : Bool) → (own ≡ true → n ≡ m) → (any : Bool)
        → cond (not none && own) (Some (in_64_bits n)) (cond any (held m) None) ≡ cond (own || any) (held m) None
    with_rest n m true is true same true = refl
    with_rest n m true is true same false = ap held (sym (eqb-true n 0 is) ∙ same refl)
    with_rest n m false is true same any = sym (held-some n (not_none n is)) ∙ ap held (same refl)
    with_rest n m true is false same any = refl
    with_rest n m false is false same any = refl

any_from : (b n k : ℕ) → b ≤ k → k < b + n → list_any (int_eq (place k)) (map place (range_with_len b n)) ≡ true
any_from b zero k least most = absurd (omega arith)
any_from b (suc n) k least most = elim (cases_lt b k) [
  | inl lt ↦ ap (λ x. int_eq (place k) (place b) || x) (any_from (b + 1) n k (omega arith) (omega arith)) ∙ or_true (int_eq (place k) (place b))
  | inr ge ↦ let same : b ≡ k = omega arith in ap (λ x. x || list_any (int_eq (place k)) (map place (range_with_len (b + 1) n))) (ap (λ x. int_eq (place k) (place x)) same ∙ itself (place k))
]
  where
    or_true : (x : Bool) → (x || true) ≡ true
    or_true true = refl
    or_true false = refl

any_index : (k : ℤ) → IsIndex k → list_any (int_eq k) indices ≡ true
unfolding indices
any_index k is = subst (λ x. list_any (int_eq x) (map place (range_with_len 0 64)) ≡ true) (sym is.2) (any_from 0 64 is.0 (omega arith) (let h = is.1 in omega arith))

count_outside : (found : List ℤ) (q : ℤ) → AllByRecursion IsIndex found → list_any (int_eq q) indices ≡ false → count found q ≡ 0
count_outside [] q all outside = refl
count_outside (x ∷ xs) q all outside = elim (cases_Bool (int_eq q x)) [
  | inl own ↦ absurd (false≢true (sym outside ∙ ap (λ k. list_any (int_eq k) indices) (same_index q x own) ∙ any_index x all.0))
  | inr not ↦ sum_by-cons (λ y. cond (int_eq q y) 1 0) x xs ∙ (λ j. cond (not j) 1 0 + count_outside xs q all.1 outside j)
]

pub lookup-buckets_of : (found : List ℤ) → AllByRecursion IsIndex found → (q : ℤ) → lookup (λ k. int_eq q k) (buckets_of found) ≡ held (count found q)
unfolding buckets_of
lookup-buckets_of found all q = lookup-among found q indices ∙ by (list_any (int_eq q) indices) refl
  where
    by : (any : Bool) → list_any (int_eq q) indices ≡ any → cond any (held (count found q)) None ≡ held (count found q)
    by true is = refl
    by false is = ap held (sym (count_outside found q all is))

-- ---- the buckets are in order

below : (i j : ℤ) → i <ℤ j → int_cmp i j ≡ Less
below i j lt = by (int_cmp i j) refl (int_ranks i j)
  where
    by : (o : Ordering) → int_cmp i j ≡ o → MatchOrdering o (i <ℤ j) (i ≡ j) (j <ℤ i) → int_cmp i j ≡ Less
    by Less is ranks = is
    by Equal is ranks = absurd (omega (arith, ints))
    by Greater is ranks = absurd (omega (arith, ints))

all_above : (P : ℤ → Type 0) (i : ℤ) (n : ℕ) (es : List (ℤ × ℕ)) (none : Bool) → P i → AllByRecursion P (keys_of es) → AllByRecursion P (keys_of (cons_option (cond none None (Some (i, n))) es))
all_above P i n es true is all = all
all_above P i n es false is all = (is, all)

above : (found : List ℤ) (a b n : ℕ) → a < b → AllByRecursion (λ y. int_cmp (place a) y ≡ Less) (keys_of (filter_map (bucket_at found) (map place (range_with_len b n))))
above found a b zero lt = tt
above found a b (suc n) lt =
    all_above (λ y. int_cmp (place a) y ≡ Less) (place b) (in_64_bits (count found (place b))) (filter_map (bucket_at found) (map place (range_with_len (b + 1) n))) (count found (place b) == 0)
    (below (place a) (place b) (omega (arith, ints))) (above found a (b + 1) n (omega arith))

sorted_more : (i : ℤ) (n : ℕ) (es : List (ℤ × ℕ)) (none : Bool) → AllByRecursion (λ y. int_cmp i y ≡ Less) (keys_of es) → IsStrictlySortedBy int_cmp (keys_of es)
    → IsStrictlySortedBy int_cmp (keys_of (cons_option (cond none None (Some (i, n))) es))
unfolding IsStrictlySortedBy
sorted_more i n es true all sorted = sorted
sorted_more i n es false all sorted = (all, sorted)

sorted_from : (found : List ℤ) (b n : ℕ) → IsStrictlySortedBy int_cmp (keys_of (filter_map (bucket_at found) (map place (range_with_len b n))))
unfolding IsStrictlySortedBy
sorted_from found b zero = tt
sorted_from found b (suc n) =
    sorted_more (place b) (in_64_bits (count found (place b))) (filter_map (bucket_at found) (map place (range_with_len (b + 1) n))) (count found (place b) == 0)
    (above found b (b + 1) n (omega arith)) (sorted_from found (b + 1) n)

pub sorted-buckets_of : (found : List ℤ) → IsStrictlySortedBy int_cmp (keys_of (buckets_of found))
unfolding buckets_of indices
sorted-buckets_of found = sorted_from found 0 64

lookup-below : (q : ℤ) (es : List (ℤ × ℕ)) → AllByRecursion (λ y. int_cmp q y ≡ Less) (keys_of es) → lookup (λ k. int_eq q k) es ≡ None
lookup-below q [] all = refl
lookup-below q (e ∷ es) all = ap (λ b. cond (is_eq b) (Some e.1) (lookup (λ k. int_eq q k) es)) all.0 ∙ lookup-below q es all.1

all_below : (x y : ℤ) (ks : List ℤ) → int_cmp x y ≡ Less → AllByRecursion (λ z. int_cmp y z ≡ Less) ks → AllByRecursion (λ z. int_cmp x z ≡ Less) ks
all_below x y [] lt all = tt
all_below x y (k ∷ ks) lt all = (int_cmp_total.trans x y k lt all.0, all_below x y ks lt all.1)

at_head : (e : ℤ × ℕ) (es : List (ℤ × ℕ)) → lookup (λ k. int_eq e.0 k) (e ∷ es) ≡ Some e.1
at_head e es = ap (λ b. cond b (Some e.1) (lookup (λ k. int_eq e.0 k) es)) (itself e.0)

is_there : (n : ℕ) → Some n ≡ None → ⊥
is_there n is = cc

-- two lists of entries in order with the same at each index are equal
same_entries : (es fs : List (ℤ × ℕ)) → IsStrictlySortedBy int_cmp (keys_of es) → IsStrictlySortedBy int_cmp (keys_of fs)
    → ((q : ℤ) → lookup (λ k. int_eq q k) es ≡ lookup (λ k. int_eq q k) fs) → es ≡ fs
unfolding IsStrictlySortedBy
same_entries [] [] sorted sorted' same = refl
same_entries [] (y ∷ ys) sorted sorted' same = absurd (is_there y.1 (sym (same y.0 ∙ at_head y ys)))
same_entries (x ∷ xs) [] sorted sorted' same = absurd (is_there x.1 (sym (at_head x xs) ∙ same x.0))
same_entries (x ∷ xs) (y ∷ ys) sorted sorted' same =
    let heads : x.0 ≡ y.0 = by (int_cmp x.0 y.0) refl (int_ranks x.0 y.0) in
    let values : Some x.1 ≡ Some y.1 = sym (at_head x xs) ∙ same x.0 ∙ ap (λ k. lookup (λ i. int_eq k i) (y ∷ ys)) heads ∙ at_head y ys in
    let value : x.1 ≡ y.1 = cc in
    let rest : xs ≡ ys = same_entries xs ys sorted.1 sorted'.1 (λ q. tails q heads (int_eq q x.0) refl) in
    λ j. (heads j, value j) ∷ rest j
  where
    by : (o : Ordering) → int_cmp x.0 y.0 ≡ o → MatchOrdering o (x.0 <ℤ y.0) (x.0 ≡ y.0) (y.0 <ℤ x.0) → x.0 ≡ y.0
    by Less is ranks = absurd (is_there x.1 (sym (at_head x xs) ∙ same x.0 ∙ lookup-below x.0 (y ∷ ys) (is, all_below x.0 y.0 (keys_of ys) is sorted'.0)))
    by Equal is ranks = ranks
    by Greater is ranks =
        let lt = below y.0 x.0 ranks in
        absurd (is_there y.1 (sym (at_head y ys) ∙ sym (same y.0) ∙ lookup-below y.0 (x ∷ xs) (lt, all_below y.0 x.0 (keys_of xs) lt sorted.0)))

    past : (q : ℤ) (e : ℤ × ℕ) (es : List (ℤ × ℕ)) → int_eq q e.0 ≡ false → lookup (λ k. int_eq q k) (e ∷ es) ≡ lookup (λ k. int_eq q k) es
    past q e es apart = ap (λ b. cond b (Some e.1) (lookup (λ k. int_eq q k) es)) apart

    tails : (q : ℤ) → x.0 ≡ y.0 → (b : Bool) → int_eq q x.0 ≡ b → lookup (λ k. int_eq q k) xs ≡ lookup (λ k. int_eq q k) ys
    tails q heads true is =
        let own = same_index q x.0 is in
        ap (λ z. lookup (λ k. int_eq z k) xs) own ∙ lookup-below x.0 xs sorted.0
        ∙ sym (ap (λ z. lookup (λ k. int_eq z k) ys) (own ∙ heads) ∙ lookup-below y.0 ys sorted'.0)
    tails q heads false is = sym (past q x xs is) ∙ same q ∙ past q y ys (ap (int_eq q) (sym heads) ∙ is)

-- entries in order that have at each index what is found there are the buckets
pub same_buckets : (es : List (ℤ × ℕ)) (found : List ℤ) → AllByRecursion IsIndex found → IsStrictlySortedBy int_cmp (keys_of es)
    → ((q : ℤ) → lookup (λ k. int_eq q k) es ≡ held (count found q)) → es ≡ buckets_of found
same_buckets es found all sorted same = same_entries es (buckets_of found) sorted (sorted-buckets_of found) (λ q. same q ∙ sym (lookup-buckets_of found all q))

pub buckets_of-none : buckets_of [] ≡ []
unfolding buckets_of indices
buckets_of-none = refl

-- ---- more of an index

pub count-more : (found : List ℤ) (q k : ℤ) (n : ℕ) → count (found ++ replicate n k) q ≡ count found q + cond (int_eq q k) n 0
count-more found q k n =
    sum_by-append (λ x. cond (int_eq q x) 1 0) found (replicate n k)
    ∙ ap (λ m. count found q + m) (sum_by-replicate (λ x. cond (int_eq q x) 1 0) n k ∙ by (int_eq q k))
  where
    by : (b : Bool) → n * cond b 1 0 ≡ cond b n 0
    by true = omega arith
    by false = omega arith

pub held-raised : (found : List ℤ) (q k : ℤ) (n : ℕ) → 0 < n → raised_at k n q (held (count found q)) ≡ held (count (found ++ replicate n k) q)
held-raised found q k n some = by (int_eq q k) ∙ ap held (sym (count-more found q k n))
  where
    by : (own : Bool) → cond own (Some (in_64_bits (unwrap_or (held (count found q)) 0 + n))) (held (count found q)) ≡ held (count found q + cond own n 0)
    by true = sym (added-some (held (count found q)) n some) ∙ added-added None (count found q) n
    by false = ap held (sym (add-zero (count found q)))

pub all-append : (P : ℤ → Type 0) (xs ys : List ℤ) → AllByRecursion P xs → AllByRecursion P ys → AllByRecursion P (xs ++ ys)
all-append P [] ys all more = more
all-append P (x ∷ xs) ys all more = (all.0, all-append P xs ys all.1 more)

pub all-replicate : (P : ℤ → Type 0) (n : ℕ) (k : ℤ) → P k → AllByRecursion P (replicate n k)
all-replicate P zero k is = tt
all-replicate P (suc n) k is = (is, all-replicate P n k is)

pub all-map-half_up : (xs : List ℤ) → AllByRecursion IsIndex xs → AllByRecursion IsIndex (map half_up xs)
all-map-half_up [] all = tt
all-map-half_up (x ∷ xs) all = (IsIndex-half_up x all.0, all-map-half_up xs all.1)

pub raises : (old new : List (ℤ × ℕ)) (k : ℤ) (n : ℕ) → 0 < n → IsStrictlySortedBy int_cmp (keys_of new)
    → ((q : ℤ) → lookup (λ i. int_eq q i) new ≡ raised_at k n q (lookup (λ i. int_eq q i) old)) → Raises old (k, n) new
raises old new k n some sorted raised found all is stands =
    same_buckets new (found ++ replicate n k) (all-append IsIndex found (replicate n k) all (all-replicate IsIndex n k is)) sorted (λ q.
    raised q
    ∙ ap (λ es. raised_at k n q (lookup (λ i. int_eq q i) es)) stands
    ∙ ap (raised_at k n q) (lookup-buckets_of found all q)
    ∙ held-raised found q k n some)

-- ---- how many buckets there are

length-among : (found is : List ℤ) → length (filter_map (bucket_at found) is) ≡ sum_by (λ i. cond (count found i == 0) 0 1) is
length-among found [] = refl
length-among found (i ∷ is) =
    by (count found i == 0) ∙ ap (λ n. cond (count found i == 0) 0 1 + n) (length-among found is) ∙ sym (sum_by-cons (λ i. cond (count found i == 0) 0 1) i is)
  where
    by : (none : Bool) → length (cons_option (cond none None (Some (i, in_64_bits (count found i)))) (filter_map (bucket_at found) is)) ≡ cond none 0 1 + length (filter_map (bucket_at found) is)
    by true = omega arith
    by false = omega arith

pub length-buckets_of-push : (found : List ℤ) (k : ℤ) → IsIndex k → length (buckets_of (found ++ k ∷ [])) ≡ length (buckets_of found) + cond (count found k == 0) 1 0
unfolding buckets_of
length-buckets_of-push found k is =
    length-among (found ++ k ∷ []) indices
    ∙ ap (λ f. sum_by f indices) (λ j i. by (count found i) (int_eq i k) (count (found ++ k ∷ []) i) (count-more found i k 1) j)
    ∙ sum_by-plus (λ i. cond (count found i == 0) 0 1) (λ i. cond (int_eq i k) (cond (count found i == 0) 1 0) 0) indices
    ∙ (λ j. sym (length-among found indices) j + once k (λ i. cond (count found i == 0) 1 0) is j)
  where
    either : (b : Bool) → cond b 0 1 + cond b 1 0 ≡ 1
    either true = refl
    either false = refl

    by : (n : ℕ) (own : Bool) (m : ℕ) → m ≡ n + cond own 1 0 → cond (m == 0) 0 1 ≡ cond (n == 0) 0 1 + cond own (cond (n == 0) 1 0) 0
    by n true m is = ap (λ b. cond b 0 1) (not_zero m (omega arith)) ∙ sym (either (n == 0))
    by n false m is = let f : ℕ → ℕ = λ x. cond (x == 0) 0 1 in let same : m ≡ n = omega arith in ap f same ∙ sym (add-zero (f n))

-- ---- halved indices

halved_sum : (q : ℤ) (found : List ℤ) → AllByRecursion IsIndex found → sum_by (λ i. cond (int_eq q (half_up i)) (count found i) 0) indices ≡ count (map half_up found) q
halved_sum q [] all = ap (λ f. sum_by f indices) (λ j i. by (int_eq q (half_up i)) j) ∙ sum_by-none indices
  where
    by : (b : Bool) → cond {A = ℕ} b 0 0 ≡ 0
    by true = refl
    by false = refl
halved_sum q (x ∷ xs) all =
    ap (λ f. sum_by f indices) (λ j i. by (int_eq q (half_up i)) (int_eq i x) (count (x ∷ xs) i) (count xs i) (sum_by-cons (λ y. cond (int_eq i y) 1 0) x xs) j)
    ∙ sum_by-plus (λ i. cond (int_eq i x) (cond (int_eq q (half_up i)) 1 0) 0) (λ i. cond (int_eq q (half_up i)) (count xs i) 0) indices
    ∙ (λ j. once x (λ i. cond (int_eq q (half_up i)) 1 0) all.0 j + halved_sum q xs all.1 j)
    ∙ sym (sum_by-cons (λ y. cond (int_eq q y) 1 0) (half_up x) (map half_up xs))
  where
    by : (b own : Bool) (n m : ℕ) → n ≡ cond own 1 0 + m → cond b n 0 ≡ cond own (cond b 1 0) 0 + cond b m 0
    by true true n m is = is
    by true false n m is = is
    by false true n m is = refl
    by false false n m is = refl

-- so much more of each bucket, at its index halved
pub fold_halved : (found : List ℤ) (q : ℤ) (is : List ℤ) (before : Option ℕ)
    → fold (λ o e. raised_at (half_up e.0) e.1 q o) before (filter_map (bucket_at found) is) ≡ added before (sum_by (λ i. cond (int_eq q (half_up i)) (count found i) 0) is)
fold_halved found q [] before = refl
fold_halved found q (i ∷ is) before =
    first_bucket (count found i) (count found i == 0) refl
    ∙ fold_halved found q is (added before (cond (int_eq q (half_up i)) (count found i) 0))
    ∙ added-added before (cond (int_eq q (half_up i)) (count found i) 0) (sum_by (λ i. cond (int_eq q (half_up i)) (count found i) 0) is)
    ∙ ap (added before) (sym (sum_by-cons (λ i. cond (int_eq q (half_up i)) (count found i) 0) i is))
  where
    none_more : (own : Bool) → before ≡ added before (cond own 0 0)
    none_more true = refl
    none_more false = refl

    some_more : (n : ℕ) (own : Bool) → 0 < n → cond own (Some (in_64_bits (unwrap_or before 0 + in_64_bits n))) before ≡ added before (cond own n 0)
    some_more n true some =
        let wrapped : in_64_bits (unwrap_or before 0 + in_64_bits n) ≡ in_64_bits (unwrap_or before 0 + n) = omega arith in
        ap (λ x. Some x) wrapped ∙ sym (added-some before n some)
    some_more n false some = refl

    first_bucket : (n : ℕ) (none : Bool) → (n == 0) ≡ none
        → fold (λ o e. raised_at (half_up e.0) e.1 q o) before (cons_option (cond none None (Some (i, in_64_bits n))) (filter_map (bucket_at found) is))
        ≡ fold (λ o e. raised_at (half_up e.0) e.1 q o) (added before (cond (int_eq q (half_up i)) n 0)) (filter_map (bucket_at found) is)
    first_bucket n true none =
        ap (λ o. fold (λ o e. raised_at (half_up e.0) e.1 q o) o (filter_map (bucket_at found) is)) (none_more (int_eq q (half_up i)) ∙ ap (λ m. added before (cond (int_eq q (half_up i)) m 0)) (sym (eqb-true n 0 none)))
    first_bucket n false none =
        ap (λ o. fold (λ o e. raised_at (half_up e.0) e.1 q o) o (filter_map (bucket_at found) is)) (some_more n (int_eq q (half_up i)) (not_none n none))

-- buckets whose indices are halved one after the other
pub halves : (old new : List (ℤ × ℕ)) → IsStrictlySortedBy int_cmp (keys_of new)
    → ((q : ℤ) → lookup (λ i. int_eq q i) new ≡ fold (λ o e. raised_at (half_up e.0) e.1 q o) None old) → Halves old new
unfolding buckets_of
halves old new sorted folded found all stands =
    same_buckets new (map half_up found) (all-map-half_up found all) sorted (λ q.
    folded q
    ∙ ap (λ es. fold (λ o e. raised_at (half_up e.0) e.1 q o) None es) stands
    ∙ fold_halved found q indices None
    ∙ ap held (halved_sum q found all))

-- ---- whether a bucket opens

is_none-held : (n : ℕ) → is_none (held n) ≡ (n == 0)
is_none-held zero = refl
is_none-held (suc n) = sym (not_zero (suc n) (omega arith))

pub full_is : (max_buckets depth : ℕ) (side other : List (ℤ × ℕ)) (k : ℤ) (found others : List ℤ) → AllByRecursion IsIndex found → side ≡ buckets_of found → other ≡ buckets_of others
    → (nat_lt depth 4 && (is_none (lookup (int_eq k) side) && nat_lt max_buckets (length side + length other + 1))) ≡ is_full max_buckets depth found others k
full_is max_buckets depth side other k found others all stands stands' =
    let none : is_none (lookup (int_eq k) side) ≡ (count found k == 0) =
    ap (λ es. is_none (lookup (int_eq k) es)) stands ∙ ap is_none (lookup-buckets_of found all k) ∙ is_none-held (count found k) in
    λ j. nat_lt depth 4 && (none j && nat_lt max_buckets (length (stands j) + length (stands' j) + 1))
