-- Keys whose ranks rise: where one that is equal to a key can stand among them.
use Rattle.std.proofs.Common.{◌≡◌, ℕ, zero, suc, ◌+◌, ◌<◌, ◌≤◌, Bool, true, false, cond, not, List, [], ◌∷◌, ◌++◌, get_or, Some, refl, sym, ap, subst, ◌∙◌, inl, inr, arith}
use Rattle.std.specs.Prelude.{slice_get, position, remove, take, length, sum_by, Ok, Err, if◌then◌else◌}
use Rattle.std.specs.List.{position_or_len, list_any}
use Rattle.std.specs.List.Sorted.{IsBinarySearchResult}
use Rattle.std.specs.Ordering.{is_lt, nat_cmp}
use Rattle.std.specs.declared.cmp.Ordering.{Ordering}
use Rattle.std.proofs.lemmas.Bool.{cases_lt}
use Rattle.std.proofs.lemmas.List.Sums.{sum_by-cons}
use Rattle.std.proofs.lemmas.Option.{slice_get-get_or, slice_get_within}
use Rattle.metrics_core.specs.Numbers.{in_64_bits}
use Rattle.metrics_core.specs.Sorting.{insert_by, sorted_by}
use Rattle.metrics_core.specs.SortingLaws.{same_sorted}
use Rattle.metrics_core.specs.Keys.{KeyText, label_cmp, key_eq, SameKey}
use Rattle.metrics_core.specs.KeyLaws.{label_cmp_total, label_cmp_ties, label_eq_is, key_eq_is}
use Rattle.metrics_registry.specs.KeyRuns.{IsBelowRanks, RanksRise, AreUpTo, key_rank, text_rank, value_rank}
use Rattle.metrics_registry.proofs.Searched.{compared, equal_number, greater_number, less_number}
use Rattle.metrics_registry.proofs.NumberedKeys.{some_place}

-- ---- equal keys have one rank

module _ {X : Type 0} (R : X → X → Ordering) (f : X → ℕ) where
  sum-insert_by : (x : X) (xs : List X) → sum_by f (insert_by R x xs) ≡ f x + sum_by f xs
  sum-insert_by x [] = sum_by-cons f x []
  sum-insert_by x (y ∷ ys) =
      elim (is_lt (R y x)) as (λ b. sum_by f (if b then y ∷ insert_by R x ys else x ∷ y ∷ ys) ≡ f x + sum_by f (y ∷ ys)) [
        | true ↦ omega (arith, sum_by-cons f y (insert_by R x ys), sum-insert_by x ys, sum_by-cons f y ys)
        | false ↦ sum_by-cons f x (y ∷ ys)
      ]

  -- a list that is put in order has the same sum
  sum-sorted_by : (xs : List X) → sum_by f (sorted_by R xs) ≡ sum_by f xs
  sum-sorted_by [] = refl
  sum-sorted_by (x ∷ xs) = omega (arith, sum-insert_by x (sorted_by R xs), sum-sorted_by xs, sum_by-cons f x xs)

pub one_rank : (key k : KeyText) → key_eq key k ≡ true → key_rank key ≡ key_rank k
one_rank key k same = by ((key_eq_is key k).0 same)
  where
    by : SameKey key k → key_rank key ≡ key_rank k
    by (name, labels) =
        let sums : sum_by value_rank key.labels ≡ sum_by value_rank k.labels =
        sym (sum-sorted_by label_cmp value_rank key.labels)
        ∙ ap (sum_by value_rank) (same_sorted label_cmp_total label_eq_is label_cmp_ties key.labels k.labels labels)
        ∙ sum-sorted_by label_cmp value_rank k.labels in
        λ i. in_64_bits (text_rank (name i) + sums i)

-- a key of another rank isn't equal
other_rank : (key k : KeyText) → (key_rank key ≡ key_rank k → ⊥) → key_eq key k ≡ false
other_rank key k differ = by (key_eq key k) refl
  where
    by : (b : Bool) → key_eq key k ≡ b → key_eq key k ≡ false
    by true e = absurd (differ (one_rank key k e))
    by false e = e

-- ---- keys whose ranks rise

-- a key of a greater rank than all others is none of them
pub none_up_to : (last : ℕ) (key : KeyText) (ks : List KeyText) → AreUpTo last ks → last < key_rank key → list_any (key_eq key) ks ≡ false
none_up_to last key [] all greater = refl
none_up_to last key (k ∷ ks) all greater =
    rw (other_rank key k (λ same. omega (arith, all.0, greater, same))) (none_up_to last key ks all.1 greater)

none_below : (key : KeyText) (rank : ℕ) (ks : List KeyText) → IsBelowRanks rank ks → key_rank key ≤ rank → list_any (key_eq key) ks ≡ false
none_below key rank [] below le = refl
none_below key rank (k ∷ ks) below le =
    rw (other_rank key k (λ same. omega (arith, below.0, le, same))) (none_below key rank ks below.1 le)

below-push : (rank : ℕ) (ks : List KeyText) (key : KeyText) → IsBelowRanks rank ks → rank < key_rank key → IsBelowRanks rank (ks ++ key ∷ [])
below-push rank [] key below greater = (greater, tt)
below-push rank (k ∷ ks) key below greater = (below.0, below-push rank ks key below.1 greater)

pub rise-push : (last : ℕ) (ks : List KeyText) (key : KeyText) → RanksRise ks → AreUpTo last ks → last < key_rank key → RanksRise (ks ++ key ∷ [])
rise-push last [] key rise all greater = (tt, tt)
rise-push last (k ∷ ks) key rise all greater =
    (below-push (key_rank k) ks key rise.0 (omega (arith, all.0, greater)), rise-push last ks key rise.1 all.1 greater)

pub up_to-push : (last rank : ℕ) (ks : List KeyText) (key : KeyText) → AreUpTo last ks → last ≤ rank → key_rank key ≤ rank → AreUpTo rank (ks ++ key ∷ [])
up_to-push last rank [] key all le own = (own, tt)
up_to-push last rank (k ∷ ks) key all le own = (omega (arith, all.0, le), up_to-push last rank ks key all.1 le own)

below-take : (n rank : ℕ) (ks : List KeyText) → IsBelowRanks rank ks → IsBelowRanks rank (take n ks)
below-take zero rank [] below = tt
below-take zero rank (k ∷ ks) below = tt
below-take (suc n) rank [] below = tt
below-take (suc n) rank (k ∷ ks) below = (below.0, below-take n rank ks below.1)

pub rise-take : (n : ℕ) (ks : List KeyText) → RanksRise ks → RanksRise (take n ks)
rise-take zero [] rise = tt
rise-take zero (k ∷ ks) rise = tt
rise-take (suc n) [] rise = tt
rise-take (suc n) (k ∷ ks) rise = (below-take n (key_rank k) ks rise.0, rise-take n ks rise.1)

pub up_to-take : (n last : ℕ) (ks : List KeyText) → AreUpTo last ks → AreUpTo last (take n ks)
up_to-take zero last [] all = tt
up_to-take zero last (k ∷ ks) all = tt
up_to-take (suc n) last [] all = tt
up_to-take (suc n) last (k ∷ ks) all = (all.0, up_to-take n last ks all.1)

below-remove : (i rank : ℕ) (ks : List KeyText) → IsBelowRanks rank ks → IsBelowRanks rank (remove ks i)
below-remove zero rank [] below = tt
below-remove zero rank (k ∷ ks) below = below.1
below-remove (suc i) rank [] below = tt
below-remove (suc i) rank (k ∷ ks) below = (below.0, below-remove i rank ks below.1)

pub rise-remove : (i : ℕ) (ks : List KeyText) → RanksRise ks → RanksRise (remove ks i)
rise-remove zero [] rise = tt
rise-remove zero (k ∷ ks) rise = rise.1
rise-remove (suc i) [] rise = tt
rise-remove (suc i) (k ∷ ks) rise = (below-remove i (key_rank k) ks rise.0, rise-remove i ks rise.1)

pub up_to-remove : (i last : ℕ) (ks : List KeyText) → AreUpTo last ks → AreUpTo last (remove ks i)
up_to-remove zero last [] all = tt
up_to-remove zero last (k ∷ ks) all = all.1
up_to-remove (suc i) last [] all = tt
up_to-remove (suc i) last (k ∷ ks) all = (all.0, up_to-remove i last ks all.1)

below_at : (rank : ℕ) (ks : List KeyText) (i : ℕ) (k : KeyText) → IsBelowRanks rank ks → slice_get ks i ≡ Some k → rank < key_rank k
below_at rank [] i k below at = cc
below_at rank (x ∷ ks) zero k below at = let is : x ≡ k = cc at in subst (λ y. rank < key_rank y) is below.0
below_at rank (x ∷ ks) (suc i) k below at = below_at rank ks i k below.1 at

-- a key among those whose ranks rise isn't equal to one before it
pub none_before : (front back : List KeyText) (key : KeyText) → RanksRise (front ++ key ∷ back) → list_any (key_eq key) front ≡ false
none_before [] back key rise = refl
none_before (k ∷ front) back key rise =
    rw (other_rank key k (λ same. omega (arith, above k front rise.0, same))) (none_before front back key rise.1)
  where
    above : (k : KeyText) (front : List KeyText) → IsBelowRanks (key_rank k) (front ++ key ∷ back) → key_rank k < key_rank key
    above k [] below = below.0
    above k (x ∷ front) below = above k front below.1

-- the key at a place is the first that is equal to a key, where it is equal
first_equal : (key : KeyText) (ks : List KeyText) (i : ℕ) (k : KeyText) → RanksRise ks → slice_get ks i ≡ Some k → key_eq key k ≡ true → position_or_len (key_eq key) ks ≡ i
first_equal key [] i k rise at same = cc
first_equal key (x ∷ ks) zero k rise at same =
    let is : x ≡ k = cc at in
    ap (λ b. cond (not b) (1 + position_or_len (key_eq key) ks) 0) (ap (key_eq key) is ∙ same)
first_equal key (x ∷ ks) (suc i) k rise at same =
    let above : key_rank x < key_rank k = below_at (key_rank x) ks i k rise.0 at in
    ap (λ b. cond (not b) (1 + position_or_len (key_eq key) ks) 0) (other_rank key x (λ e. omega (arith, above, e, one_rank key k same)))
    ∙ omega (arith, first_equal key ks i k rise.1 at same)

pub place_equal : (key : KeyText) (ks : List KeyText) (i : ℕ) (k : KeyText) → RanksRise ks → slice_get ks i ≡ Some k → key_eq key k ≡ true → Some i ≡ position (key_eq key) ks
place_equal key ks i k rise at same =
    some_place (key_eq key) ks i (first_equal key ks i k rise at same) (slice_get_within ks i k at)

-- where the key of the same rank isn't equal none is
pub none_beside : (key : KeyText) (ks : List KeyText) (i : ℕ) (k : KeyText) → RanksRise ks → slice_get ks i ≡ Some k → key_rank k ≡ key_rank key → key_eq key k ≡ false → list_any (key_eq key) ks ≡ false
none_beside key [] i k rise at same differs = refl
none_beside key (x ∷ ks) zero k rise at same differs =
    let is : x ≡ k = cc at in
    rw (ap (key_eq key) is ∙ differs) (none_below key (key_rank x) ks rise.0 (omega (arith, same, ap key_rank is)))
none_beside key (x ∷ ks) (suc i) k rise at same differs =
    let above : key_rank x < key_rank k = below_at (key_rank x) ks i k rise.0 at in
    rw (other_rank key x (λ e. omega (arith, above, same, e))) (none_beside key ks i k rise.1 at same differs)

-- ---- a search for a rank

rises_to : (ks : List KeyText) (i j : ℕ) (d : KeyText) → RanksRise ks → i ≤ j → j < length ks → key_rank (get_or ks i d) ≤ key_rank (get_or ks j d)
rises_to [] i j d rise le within = absurd (omega (arith, within))
rises_to (x ∷ ks) zero zero d rise le within = omega arith
rises_to (x ∷ ks) zero (suc j) d rise le within =
    let above : key_rank x < key_rank (get_or ks j d) = below_at (key_rank x) ks j (get_or ks j d) rise.0 (slice_get-get_or ks j d (omega (arith, within))) in
    omega (arith, above)
rises_to (x ∷ ks) (suc i) zero d rise le within = absurd (omega (arith, le))
rises_to (x ∷ ks) (suc i) (suc j) d rise le within = rises_to ks i j d rise.1 (omega (arith, le)) (omega (arith, within))

none_anywhere : (key : KeyText) (ks : List KeyText) → ((i : ℕ) (k : KeyText) → slice_get ks i ≡ Some k → key_rank k ≡ key_rank key → ⊥) → list_any (key_eq key) ks ≡ false
none_anywhere key [] differ = refl
none_anywhere key (x ∷ ks) differ =
    rw (other_rank key x (λ e. differ 0 x refl (sym e))) (none_anywhere key ks (λ i k at. differ (suc i) k at))

-- a search that misses: no key is equal
pub none_searched : (key : KeyText) (ks : List KeyText) (i : ℕ) → RanksRise ks → IsBinarySearchResult (λ k. nat_cmp (key_rank k) (key_rank key)) ks (Err i) → list_any (key_eq key) ks ≡ false
none_searched key ks i rise searched =
    let parted = searched (λ a b d le within. compared (key_rank key) (key_rank (get_or ks a d)) (key_rank (get_or ks b d)) (rises_to ks a b d rise le within)) in
    none_anywhere key ks (λ p k at same.
    let within : p < length ks = slice_get_within ks p k at in
    let here : get_or ks p k ≡ k = same_at ks p k at in
    let number : key_rank (get_or ks p k) ≡ key_rank key = ap key_rank here ∙ same in
    elim (cases_lt p i) as (λ _. ⊥) [
      | inl before ↦ less_number (key_rank (get_or ks p k)) (key_rank key) (parted.0 p k (omega arith) before) number
      | inr behind ↦ greater_number (key_rank (get_or ks p k)) (key_rank key) (parted.1 p k behind within) number
    ])
  where
    same_at : (ks : List KeyText) (p : ℕ) (k : KeyText) → slice_get ks p ≡ Some k → get_or ks p k ≡ k
    same_at ks p k at = cc (at, slice_get-get_or ks p k (slice_get_within ks p k at))

-- a search that hits: the key there has the rank
pub searched_rank : (key : KeyText) (ks : List KeyText) (i : ℕ) (k : KeyText) → IsBinarySearchResult (λ k'. nat_cmp (key_rank k') (key_rank key)) ks (Ok i) → k ≡ get_or ks i k → key_rank k ≡ key_rank key
searched_rank key ks i k searched read = ap key_rank read ∙ equal_number (key_rank (get_or ks i k)) (key_rank key) (searched k)
