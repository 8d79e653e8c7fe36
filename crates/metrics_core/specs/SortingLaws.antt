-- What the lists of an order keep: how often each item stands in them, and that two lists with the same items are one list in order.
use Rattle.std.proofs.Common.{◌≡◌, ◌≢◌, ℕ, ◌<◌, ◌+◌, List, [], ◌∷◌, length, refl, sym, ap, ◌∙◌, arith, Bool, true, false, cond, true≢false, zero-add}
use Rattle.std.specs.Prelude.{sum_by, count_by, Decides, suc}
use Rattle.std.specs.Ordering.{is_lt, is_eq, is_gt, eq_by_cmp, nat_cmp, ordering_then, ordering_reverse, MatchOrdering}
use Rattle.std.specs.declared.cmp.Ordering.{Ordering}
use Rattle.std.specs.declared.cmp.Ordering.TheVariants.{Less, Equal, Greater}
use Rattle.std.specs.Cmp.{IsTotalOrder, upto, alike_right, nat_cmp_is, ranks}
use Rattle.std.specs.Cmp.Lexicographic.{slice_cmp}
use Rattle.std.proofs.lemmas.List.Sums.{sum_by-cons}
use Rattle.metrics_core.specs.Sorting.{insert_by, sorted_by}

nat_cmp-shift : (k a b : ℕ) → nat_cmp (k + a) (k + b) ≡ nat_cmp a b
nat_cmp-shift k a b = sym (nat_cmp_is (k + a) (k + b) (nat_cmp a b) (shifted (nat_cmp a b) (ranks a b)))
  where
    shifted : (r : Ordering) → MatchOrdering r (a < b) (a ≡ b) (b < a) → MatchOrdering r (k + a < k + b) (k + a ≡ k + b) (k + b < k + a)
    shifted Less h = omega arith
    shifted Equal h = ap (λ n. k + n) h
    shifted Greater h = omega arith

module _ {K : Type 0} {R : K → K → Ordering} (o : IsTotalOrder R) {E : K → K → Bool} (E_is : (a b : K) → Decides (E a b) (a ≡ b)) (ties : (a b : K) → E a b ≡ eq_by_cmp R a b) where
  abbrev count : List K → K → ℕ
  count xs l = count_by (E l) xs

  count-cons : (l m : K) (ms : List K) → count (m ∷ ms) l ≡ cond (E l m) 1 0 + count ms l
  count-cons l m ms = sum_by-cons (λ x. cond (E l x) 1 0) m ms

  same_item : (a b : K) → R a b ≡ Equal → a ≡ b
  same_item a b e = (E_is a b).0 (ties a b ∙ ap is_eq e)

  other_item : (a b : K) → R a b ≡ Less → E a b ≡ false
  other_item a b e = ties a b ∙ ap is_eq e

  present : (x : K) (xs : List K) → count (x ∷ xs) x ≡ 1 + count xs x
  present x xs = count-cons x x xs ∙ ap (λ b. cond b 1 0 + count xs x) ((E_is x x).1 refl)

  turned : (a b : K) (r : Ordering) → R a b ≡ r → R b a ≡ ordering_reverse r
  turned a b r e = o.antisymm b a ∙ ap ordering_reverse e

  -- sums over a list in order

  pub sum_by-insert_by : (f : K → ℕ) (x : K) (ys : List K) → sum_by f (insert_by R x ys) ≡ f x + sum_by f ys
  sum_by-insert_by f x [] = sum_by-cons f x []
  sum_by-insert_by f x (y ∷ ys) = by (is_lt (R y x)) (sum_by-insert_by f x ys)
    where
      by : (b : Bool) → sum_by f (insert_by R x ys) ≡ f x + sum_by f ys → sum_by f (cond b (y ∷ insert_by R x ys) (x ∷ y ∷ ys)) ≡ f x + sum_by f (y ∷ ys)
      by true e = omega (arith, e, sum_by-cons f y (insert_by R x ys), sum_by-cons f y ys)
      by false e = sum_by-cons f x (y ∷ ys)

  pub sum_by-sorted_by : (f : K → ℕ) (xs : List K) → sum_by f (sorted_by R xs) ≡ sum_by f xs
  sum_by-sorted_by f [] = refl
  sum_by-sorted_by f (x ∷ xs) =
      sum_by-insert_by f x (sorted_by R xs) ∙ ap (λ n. f x + n) (sum_by-sorted_by f xs) ∙ sym (sum_by-cons f x xs)

  length-insert_by : (x : K) (ys : List K) → length (insert_by R x ys) ≡ suc (length ys)
  length-insert_by x [] = refl
  length-insert_by x (y ∷ ys) = by (is_lt (R y x)) (length-insert_by x ys)
    where
      by : (b : Bool) → length (insert_by R x ys) ≡ suc (length ys) → length (cond b (y ∷ insert_by R x ys) (x ∷ y ∷ ys)) ≡ suc (suc (length ys))
      by true e = ap suc e
      by false e = refl

  pub length-sorted_by : (xs : List K) → length (sorted_by R xs) ≡ length xs
  length-sorted_by [] = refl
  length-sorted_by (x ∷ xs) = length-insert_by x (sorted_by R xs) ∙ ap suc (length-sorted_by xs)

  -- a list in order rises

  abbrev AtMostEach : K → List K → Type 0
  AtMostEach x [] = Unit {0}
  AtMostEach x (y ∷ ys) = (is_gt (R x y) ≡ false) × AtMostEach x ys

  abbrev Rises : List K → Type 0
  Rises [] = Unit {0}
  Rises (x ∷ xs) = AtMostEach x xs × Rises xs

  at_most_lower : (x y : K) (zs : List K) → is_gt (R x y) ≡ false → AtMostEach y zs → AtMostEach x zs
  at_most_lower x y [] h all = tt
  at_most_lower x y (z ∷ zs) h (here, behind) = (upto o x y z h here, at_most_lower x y zs h behind)

  at_most-insert_by : (z x : K) (ys : List K) → is_gt (R z x) ≡ false → AtMostEach z ys → AtMostEach z (insert_by R x ys)
  at_most-insert_by z x [] h all = (h, tt)
  at_most-insert_by z x (y ∷ ys) h (here, behind) = by (is_lt (R y x)) (at_most-insert_by z x ys h behind)
    where
      by : (b : Bool) → AtMostEach z (insert_by R x ys) → AtMostEach z (cond b (y ∷ insert_by R x ys) (x ∷ y ∷ ys))
      by true inserted = (here, inserted)
      by false inserted = (h, (here, behind))

  rises-insert_by : (x : K) (ys : List K) → Rises ys → Rises (insert_by R x ys)
  rises-insert_by x [] all = (tt, tt)
  rises-insert_by x (y ∷ ys) (least, behind) = by (R y x) refl (rises-insert_by x ys behind)
    where
      by : (r : Ordering) → R y x ≡ r → Rises (insert_by R x ys) → Rises (cond (is_lt r) (y ∷ insert_by R x ys) (x ∷ y ∷ ys))
      by Less e inserted = (at_most-insert_by y x ys (ap is_gt e) least, inserted)
      by Equal e inserted = (((ap is_gt (turned y x Equal e)), at_most_lower x y ys (ap is_gt (turned y x Equal e)) least), (least, behind))
      by Greater e inserted = (((ap is_gt (turned y x Greater e)), at_most_lower x y ys (ap is_gt (turned y x Greater e)) least), (least, behind))

  rises-sorted_by : (xs : List K) → Rises (sorted_by R xs)
  rises-sorted_by [] = tt
  rises-sorted_by (x ∷ xs) = rises-insert_by x (sorted_by R xs) (rises-sorted_by xs)

  -- what is below the first item of a list that rises isn't in it

  abbrev BelowEach : K → List K → Type 0
  BelowEach l [] = Unit {0}
  BelowEach l (x ∷ xs) = (R l x ≡ Less) × BelowEach l xs

  below_chain : (l x m : K) → R l x ≡ Less → (r : Ordering) → R x m ≡ r → is_gt r ≡ false → R l m ≡ Less
  below_chain l x m h Less e k = o.trans l x m h e
  below_chain l x m h Equal e k = sym (alike_right o x m l e) ∙ h
  below_chain l x m h Greater e k = absurd (true≢false k)

  below_each : (l x : K) (xs : List K) → R l x ≡ Less → AtMostEach x xs → BelowEach l xs
  below_each l x [] h all = tt
  below_each l x (y ∷ ys) h (here, behind) = (below_chain l x y h (R x y) refl here, below_each l x ys h behind)

  not_in : (l : K) (xs : List K) → BelowEach l xs → count xs l ≡ 0
  not_in l [] all = refl
  not_in l (x ∷ xs) (here, behind) =
      count-cons l x xs ∙ ap (λ b. cond b 1 0 + count xs l) (other_item l x here) ∙ zero-add (count xs l) ∙ not_in l xs behind

  absent : (l x : K) (xs : List K) → R l x ≡ Less → AtMostEach x xs → count (x ∷ xs) l ≡ 0
  absent l x xs h least = not_in l (x ∷ xs) (h, below_each l x xs h least)

  -- counts of two lists whose first items are the same

  behind_equal : (x : K) (xs ys : List K) (l : K) → count (x ∷ xs) l ≡ count (x ∷ ys) l → count xs l ≡ count ys l
  behind_equal x xs ys l h = omega (arith, h, count-cons l x xs, count-cons l x ys)

  behind_other : (x : K) (xs ys : List K) (l : K) → count (x ∷ xs) l ≢ count (x ∷ ys) l → count xs l ≢ count ys l
  behind_other x xs ys l h = λ e. h (count-cons l x xs ∙ ap (λ n. cond (E l x) 1 0 + n) e ∙ sym (count-cons l x ys))

  -- below l two lists have each item equally often
  abbrev pub SameBelow : List K → List K → K → Type 0
  SameBelow xs ys l = (m : K) → R m l ≡ Less → count xs m ≡ count ys m

  -- where the first items differ, the lesser one is the first that isn't there equally often
  at_first : (x y : K) (xs ys : List K) (l : K) → AtMostEach x xs → AtMostEach y ys → R x y ≡ Less → SameBelow (x ∷ xs) (y ∷ ys) l → count (x ∷ xs) l ≢ count (y ∷ ys) l → (r : Ordering) → R l x ≡ r → l ≡ x
  at_first x y xs ys l least least' lt below differ Less e =
      absurd (differ (absent l x xs e least ∙ sym (absent l y ys (o.trans l x y e lt) least')))
  at_first x y xs ys l least least' lt below differ Equal e = same_item l x e
  at_first x y xs ys l least least' lt below differ Greater e =
      let here : count (x ∷ xs) x ≡ 1 + count xs x = present x xs in
      let there : count (y ∷ ys) x ≡ 0 = absent x y ys lt least' in
      let same : count (x ∷ xs) x ≡ count (y ∷ ys) x = below x (turned l x Greater e) in
      absurd (omega (arith, here, there, same))

  compare_rising : (xs ys : List K) → Rises xs → Rises ys → length xs ≡ length ys → (l : K) → count xs l ≢ count ys l → SameBelow xs ys l → slice_cmp R xs ys ≡ nat_cmp (count ys l) (count xs l)
  compare_rising [] [] up up' long l differ below = absurd (differ refl)
  compare_rising [] (y ∷ ys) up up' long l differ below = absurd (omega (arith, long))
  compare_rising (x ∷ xs) [] up up' long l differ below = absurd (omega (arith, long))
  compare_rising (x ∷ xs) (y ∷ ys) (least, up) (least', up') long l differ below =
      by (R x y) refl (compare_rising xs ys up up' (omega (arith, long)) l)
    where
      by : (r : Ordering) → R x y ≡ r → (count xs l ≢ count ys l → SameBelow xs ys l → slice_cmp R xs ys ≡ nat_cmp (count ys l) (count xs l)) → ordering_then r (slice_cmp R xs ys) ≡ nat_cmp (count (y ∷ ys) l) (count (x ∷ xs) l)
      by Less e rest = nat_cmp_is (count (y ∷ ys) l) (count (x ∷ xs) l) Less (fewer (at_first x y xs ys l least least' e below differ (R l x) refl))
        where
          fewer : l ≡ x → count (y ∷ ys) l < count (x ∷ xs) l
          fewer here =
              let lt : R l y ≡ Less = ap (λ m. R m y) here ∙ e in
              let none : count (y ∷ ys) l ≡ 0 = absent l y ys lt least' in
              let some : count (x ∷ xs) l ≡ 1 + count xs l = count-cons l x xs ∙ ap (λ b. cond b 1 0 + count xs l) ((E_is l x).1 here) in
              omega (arith, none, some)
      by Equal e rest = same (same_item x y e) rest
        where
          same : x ≡ y → (count xs l ≢ count ys l → SameBelow xs ys l → slice_cmp R xs ys ≡ nat_cmp (count ys l) (count xs l)) → slice_cmp R xs ys ≡ nat_cmp (count (y ∷ ys) l) (count (x ∷ xs) l)
          same x_is_y rest' =
              let like : (m : K) → count (y ∷ ys) m ≡ count (x ∷ ys) m = λ m. ap (λ z. count (z ∷ ys) m) (sym x_is_y) in
              rest' (behind_other x xs ys l (λ eq. differ (eq ∙ sym (like l)))) (λ m h. behind_equal x xs ys m (below m h ∙ like m))
              ∙ sym (nat_cmp-shift (cond (E l x) 1 0) (count ys l) (count xs l))
              ∙ (λ i. nat_cmp ((sym (count-cons l x ys) ∙ sym (like l)) i) (sym (count-cons l x xs) i))
      by Greater e rest = nat_cmp_is (count (y ∷ ys) l) (count (x ∷ xs) l) Greater (more (at_first y x ys xs l least' least (turned x y Greater e) (λ m h. sym (below m h)) (λ eq. differ (sym eq)) (R l y) refl))
        where
          more : l ≡ y → count (x ∷ xs) l < count (y ∷ ys) l
          more there =
              let lt : R l x ≡ Less = ap (λ m. R m x) there ∙ turned x y Greater e in
              let none : count (x ∷ xs) l ≡ 0 = absent l x xs lt least in
              let some : count (y ∷ ys) l ≡ 1 + count ys l = count-cons l y ys ∙ ap (λ b. cond b 1 0 + count ys l) ((E_is l y).1 there) in
              omega (arith, none, some)

  same_rising : (xs ys : List K) → Rises xs → Rises ys → ((l : K) → count xs l ≡ count ys l) → xs ≡ ys
  same_rising [] [] up up' same = refl
  same_rising [] (y ∷ ys) up up' same = absurd (omega (arith, same y, present y ys))
  same_rising (x ∷ xs) [] up up' same = absurd (omega (arith, same x, present x xs))
  same_rising (x ∷ xs) (y ∷ ys) (least, up) (least', up') same = by (R x y) refl (same_rising xs ys up up')
    where
      by : (r : Ordering) → R x y ≡ r → (((l : K) → count xs l ≡ count ys l) → xs ≡ ys) → (x ∷ xs) ≡ (y ∷ ys)
      by Less e rest = absurd (omega (arith, present x xs, same x, absent x y ys e least'))
      by Equal e rest = first (same_item x y e)
        where
          first : x ≡ y → (x ∷ xs) ≡ (y ∷ ys)
          first x_is_y = λ i. x_is_y i ∷ rest (λ l. behind_equal x xs ys l (same l ∙ ap (λ z. count (z ∷ ys) l) (sym x_is_y))) i
      by Greater e rest = absurd (omega (arith, present y ys, same y, absent y x xs (turned x y Greater e) least))

  -- two lists with the same items are the same list in order, and only they
  pub same_sorted : (xs ys : List K) → ((l : K) → count xs l ≡ count ys l) → sorted_by R xs ≡ sorted_by R ys
  same_sorted xs ys same =
      same_rising (sorted_by R xs) (sorted_by R ys) (rises-sorted_by xs) (rises-sorted_by ys) (λ l. sum_by-sorted_by (λ x. cond (E l x) 1 0) xs ∙ same l ∙ sym (sum_by-sorted_by (λ x. cond (E l x) 1 0) ys))

  pub counts_from_sorted : (xs ys : List K) → sorted_by R xs ≡ sorted_by R ys → (l : K) → count xs l ≡ count ys l
  counts_from_sorted xs ys e l =
      sym (sum_by-sorted_by (λ x. cond (E l x) 1 0) xs) ∙ ap (λ s. count s l) e ∙ sum_by-sorted_by (λ x. cond (E l x) 1 0) ys

  -- lists of one length, in order, compare by the first item that isn't there equally often
  pub compare_sorted : (xs ys : List K) → length xs ≡ length ys → (l : K) → count xs l ≢ count ys l → SameBelow xs ys l → slice_cmp R (sorted_by R xs) (sorted_by R ys) ≡ nat_cmp (count ys l) (count xs l)
  compare_sorted xs ys long l differ below =
      compare_rising (sorted_by R xs) (sorted_by R ys) (rises-sorted_by xs) (rises-sorted_by ys) (length-sorted_by xs ∙ long ∙ sym (length-sorted_by ys)) l
      (λ e. differ (sym (kept xs l) ∙ e ∙ kept ys l))
      (λ m h. kept xs m ∙ below m h ∙ sym (kept ys m))
      ∙ (λ i. nat_cmp (kept ys l i) (kept xs l i))
    where
      kept : (zs : List K) (m : K) → count (sorted_by R zs) m ≡ count zs m
      kept zs m = sum_by-sorted_by (λ x. cond (E m x) 1 0) zs
