-- The least item that two lists don't have equally often, found in one pass over both.
use Rattle.std.proofs.Common.{◌≡◌, ◌≢◌, ◌+◌, List, [], ◌∷◌, ◌++◌, refl, sym, ap, subst, ◌∙◌, arith, Bool, true, false, cond, true≢false, ◌⊎◌, inl, inr, append-nil, append_assoc, zero-add}
use Rattle.std.specs.Prelude.{Option, Some, None, count_by, nat_eq, fold, Decides, ◌||◌, not}
use Rattle.std.specs.List.{list_all}
use Rattle.std.specs.Ordering.{is_lt, ordering_reverse}
use Rattle.std.specs.declared.cmp.Ordering.{Ordering}
use Rattle.std.specs.declared.cmp.Ordering.TheVariants.{Less, Equal, Greater}
use Rattle.std.specs.Cmp.{IsTotalOrder}
use Rattle.std.proofs.lemmas.Bool.{eq-eqb, eqb-true}
use Rattle.std.proofs.lemmas.List.Sums.{sum_by-cons, sum_by-append}
use Rattle.std.proofs.lemmas.List.Folds.{list_all-append}
use Rattle.metrics_core.specs.Sorting.{lesser, lesser_differing}
use Rattle.metrics_core.specs.KeyLaws.{both, and}

-- a test that follows from another holds of a list where that one does
list_all-weaker : {K : Type 0} (p q : K → Bool) → ((x : K) → p x ≡ true → q x ≡ true) → (xs : List K) → list_all p xs ≡ true → list_all q xs ≡ true
list_all-weaker p q weaker [] h = refl
list_all-weaker p q weaker (x ∷ xs) h = by (both (p x) (list_all p xs) h) (list_all-weaker p q weaker xs)
  where
    by : (p x ≡ true) × (list_all p xs ≡ true) → (list_all p xs ≡ true → list_all q xs ≡ true) → list_all q (x ∷ xs) ≡ true
    by (here, there) behind = and (q x) (list_all q xs) (weaker x here) (behind there)

or_left : (a b : Bool) → a ≡ true → (a || b) ≡ true
or_left a b h = ap (λ x. x || b) h

or_right : (a b : Bool) → b ≡ true → (a || b) ≡ true
or_right true b h = refl
or_right false b h = h

or_cases : (a b : Bool) → (a || b) ≡ true → (a ≡ true) ⊎ (b ≡ true)
or_cases true b h = inl refl
or_cases false b h = inr h

module _ {K : Type 0} {R : K → K → Ordering} (o : IsTotalOrder R) {E : K → K → Bool} (E_is : (a b : K) → Decides (E a b) (a ≡ b)) (xs ys : List K) where
  abbrev equally_often : K → Bool
  equally_often m = nat_eq (count_by (E m) xs) (count_by (E m) ys)

  -- what each item that was seen passes, beside the least one that was found
  abbrev passes : Option K → K → Bool
  passes None m = equally_often m
  passes (Some l) m = equally_often m || not (is_lt (R m l))

  abbrev differs : Option K → Type 0
  differs None = Unit {0}
  differs (Some l) = equally_often l ≡ false

  pub record IsLeast (least : Option K) (seen : List K) : Type 0 where
    pub all : list_all (passes least) seen ≡ true
    pub found : differs least

  turned : (a b : K) (r : Ordering) → R a b ≡ r → R b a ≡ ordering_reverse r
  turned a b r e = o.antisymm b a ∙ ap ordering_reverse e

  -- where z is below l, what isn't below l isn't below z
  still_not_below : (z l m : K) → R z l ≡ Less → (r : Ordering) → R m z ≡ r → not (is_lt (R m l)) ≡ true → not (is_lt r) ≡ true
  still_not_below z l m below Less e h = absurd (true≢false (sym h ∙ ap (λ q. not (is_lt q)) (o.trans m z l e below)))
  still_not_below z l m below Equal e h = refl
  still_not_below z l m below Greater e h = refl

  lower : (z l m : K) → R z l ≡ Less → passes (Some l) m ≡ true → passes (Some z) m ≡ true
  lower z l m below h = by (or_cases (equally_often m) (not (is_lt (R m l))) h)
    where
      by : (equally_often m ≡ true) ⊎ (not (is_lt (R m l)) ≡ true) → passes (Some z) m ≡ true
      by (inl same) = or_left (equally_often m) (not (is_lt (R m z))) same
      by (inr not_below) = or_right (equally_often m) (not (is_lt (R m z))) (still_not_below z l m below (R m z) refl not_below)

  itself : (z : K) (r : Ordering) → R z z ≡ r → not (is_lt r) ≡ true
  itself z Less e = absurd (true≢false (ap is_lt (sym e ∙ turned z z Less e)))
  itself z Equal e = refl
  itself z Greater e = refl

  one_more : (least : Option K) (seen : List K) (z : K) → list_all (passes least) seen ≡ true → passes least z ≡ true → list_all (passes least) (seen ++ z ∷ []) ≡ true
  one_more least seen z all here =
      list_all-append (passes least) seen (z ∷ []) ∙ and (list_all (passes least) seen) (list_all (passes least) (z ∷ [])) all (and (passes least z) true here refl)

  -- one item more
  step : (least : Option K) (seen : List K) (z : K) → IsLeast least seen → (b : Bool) → equally_often z ≡ b → IsLeast (cond b least (lesser R least z)) (seen ++ z ∷ [])
  step None seen z was true e = record { all = one_more None seen z was.all e; found = tt }
  step (Some l) seen z was true e = record { all = one_more (Some l) seen z was.all (or_left (equally_often z) (not (is_lt (R z l))) e); found = was.found }
  step None seen z was false e = record {
    all = one_more (Some z) seen z (list_all-weaker (passes None) (passes (Some z)) (λ m. or_left (equally_often m) (not (is_lt (R m z)))) seen was.all) (or_right (equally_often z) (not (is_lt (R z z))) (itself z (R z z) refl));
    found = e;
  }
  step (Some l) seen z was false e = by (R z l) refl
    where
      by : (r : Ordering) → R z l ≡ r → IsLeast (cond (is_lt r) (Some z) (Some l)) (seen ++ z ∷ [])
      by Less below = record {
        all = one_more (Some z) seen z (list_all-weaker (passes (Some l)) (passes (Some z)) (λ m. lower z l m below) seen was.all) (or_right (equally_often z) (not (is_lt (R z z))) (itself z (R z z) refl));
        found = e;
      }
      by Equal same = record { all = one_more (Some l) seen z was.all (or_right (equally_often z) (not (is_lt (R z l))) (ap (λ q. not (is_lt q)) same)); found = was.found }
      by Greater above = record { all = one_more (Some l) seen z was.all (or_right (equally_often z) (not (is_lt (R z l))) (ap (λ q. not (is_lt q)) above)); found = was.found }

  run : (least : Option K) (seen zs : List K) → IsLeast least seen → IsLeast (fold (lesser_differing R E xs ys) least zs) (seen ++ zs)
  run least seen [] was = subst (λ all. IsLeast least all) (sym (append-nil seen)) was
  run least seen (z ∷ zs) was =
      subst (λ all. IsLeast (fold (lesser_differing R E xs ys) least (z ∷ zs)) all) (append_assoc seen (z ∷ []) zs) (run (lesser_differing R E xs ys least z) (seen ++ z ∷ []) zs (step least seen z was (equally_often z) refl))

  -- an item that stands in a list passes what each item there passes
  standing : (p : K → Bool) (zs : List K) (l : K) → list_all p zs ≡ true → (count_by (E l) zs ≡ 0) ⊎ (p l ≡ true)
  standing p [] l h = inl refl
  standing p (z ∷ zs) l h = at (both (p z) (list_all p zs) h) (standing p zs l)
    where
      at : (p z ≡ true) × (list_all p zs ≡ true) → (list_all p zs ≡ true → (count_by (E l) zs ≡ 0) ⊎ (p l ≡ true)) → (count_by (E l) (z ∷ zs) ≡ 0) ⊎ (p l ≡ true)
      at (here, there) behind = by (E l z) refl (behind there)
        where
          by : (b : Bool) → E l z ≡ b → (count_by (E l) zs ≡ 0) ⊎ (p l ≡ true) → (count_by (E l) (z ∷ zs) ≡ 0) ⊎ (p l ≡ true)
          by true e others = inr (ap p ((E_is l z).0 e) ∙ here)
          by false e (inl none) = inl (sum_by-cons (λ x. cond (E l x) 1 0) z zs ∙ ap (λ b. cond b 1 0 + count_by (E l) zs) e ∙ zero-add (count_by (E l) zs) ∙ none)
          by false e (inr passed) = inr passed

  none_in_both : (l : K) → count_by (E l) (xs ++ ys) ≡ 0 → count_by (E l) xs ≡ count_by (E l) ys
  none_in_both l h =
      let e : count_by (E l) xs + count_by (E l) ys ≡ 0 = sym (sum_by-append (λ x. cond (E l x) 1 0) xs ys) ∙ h in
      omega (arith, e)

  same : (m : K) → (count_by (E m) (xs ++ ys) ≡ 0) ⊎ (equally_often m ≡ true) → count_by (E m) xs ≡ count_by (E m) ys
  same m (inl none) = none_in_both m none
  same m (inr e) = eqb-true (count_by (E m) xs) (count_by (E m) ys) e

  -- what was found over both lists
  abbrev pub found_by : Option K
  found_by = fold (lesser_differing R E xs ys) (fold (lesser_differing R E xs ys) None xs) ys

  pub found_by_is : IsLeast found_by (xs ++ ys)
  found_by_is = run (fold (lesser_differing R E xs ys) None xs) xs ys (run None [] xs (record { all = refl; found = tt }))

  -- where nothing was found, both have each item equally often
  pub none_differs : (least : Option K) → least ≡ None → IsLeast least (xs ++ ys) → (m : K) → count_by (E m) xs ≡ count_by (E m) ys
  none_differs least nothing was m =
      same m (standing equally_often (xs ++ ys) m (subst (λ r. list_all (passes r) (xs ++ ys) ≡ true) nothing was.all))

  -- what was found isn't there equally often, and what is below it is
  pub least_differs : (l : K) (least : Option K) → least ≡ Some l → IsLeast least (xs ++ ys) → count_by (E l) xs ≢ count_by (E l) ys
  least_differs l least something was = λ e. true≢false (sym (eq-eqb (count_by (E l) xs) (count_by (E l) ys) e) ∙ subst differs something was.found)

  pub same_below : (l : K) (least : Option K) → least ≡ Some l → IsLeast least (xs ++ ys) → (m : K) → R m l ≡ Less → count_by (E m) xs ≡ count_by (E m) ys
  same_below l least something was m below =
      same m (narrow (standing (passes (Some l)) (xs ++ ys) m (subst (λ r. list_all (passes r) (xs ++ ys) ≡ true) something was.all)))
    where
      passed : (equally_often m ≡ true) ⊎ (not (is_lt (R m l)) ≡ true) → equally_often m ≡ true
      passed (inl e) = e
      passed (inr e) = absurd (true≢false (sym e ∙ ap (λ q. not (is_lt q)) below))

      narrow : (count_by (E m) (xs ++ ys) ≡ 0) ⊎ (passes (Some l) m ≡ true) → (count_by (E m) (xs ++ ys) ≡ 0) ⊎ (equally_often m ≡ true)
      narrow (inl none) = inl none
      narrow (inr e) = inr (passed (or_cases (equally_often m) (not (is_lt (R m l))) e))
