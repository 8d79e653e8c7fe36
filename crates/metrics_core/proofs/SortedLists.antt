-- A list that a sort left in order, and the list that `sorted_by` puts in order, are one.
use Rattle.std.proofs.Common.{◌≡◌, ◌+◌, List, [], ◌∷◌, map, get_or, refl, sym, ap, ◌∙◌, arith, Bool, cond}
use Rattle.std.specs.Prelude.{suc, Decides}
use Rattle.std.specs.Ordering.{is_lt, eq_by_cmp}
use Rattle.std.specs.declared.cmp.Ordering.{Ordering}
use Rattle.std.specs.Cmp.{IsTotalOrder}
use Rattle.std.specs.List.Sorted.{IsPermutation, IsSortedByKey}
use Rattle.std.proofs.lemmas.List.Sorted.{IsPermutation-map, sum_by-IsPermutation}
use Rattle.metrics_core.specs.Sorting.{insert_by, sorted_by}
use Rattle.metrics_core.specs.SortingLaws.{same_sorted}

module _ {K X : Type 0} (R : K → K → Ordering) (key : X → K) where
  -- what is behind the first item of a list in order is in order
  behind : (x : X) (xs : List X) → IsSortedByKey key R (x ∷ xs) → IsSortedByKey key R xs
  behind x xs up k d low below =
      let next : suc k + 1 ≡ suc (k + 1) = omega arith in
      ap (λ n. is_lt (R (key (get_or (x ∷ xs) n d)) (key (get_or xs k d)))) (sym next) ∙ up (suc k) d (omega arith) (omega (arith, below))

  -- a list in order stays as it is
  in_order_already : (xs : List X) → IsSortedByKey key R xs → sorted_by R (map key xs) ≡ map key xs
  in_order_already [] up = refl
  in_order_already (x ∷ []) up = refl
  in_order_already (x ∷ y ∷ ys) up =
      ap (insert_by R (key x)) (in_order_already (y ∷ ys) (behind x (y ∷ ys) up))
      ∙ ap (λ b. cond b (key y ∷ insert_by R (key x) (map key ys)) (key x ∷ key y ∷ map key ys)) (up 0 x (omega arith) (omega arith))

module _ {K : Type 0} {R : K → K → Ordering} (o : IsTotalOrder R) {E : K → K → Bool} (E_is : (a b : K) → Decides (E a b) (a ≡ b)) (ties : (a b : K) → E a b ≡ eq_by_cmp R a b) where
  -- the keys of what a sort made of xs, where zs are the keys of xs
  pub sorted_is : {X : Type 0} (key : X → K) (xs ys : List X) (zs : List K) → map key xs ≡ zs → IsPermutation xs ys → IsSortedByKey key R ys → map key ys ≡ sorted_by R zs
  sorted_is key xs ys zs keys moved up =
      sym (in_order_already R key ys up)
      ∙ same_sorted o E_is ties (map key ys) (map key xs) (λ l. sum_by-IsPermutation (λ x. cond (E l x) 1 0) (map key xs) (map key ys) (IsPermutation-map key xs ys moved))
      ∙ ap (sorted_by R) keys
