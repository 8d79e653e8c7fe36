-- Walking over the values of a long bag.
use Rattle.std.proofs.Common.{◌≡◌, ℕ, ◌-◌, ◌<◌, ◌≤◌, zero, suc, List, [], ◌∷◌, ◌++◌, length, replicate, Option, Some, None, refl, sym, ap, ◌∙◌, subst, arith}
use Rattle.std.specs.Borrow.{Bor}
use Rattle.std.specs.List.{All}
use Rattle.std.proofs.lemmas.List.Elements.{All-head, All-tail}
use Rattle.value_bags.specs.Entries.{with_keys}
use Rattle.std.proofs.lemmas.List.{length-append, length-replicate}
use Rattle.value_bags.specs.declared.bag.BagForm.{BagForm}
use Rattle.value_bags.specs.declared.bag.BagForm.TheVariants.{Short, Long}
use Rattle.value_bags.proofs.Counted.{total-cons}
use Rattle.value_bags.specs.Bags.{total, bag_len, values_of, repeated}
use Rattle.value_bags.specs.Listing.{again_of}

module _ {A V : Type 0} (f : A → V) where
  pub first-positive : (counts : List (A × ℕ)) (x : A × ℕ) (rest : List (A × ℕ)) → counts ≡ x ∷ rest → All (λ c. 0 < c.1) (with_keys f counts) → (0 < x.1) × All (λ c. 0 < c.1) (with_keys f rest)
  first-positive counts x rest is all =
      let here = subst (λ l. All (λ (c : V × ℕ). 0 < c.1) (with_keys f l)) is all in
      (All-head (λ (c : V × ℕ). 0 < c.1) (f x.0, x.1) (with_keys f rest) here, All-tail (λ (c : V × ℕ). 0 < c.1) (f x.0, x.1) (with_keys f rest) here)

  pub again_of-none : (o : Option (Bor V)) (n : ℕ) → n ≤ 0 → again_of o n ≡ []
  again_of-none None n h = refl
  again_of-none (Some v) zero h = refl
  again_of-none (Some v) (suc n) h = absurd (let k : ⊥ = omega arith in k)

  one_first : (n : ℕ) (r : V) (l : List V) → 0 < n → replicate n r ++ l ≡ r ∷ (replicate (n - 1) r ++ l)
  one_first zero r l h = absurd (let k : ⊥ = omega arith in k)
  one_first (suc n) r l h = let e : n ≡ suc n - 1 = omega arith in ap (λ m. r ∷ (replicate m r ++ l)) e

  pub walked : (o : Option (Bor V)) (n : ℕ) (counts : List (A × ℕ)) (x : A × ℕ) (rest : List (A × ℕ)) (r : V) → n ≤ 0 → counts ≡ x ∷ rest → 0 < x.1 → r ≡ f x.0
      → again_of o n ++ repeated (with_keys f counts) ≡ r ∷ (replicate (x.1 - 1) r ++ repeated (with_keys f rest))
  walked o n counts x rest r none is some same =
      (λ j. again_of-none o n none j ++ repeated (with_keys f (is j)))
      ∙ ap (λ v. replicate x.1 v ++ repeated (with_keys f rest)) (sym same)
      ∙ one_first x.1 r (repeated (with_keys f rest)) some

length-repeated : {V : Type 0} (counts : List (V × ℕ)) → total counts ≡ length (repeated counts)
length-repeated [] = refl
length-repeated (c ∷ counts) =
    let rest = length-repeated counts in
    let whole = total-cons c counts in
    let one = length-append (replicate c.1 c.0) (repeated counts) in
    let own = length-replicate c.1 c.0 in
    omega arith

pub length-values : {V : Type 0} (bag : BagForm V) → bag_len bag ≡ length (values_of bag)
length-values (Short vs) = refl
length-values (Long counts) = length-repeated counts
