-- What a short bag does with the list of its values.
use Rattle.std.proofs.Common.{◌≡◌, ℕ, ◌+◌, ◌≤◌, suc, Bool, true, false, not, nat_lt, cond, ◌||◌, List, [], ◌∷◌, ◌++◌, length, map, remove, filter, position, Some, None, refl, sym, ap, ◌∙◌, arith}
use Rattle.std.specs.List.{list_any, position_or_len}
use Rattle.std.proofs.lemmas.Bool.{ltb-false}
use Rattle.std.proofs.lemmas.List.{take_all, drop_all, append-nil}
use Rattle.value_bags.specs.Bags.{without_first}

remove-past : {X : Type 0} (xs : List X) (i : ℕ) → length xs ≤ i → remove xs i ≡ xs
remove-past xs i past = (λ j. take_all i xs past j ++ drop_all (suc i) xs (let more : length xs ≤ suc i = omega arith in more) j) ∙ append-nil xs

module _ {A V : Type 0} (f : A → V) (test : V → Bool) where
  pub list_any-seen : (xs : List A) → list_any (λ x. test (f x)) xs ≡ list_any test (map f xs)
  list_any-seen [] = refl
  list_any-seen (x ∷ xs) = ap (λ b. test (f x) || b) (list_any-seen xs)

  pub filter-seen : (xs : List A) → map f (filter (λ x. test (f x)) xs) ≡ filter test (map f xs)
  filter-seen [] = refl
  filter-seen (x ∷ xs) = by (test (f x)) refl (filter-seen xs)
    where
      by : (b : Bool) → test (f x) ≡ b → map f (filter (λ y. test (f y)) xs) ≡ filter test (map f xs) → map f (filter (λ y. test (f y)) (x ∷ xs)) ≡ filter test (map f (x ∷ xs))
      by true t more =
          ap (λ b. map f (cond b (x ∷ filter (λ y. test (f y)) xs) (filter (λ y. test (f y)) xs))) t ∙ ap (λ l. f x ∷ l) more
          ∙ ap (λ b. cond b (f x ∷ filter test (map f xs)) (filter test (map f xs))) (sym t)
      by false t more =
          ap (λ b. map f (cond b (x ∷ filter (λ y. test (f y)) xs) (filter (λ y. test (f y)) xs))) t ∙ more
          ∙ ap (λ b. cond b (f x ∷ filter test (map f xs)) (filter test (map f xs))) (sym t)

  place : List A → ℕ
  place xs = position_or_len (λ x. test (f x)) xs

  -- the first that passes is taken out at its place
  without_first-place : (xs : List A) → map f (remove xs (position_or_len (λ x. test (f x)) xs)) ≡ without_first test (map f xs)
  without_first-place [] = refl
  without_first-place (x ∷ xs) = by (test (f x)) refl (without_first-place xs)
    where
      by : (b : Bool) → test (f x) ≡ b → map f (remove xs (position_or_len (λ y. test (f y)) xs)) ≡ without_first test (map f xs)
          → map f (remove (x ∷ xs) (position_or_len (λ y. test (f y)) (x ∷ xs))) ≡ without_first test (map f (x ∷ xs))
      by true t more =
          ap (λ b. map f (remove (x ∷ xs) (cond (not b) (1 + position_or_len (λ y. test (f y)) xs) 0))) t
          ∙ ap (λ b. cond b (map f xs) (f x ∷ without_first test (map f xs))) (sym t)
      by false t more =
          ap (λ b. map f (remove (x ∷ xs) (cond (not b) (1 + position_or_len (λ y. test (f y)) xs) 0))) t
          ∙ ap (λ n. map f (remove (x ∷ xs) n)) (let e : 1 + position_or_len (λ y. test (f y)) xs ≡ suc (position_or_len (λ y. test (f y)) xs) = omega arith in e) ∙ ap (λ l. f x ∷ l) more
          ∙ ap (λ b. cond b (map f xs) (f x ∷ without_first test (map f xs))) (sym t)

  pub without_first-found : (xs : List A) (i : ℕ) → position (λ x. test (f x)) xs ≡ Some i → map f (remove xs i) ≡ without_first test (map f xs)
  without_first-found xs i is = by (nat_lt (position_or_len (λ x. test (f x)) xs) (length xs)) refl
    where
      by : (b : Bool) → nat_lt (position_or_len (λ x. test (f x)) xs) (length xs) ≡ b → map f (remove xs i) ≡ without_first test (map f xs)
      by true t =
          let h : Some (position_or_len (λ x. test (f x)) xs) ≡ Some i = sym (ap (λ b. cond b (Some (position_or_len (λ x. test (f x)) xs)) None) t) ∙ is in
          let at : i ≡ position_or_len (λ x. test (f x)) xs = cc in
          ap (λ n. map f (remove xs n)) at ∙ without_first-place xs
      by false t = absurd (let h : None ≡ Some i = sym (ap (λ b. cond b (Some (position_or_len (λ x. test (f x)) xs)) None) t) ∙ is in cc)

  pub without_first-missing : (xs : List A) → position (λ x. test (f x)) xs ≡ None → without_first test (map f xs) ≡ map f xs
  without_first-missing xs is = by (nat_lt (position_or_len (λ x. test (f x)) xs) (length xs)) refl
    where
      by : (b : Bool) → nat_lt (position_or_len (λ x. test (f x)) xs) (length xs) ≡ b → without_first test (map f xs) ≡ map f xs
      by true t = absurd (let h : Some (position_or_len (λ x. test (f x)) xs) ≡ None = sym (ap (λ b. cond b (Some (position_or_len (λ x. test (f x)) xs)) None) t) ∙ is in cc)
      by false t =
          let past : length xs ≤ position_or_len (λ x. test (f x)) xs = ltb-false _ _ t in
          sym (without_first-place xs) ∙ ap (map f) (remove-past xs (position_or_len (λ x. test (f x)) xs) past)
