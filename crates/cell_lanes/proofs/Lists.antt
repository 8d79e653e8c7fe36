-- Lists, by index.
use Rattle.std.proofs.Common.{◌≡◌, ◌≢◌, ℕ, zero, suc, ◌<◌, ◌≤◌, List, [], ◌∷◌, ◌++◌, length, take, drop, set, refl, sym, ap, subst, ⊎_elim, arith}
use Rattle.std.specs.Prelude.{Option, Some, None, IfSome, slice_index_or}
use mathlib.Core.Option.{some, some-ne-none, some-injective}
use lib.ListN.{get_elem?}
use Rattle.atomic_table.proofs.Lists.{at_set}
use Rattle.legal_history.proofs.Steps.{some_below, one_at}
use Rattle.cell_lanes.specs.Lanes.{Each}

-- what holds of all holds of the one, if there is one
pub of_some : {A : Type 0} (o : Option A) (P : A → Type 0) → ((a : A) → P a) → IfSome o P
of_some None P all = tt
of_some (Some a) P all = all a

-- what holds of the one, if there is one, where there is this one
pub in_some : {A : Type 0} (o : Option A) (a : A) (P : A → Type 0) → o ≡ Some a → IfSome o P → P a
in_some o a P e h = subst (λ x. IfSome x P) e h

module _ {A : Type 0} where
  pub at_or : (l : List A) (i : ℕ) (d : A) → i < length l → get_elem? l i ≡ some (slice_index_or l i d)
  at_or [] i d h = absurd (omega arith)
  at_or (x ∷ xs) zero d h = refl
  at_or (x ∷ xs) (suc i) d h = at_or xs i d (omega arith)

  pub or_at : (l : List A) (i : ℕ) (d a : A) → get_elem? l i ≡ some a → slice_index_or l i d ≡ a
  or_at [] i d a e = absurd (some-ne-none a (sym e))
  or_at (x ∷ xs) zero d a e = some-injective x a e
  or_at (x ∷ xs) (suc i) d a e = or_at xs i d a e

  pub below_some : (l : List A) (i : ℕ) → i < length l → (a : A) × (get_elem? l i ≡ some a)
  below_some [] i h = absurd (omega arith)
  below_some (x ∷ xs) zero h = (x, refl)
  below_some (x ∷ xs) (suc i) h = below_some xs i (omega arith)

  pub take_whole : (xs : List A) (n : ℕ) → length xs ≤ n → take n xs ≡ xs
  take_whole [] zero h = refl
  take_whole [] (suc n) h = refl
  take_whole (x ∷ xs) zero h = absurd (omega arith)
  take_whole (x ∷ xs) (suc n) h = ap (λ l. x ∷ l) (take_whole xs n (omega arith))

  -- what is left behind n items begins with the next
  pub next_at : (xs : List A) (n : ℕ) (x : A) (ys : List A) → drop n xs ≡ x ∷ ys → get_elem? xs n ≡ some x
  next_at [] zero x ys e = let m = ap length e in absurd (omega arith)
  next_at [] (suc n) x ys e = let m = ap length e in absurd (omega arith)
  next_at (z ∷ zs) zero x ys e = ap (λ l. get_elem? l 0) e
  next_at (z ∷ zs) (suc n) x ys e = next_at zs n x ys e

  pub next_below : (xs : List A) (n : ℕ) (x : A) (ys : List A) → drop n xs ≡ x ∷ ys → n < length xs
  next_below xs n x ys e = some_below xs n x (next_at xs n x ys e)

  pub next_take : (xs : List A) (n : ℕ) (x : A) (ys : List A) → drop n xs ≡ x ∷ ys → take (suc n) xs ≡ take n xs ++ x ∷ []
  next_take [] zero x ys e = let m = ap length e in absurd (omega arith)
  next_take [] (suc n) x ys e = let m = ap length e in absurd (omega arith)
  next_take (z ∷ zs) zero x ys e = ap (take 1) e
  next_take (z ∷ zs) (suc n) x ys e = ap (λ l. z ∷ l) (next_take zs n x ys e)

  pub next_drop : (xs : List A) (n : ℕ) (x : A) (ys : List A) → drop n xs ≡ x ∷ ys → drop (suc n) xs ≡ ys
  next_drop [] zero x ys e = let m = ap length e in absurd (omega arith)
  next_drop [] (suc n) x ys e = let m = ap length e in absurd (omega arith)
  next_drop (z ∷ zs) zero x ys e = ap (drop 1) e
  next_drop (z ∷ zs) (suc n) x ys e = next_drop zs n x ys e

  pub none_left : (xs : List A) (n : ℕ) → drop n xs ≡ [] → length xs ≤ n
  none_left [] n e = omega arith
  none_left (z ∷ zs) zero e = let m = ap length e in absurd (omega arith)
  none_left (z ∷ zs) (suc n) e = let m = none_left zs n e in omega arith

  -- what stands before other items
  pub front_of : (xs ys : List A) (n : ℕ) → length xs ≡ n → take n (xs ++ ys) ≡ xs
  front_of [] ys zero e = refl
  front_of [] ys (suc n) e = absurd (omega arith)
  front_of (x ∷ xs) ys zero e = absurd (omega arith)
  front_of (x ∷ xs) ys (suc n) e = ap (λ l. x ∷ l) (front_of xs ys n (omega arith))

  -- a relation of each item
  pub each_same : (R : ℕ → A → A → Type 0) (xs : List A) → ((j : ℕ) (a : A) → R j a a) → Each R xs xs
  each_same R xs h j a b e f = subst (R j a) (one_at xs j a b e f) (h j a)

  pub each_set : (R T : ℕ → A → A → Type 0) (xs ys : List A) (i : ℕ) (q r : A) → get_elem? ys i ≡ some q
      → ((j : ℕ) (a b : A) → j ≢ i → R j a b → T j a b) → ((a : A) → R i a q → T i a r) → Each R xs ys → Each T xs (set ys i r)
  each_set R T xs ys i q r at others mine all j a b e f = ⊎_elim
      (λ (t : (j ≡ i) × (r ≡ b)). subst (λ (y : ℕ × A). T y.0 a y.1) (λ k. (sym t.0 k, t.1 k)) (mine a (all i a q (subst (λ n. get_elem? xs n ≡ some a) t.0 e) at)))
      (λ (t : (j ≢ i) × (get_elem? ys j ≡ some b)). others j a b t.0 (all j a b e t.1))
      (at_set ys i j r b f)

  pub each_then : (R T U : ℕ → A → A → Type 0) (xs ys zs : List A) → length ys ≡ length xs → ((j : ℕ) (a b c : A) → R j a b → T j b c → U j a c) → Each R xs ys → Each T ys zs → Each U xs zs
  each_then R T U xs ys zs len both one two j a c e f =
      let q = below_some ys j (let b = some_below xs j a e in omega arith) in
      both j a q.0 c (one j a q.0 e q.1) (two j q.0 c q.1 f)

  -- what the relation carries over holds of each item afterwards
  pub each_to : (R : ℕ → A → A → Type 0) (P Q : A → Type 0) (xs ys : List A) → length ys ≡ length xs → ((j : ℕ) (a b : A) → R j a b → P a → Q b) → Each R xs ys
      → ((j : ℕ) (a : A) → get_elem? xs j ≡ some a → P a) → (j : ℕ) (b : A) → get_elem? ys j ≡ some b → Q b
  each_to R P Q xs ys len over each all j b f =
      let a = below_some xs j (let h = some_below ys j b f in omega arith) in
      over j a.0 b (each j a.0 b a.1 f) (all j a.0 a.1)
