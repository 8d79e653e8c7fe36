-- From what holds at each place of a list to what holds of its elements in turn, and back.
use Rattle.std.proofs.Common.{◌≡◌, ℕ, zero, suc, ◌+◌, ◌<◌, length, List, [], ◌∷◌, slice_index_or}
use mathlib.Core.Path.{refl, subst, sym}
use native.Mathlib.Omega.{arith}
use Rattle.side_by_side.specs.Places.{EachFrom, EachChangeFrom}

-- what holds at each place holds of the elements in turn
pub in_turn : {X : Type 0} (P : ℕ → X → Type 0) (place : ℕ) (xs : List X)
    → ((k : ℕ) (d : X) → k < length xs → P (place + k) (slice_index_or xs k d)) → EachFrom P place xs
in_turn P place [] each = tt
in_turn P place (x ∷ xs) each = (
  subst (λ n. P n x) (omega arith) (each 0 x (omega arith)),
  in_turn P (place + 1) xs (λ k d less. subst (λ n. P n (slice_index_or xs k d)) (omega arith) (each (suc k) d (omega arith))),
)

-- what holds of the elements of two lists in turn holds at each place
pub at_places : {X : Type 0} (R : ℕ → X → X → Type 0) (place : ℕ) (xs ys : List X) → EachChangeFrom R place xs ys
    → (k : ℕ) (d : X) → k < length xs → R (place + k) (slice_index_or xs k d) (slice_index_or ys k d)
at_places R place [] ys each k d less = absurd (omega (arith, less))
at_places R place (x ∷ xs) [] each k d less = absurd each
at_places R place (x ∷ xs) (y ∷ ys) each zero d less = subst (λ n. R n x y) (omega arith) each.0
at_places R place (x ∷ xs) (y ∷ ys) each (suc k) d less =
    subst (λ n. R n (slice_index_or xs k d) (slice_index_or ys k d)) (omega arith) (at_places R (place + 1) xs ys each.1 k d (omega arith))
