-- What holds of the elements of a list, each with its place.
use Rattle.std.specs.Prelude.{ℕ, ◌+◌, List, [], ◌∷◌, ⊤}

-- P holds of each place and element, where the first stands at `place`
abbrev pub EachFrom : {X : Type 0} → (ℕ → X → Type 0) → ℕ → List X → Type 0
EachFrom P place [] = ⊤
EachFrom P place (x ∷ xs) = P place x × EachFrom P (place + 1) xs

-- two lists are as long, and R holds of each place with both elements there
abbrev pub EachChangeFrom : {X : Type 0} → (ℕ → X → X → Type 0) → ℕ → List X → List X → Type 0
EachChangeFrom R place [] [] = ⊤
EachChangeFrom R place [] (_ ∷ _) = ⊥
EachChangeFrom R place (_ ∷ _) [] = ⊥
EachChangeFrom R place (x ∷ xs) (y ∷ ys) = R place x y × EachChangeFrom R (place + 1) xs ys
