-- Texts that are kept one behind the other in one text, and the places where they end.
use Rattle.std.specs.Prelude.{◌≡◌, ℕ, ◌≤◌, List, [], ◌∷◌, length, slice_range}
use Rattle.std.specs.Str.{IsCharBoundary}

-- the texts that end at these places, the first of which begins here
abbrev pub pieces : List ℕ → ℕ → List ℕ → List (List ℕ)
pieces bytes begin [] = []
pieces bytes begin (end ∷ ends) = slice_range bytes begin end ∷ pieces bytes end ends

-- the places ascend from here, a character begins at each, and nothing stands behind the last one
abbrev pub AreCuts : List ℕ → ℕ → List ℕ → Type 0
AreCuts bytes begin [] = begin ≡ length bytes
AreCuts bytes begin (end ∷ ends) = (begin ≤ end) × IsCharBoundary bytes end × AreCuts bytes end ends
