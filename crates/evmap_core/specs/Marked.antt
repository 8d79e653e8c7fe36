-- Which keys a removal at random marks.
use Rattle.std.specs.Prelude.{◌≡◌, ◌<◌, ℕ, List, All, filter_map, length, min, slice_get}
use Rattle.std.specs.List.Sorted.{IsStrictlyIncreasing}

-- as many distinct places below `len` as were asked for, or all of them, in ascending order
pub record ArePlaces (len asked : ℕ) (places : List ℕ) : Type 0 where
  pub ascend : IsStrictlyIncreasing places
  pub within : All (λ p. p < len) places
  pub amount : length places ≡ min asked len

-- the entries at these places, in the order of the places
abbrev pub entries_at : {X : Type 0} → List X → List ℕ → List X
entries_at es places = filter_map (slice_get es) places
