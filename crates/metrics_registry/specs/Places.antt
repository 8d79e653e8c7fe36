-- Series by their places.
use Rattle.std.specs.Prelude.{◌≡◌, ℕ, zero, suc, true, false, List, [], ◌∷◌, slice_get, Option, Some, None, option_map}
use Rattle.metrics_core.specs.declared.kinds.SeriesId.{SeriesId}
use Rattle.metrics_registry.specs.Live.{LiveSeries, has_id, is_live}

-- the series with another cell at a place
abbrev pub with_cell_at : {X : Type 0} → List (LiveSeries X) → ℕ → X → List (LiveSeries X)
with_cell_at [] i cell = []
with_cell_at (series ∷ live) zero cell = record series { cell = cell } ∷ live
with_cell_at (series ∷ live) (suc i) cell = series ∷ with_cell_at live i cell

-- the place of the series with the id
abbrev pub IsPlace : {X : Type 0} → SeriesId → List (LiveSeries X) → Option ℕ → Type 0
IsPlace id live (Some i) = option_map (has_id id) (slice_get live i) ≡ Some true
IsPlace id live None = is_live id live ≡ false
