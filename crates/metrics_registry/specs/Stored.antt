-- How the series of one kind are stored: their keys, and beside them their ids and cells.
use Rattle.std.specs.Prelude.{◌≡◌, ℕ, List, [], ◌∷◌, length, slice_get, Option, Some, None}
use Rattle.std.specs.Vec.{with_item}
use Rattle.metrics_core.specs.Keys.{KeyText}
use Rattle.metrics_registry.specs.Live.{LiveSeries, Rises}
use Rattle.metrics_registry.specs.declared.columns.Series.{Series}
use Rattle.metrics_registry.specs.declared.columns.Column.{Column}

module _ {X : Type 0} where
  -- the live series with these keys, ids and cells
  abbrev pub live_of : List KeyText → List (Series X) → List (LiveSeries X)
  live_of [] _ = []
  live_of (key ∷ keys) [] = []
  live_of (key ∷ keys) (series ∷ others) = record { id = series.id; key = key; cell = series.cell } ∷ live_of keys others

  -- each key has a series, and their numbers rise
  pub record AreStored (keys : List KeyText) (series : List (Series X)) : Type 0 where
    pub beside : length keys ≡ length series
    pub rises : Rises (live_of keys series)

  -- the column with another cell at a place
  abbrev with_stored : Column X → ℕ → X → Option (Series X) → Column X
  with_stored column i cell None = column
  with_stored column i cell (Some series) = record { items = with_item column.items i (record series { cell = cell }) }

  abbrev pub with_stored_cell : Column X → ℕ → X → Column X
  with_stored_cell column i cell = with_stored column i cell (slice_get column.items.items i)
