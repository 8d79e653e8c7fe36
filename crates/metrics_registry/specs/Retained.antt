-- What a call leaves that keeps the series for which a test holds.
use Rattle.std.specs.Prelude.{◌≡◌, Bool, List, [], ◌∷◌, cond}
use Rattle.std.specs.Borrow.{MutBor}
use Rattle.std.specs.Fn.{Mut, Called}
use Rattle.metrics_core.specs.declared.kinds.SeriesId.{SeriesId}
use Rattle.metrics_registry.specs.Live.{LiveSeries}

module _ {F X : Type 0} (g : Mut F (SeriesId × (MutBor X × Unit {0})) (Bool × (MutBor X × Unit {0}))) where
  -- f, called at the id and the cell of a series, may answer b, leave another cell, and leave f as f'
  pub record AskedAt (f : F) (id : SeriesId) (cell : X) (b : Bool) (cell' : X) (f' : F) : Type 0 where
    pub lent : MutBor X
    pub shows : lent.now ≡ cell
    pub left : MutBor X
    pub called : Called g f (id, (lent, tt)) (b, (left, tt)) f'
    pub leaves : left.now ≡ cell'

  -- f was asked of each series in turn, and those are left at which it answered true, with the cells that it left there
  abbrev pub Retains : F → List (LiveSeries X) → List (LiveSeries X) → F → Type 0
  Retains f [] kept last = (kept ≡ []) × (f ≡ last)
  Retains f (series ∷ live) kept last =
      (b : Bool) × (cell : X) × (f' : F) × (rest : List (LiveSeries X))
      × AskedAt f series.id series.cell b cell f' × Retains f' live rest last × (kept ≡ cond b (record series { cell = cell } ∷ rest) rest)
