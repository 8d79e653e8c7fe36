-- What a test keeps whose answers are those of a function.
use Rattle.std.proofs.Common.{◌≡◌, Bool, true, false, List, [], ◌∷◌, cond, Option, None, Some, filter_map, refl, ◌∙◌}
use Rattle.std.specs.List.{cons_option}
use Rattle.std.specs.Borrow.{MutBor}
use Rattle.std.specs.Fn.{Mut}
use Rattle.metrics_core.specs.declared.kinds.SeriesId.{SeriesId}
use Rattle.metrics_registry.specs.Live.{LiveSeries}
use Rattle.metrics_registry.specs.Retained.{AskedAt, Retains}

module _ {X : Type 0} (keeps : SeriesId → X → Bool) (leaves : SeriesId → X → X) where
  -- a series with the cell that is left, where it is kept
  abbrev pub kept_series : LiveSeries X → Option (LiveSeries X)
  kept_series series = cond (keeps series.id series.cell) (Some (record series { cell = leaves series.id series.cell })) None

  module _ {F : Type 0} (g : Mut F (SeriesId × (MutBor X × Unit {0})) (Bool × (MutBor X × Unit {0})))
      (says : (f : F) (id : SeriesId) (cell : X) (b : Bool) (left : X) (f' : F) → AskedAt g f id cell b left f' → (b ≡ keeps id cell) × (left ≡ leaves id cell)) where
    -- what is left by a test that answers and leaves what these functions give
    pub retains-by : (f : F) (live kept : List (LiveSeries X)) (last : F) → Retains g f live kept last → kept ≡ filter_map kept_series live
    retains-by f [] kept last done = done.0
    retains-by f (series ∷ live) kept last done =
        let own = says f series.id series.cell done.0 done.1 done.2 done.4 in
        let rest = retains-by done.2 live done.3 last done.5 in
        done.6
        ∙ (λ j. cond (own.0 j) (record series { cell = own.1 j } ∷ rest j) (rest j))
        ∙ (elim (keeps series.id series.cell) as (λ b. cond b (record series { cell = leaves series.id series.cell } ∷ filter_map kept_series live) (filter_map kept_series live) ≡ cons_option (cond b (Some (record series { cell = leaves series.id series.cell })) None) (filter_map kept_series live)) [
          | true ↦ refl
          | false ↦ refl
        ])
