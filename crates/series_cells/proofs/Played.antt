-- What lanes asked for, as it stands in the history of a counter or a gauge.
use Rattle.std.proofs.Common.{◌≡◌, ℕ, List, [], ◌∷◌, ◌++◌, refl, ap, ◌∙◌, subst}
use Rattle.legal_history.specs.declared.history.Entry.{Entry}
use Rattle.legal_history.specs.declared.history.View.{View}
use Rattle.legal_history.specs.History.{calls, looked, Sees}
use Rattle.legal_history.specs.Order.{taken, IsOrder}
use Rattle.cell_lanes.specs.Calls.{Made, StandAs, Shows}
use Rattle.cell_lanes.specs.Lanes.{ReadAfter}
use Rattle.cell_lanes.proofs.Played.{looked_is}
use Rattle.metrics_core.specs.declared.calls.SeriesCall.{SeriesCall}
use Rattle.series_cells.specs.Series.{all_as}

module _ (makes : SeriesCall → List SeriesCall) where
  -- what was asked for stands as the calls that each makes
  pub stand_all : (cs made : List SeriesCall) → StandAs (λ call made. made ≡ makes call) cs made → made ≡ all_as makes cs
  stand_all [] made e = e
  stand_all (c ∷ cs) made s = s.4 ∙ (ap (λ l. l ++ s.1) s.2 ∙ ap (λ l. makes c ++ l) (stand_all cs s.1 s.3))

  -- the value that is read after a round in which all lanes made all their calls
  pub value_after : {R : Type 0} (value_of : List SeriesCall → R) (asked : ℕ → List SeriesCall) (before : View SeriesCall) (reading : R) → ReadAfter (Shows value_of) (λ call made. made ≡ makes call) asked before reading
      → (order : List ℕ) × IsOrder order (λ l. all_as makes (asked l)) × (reading ≡ value_of (calls before.seen ++ taken order (λ l. all_as makes (asked l))))
  value_after value_of asked before reading after =
      let same : after.lists ≡ (λ l. all_as makes (asked l)) = λ i l. stand_all (asked l) (after.lists l) (after.stand l) i in
      let shows = after.reads_it in (
        after.order,
        subst (IsOrder after.order) same after.is_order,
        shows.2 ∙ (ap (λ log. value_of (calls log)) (shows.1.whole after.root after.home).0
            ∙ (ap value_of after.grew ∙ ap (λ (lists : ℕ → List SeriesCall). value_of (calls before.seen ++ taken after.order lists)) same)),
      )

-- a look makes no call
pub looked_made : (v w : View SeriesCall) (log : List (Entry SeriesCall)) → Sees v log → w ≡ looked v log → Made (λ made. made ≡ []) v w
looked_made v w log sees is = ([], refl, (log, sees, is ∙ looked_is v log))
