-- What a round that finished leaves in each history.
use Rattle.std.proofs.Common.{◌≡◌, ℕ, List, ◌++◌, ap, ◌∙◌, subst}
use Rattle.std.proofs.lemmas.List.{append-nil}
use mathlib.Core.Option.{some}
use lib.ListN.{get_elem?}
use Rattle.legal_history.specs.declared.history.View.{View}
use Rattle.legal_history.specs.History.{calls}
use Rattle.legal_history.specs.Order.{taken, IsOrder}
use Rattle.cell_lanes.specs.Lines.{LaneText}
use Rattle.cell_lanes.specs.Lanes.{Finished, GrewWhole, all_calls_on, none_later}
use Rattle.metrics_core.specs.declared.calls.SeriesCall.{SeriesCall}
use Rattle.series_cells.specs.Series.{all_as}
use Rattle.series_cells.proofs.Played.{stand_all}

module _ (makes : SeriesCall → List SeriesCall) where
  -- a history after a round that finished: what it was before, and then, in one order, what the lanes asked for
  pub played : {S R : Type 0} (root : S → View SeriesCall) (value_of : List SeriesCall → R) (lanes : List (LaneText SeriesCall)) (cs ds : List S) → Finished root (λ call made. made ≡ makes call) lanes none_later cs ds
      → (j : ℕ) (c d : S) → get_elem? cs j ≡ some c → get_elem? ds j ≡ some d
      → (order : List ℕ) × IsOrder order (λ l. all_as makes (all_calls_on j lanes l)) × (value_of (calls (root d).seen) ≡ value_of (calls (root c).seen ++ taken order (λ l. all_as makes (all_calls_on j lanes l))))
  played root value_of lanes cs ds finished j c d before after =
      let grew : GrewWhole root (λ call made. made ≡ makes call) lanes none_later j c d = finished.grew j c d before after in
      let same : grew.0 ≡ (λ l. all_as makes (all_calls_on j lanes l)) = λ i l. stand_all makes (all_calls_on j lanes l) (grew.0 l) (grew.1 l) i in (
        grew.2,
        subst (IsOrder grew.2) same grew.3,
        ap value_of (grew.4 ∙ (append-nil (calls (root c).seen ++ taken grew.2 grew.0) ∙ ap (λ (lists : ℕ → List SeriesCall). calls (root c).seen ++ taken grew.2 lists) same)),
      )
