-- What an exporter lent it takes back.
use Rattle.std.proofs.Common.{◌≡◌, Bool, true, false, List, [], ◌∷◌, sym, ap, subst, refl, ◌∙◌}
use Rattle.std.specs.Prelude.{Option, Some, None}
use Rattle.std.proofs.lemmas.Option.{same_Some}
use Rattle.metrics_core.specs.declared.kinds.SeriesId.{SeriesId}
use Rattle.metrics_registry.specs.Live.{LiveSeries, has_id, cell_of, with_cell}
use Rattle.metrics_facade.specs.Handles.{Stands}
use Rattle.metrics_core.specs.Calls.{Call}
use Rattle.series_cells.specs.declared.counter.PromCounter.{PromCounter}
use Rattle.series_cells.specs.declared.gauge.PromGauge.{PromGauge}
use Rattle.series_cells.specs.declared.pass.CellPass.{CellPass}
use Rattle.series_cells.specs.Pass.{IsCounterPass, IsGaugePass}
use Rattle.prom_exporter.specs.declared.lent.Lent.{Lent}
use Rattle.prom_exporter.specs.Exporter.{Exporter, SharedCounter, SharedGauge}
use Rattle.prom_exporter.specs.Lending.{LendsCounter, LendsGauge}

-- the cell that was put is the one that is there
put : {X : Type 0} (id : SeriesId) (es : List (LiveSeries X)) (cell found : X) → cell_of id (with_cell id es cell) ≡ Some found → cell ≡ found
put id [] cell found = λ at. absurd cc
put {X} id (e ∷ es) cell found = by (has_id id e) refl (put id es cell found)
  where
    by : (b : Bool) → has_id id e ≡ b → (cell_of id (with_cell id es cell) ≡ Some found → cell ≡ found) → cell_of id (with_cell id (e ∷ es) cell) ≡ Some found → cell ≡ found
    by true is again = rw (is, is) (λ at. same_Some cell found at)
    by false is again = rw (is, is) again

-- after a call the pass is still one of the cell
pub stays_of : {F P : Type 0} (is_pass : F → P → Type 0) (follows : F → P → Call → P → Type 0) (handle : Option F) (cell : F) (before after : P) (call : Call)
    → handle ≡ Some cell → Stands is_pass follows handle before call after → is_pass cell after
stays_of is_pass follows handle cell before after call is stands = (subst (λ h. Stands is_pass follows h before call after) is stands).0

pub counter_back : (id : SeriesId) (lent : Lent (Option PromCounter) CellPass) (old new : Exporter) (pass : CellPass) → LendsCounter id (Some lent) old new
    → ((cell : PromCounter) → lent.handle ≡ Some cell → IsCounterPass cell pass)
    → (s : SharedCounter) → cell_of lent.id new.series.counters ≡ Some s → (cell : PromCounter) × (s.cell ≡ Some cell) × IsCounterPass cell pass
counter_back id lent old new pass lends fits s at =
    let it = lends.3.0 in
    let is = put id old.series.counters lends.1 s (sym (λ j. cell_of (it.id_is j) (lends.4 j).series.counters) ∙ at) in
    (it.made, ap (λ (c : SharedCounter). c.cell) (sym is ∙ lends.3.1), fits it.made it.handle)

pub gauge_back : (id : SeriesId) (lent : Lent (Option PromGauge) CellPass) (old new : Exporter) (pass : CellPass) → LendsGauge id (Some lent) old new
    → ((cell : PromGauge) → lent.handle ≡ Some cell → IsGaugePass cell pass)
    → (s : SharedGauge) → cell_of lent.id new.series.gauges ≡ Some s → (cell : PromGauge) × (s.cell ≡ Some cell) × IsGaugePass cell pass
gauge_back id lent old new pass lends fits s at =
    let it = lends.3.0 in
    let is = put id old.series.gauges lends.1 s (sym (λ j. cell_of (it.id_is j) (lends.4 j).series.gauges) ∙ at) in
    (it.made, ap (λ (c : SharedGauge). c.cell) (sym is ∙ lends.3.1), fits it.made it.handle)
