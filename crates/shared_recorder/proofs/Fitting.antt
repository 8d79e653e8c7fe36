-- What is lent has a pass of its handle's cell.
use Rattle.std.proofs.Common.{◌≡◌, sym, subst, Option, Some, None}
use Rattle.std.specs.Prelude.{IfSome}
use Rattle.metrics_core.specs.declared.kinds.SeriesId.{SeriesId}
use Rattle.metrics_facade.specs.Handles.{Fits}
use Rattle.series_cells.specs.declared.counter.PromCounter.{PromCounter}
use Rattle.series_cells.specs.declared.gauge.PromGauge.{PromGauge}
use Rattle.series_cells.specs.declared.pass.CellPass.{CellPass}
use Rattle.series_cells.specs.Pass.{IsCounterPass, IsGaugePass}
use Rattle.sample_queue.specs.Passes.{IsSamplePass}
use Rattle.histogram_series.specs.Entries.{TimedQueue}
use Rattle.prom_exporter.specs.declared.lent.Lent.{Lent}
use Rattle.prom_exporter.specs.Exporter.{Exporter}
use Rattle.prom_exporter.specs.Lending.{LendsCounter, LendsGauge, LendsHistogram, TimedPass}

pub counter_fits : (id : SeriesId) (o : Option (Lent (Option PromCounter) CellPass)) (x y : Exporter) → LendsCounter id o x y → IfSome o (λ (l : Lent (Option PromCounter) CellPass). Fits IsCounterPass l.handle l.pass)
counter_fits id None x y l = tt
counter_fits id (Some lent) x y l = subst (λ h. Fits IsCounterPass h lent.pass) (sym l.3.0.handle) l.3.0.pass

pub gauge_fits : (id : SeriesId) (o : Option (Lent (Option PromGauge) CellPass)) (x y : Exporter) → LendsGauge id o x y → IfSome o (λ (l : Lent (Option PromGauge) CellPass). Fits IsGaugePass l.handle l.pass)
gauge_fits id None x y l = tt
gauge_fits id (Some lent) x y l = subst (λ h. Fits IsGaugePass h lent.pass) (sym l.3.0.handle) l.3.0.pass

pub histogram_fits : (id : SeriesId) (o : Option (Lent (Option TimedQueue) TimedPass)) (x y : Exporter) → LendsHistogram id o x y → IfSome o (λ (l : Lent (Option TimedQueue) TimedPass). Fits IsSamplePass l.handle l.pass)
histogram_fits id None x y l = tt
histogram_fits id (Some lent) x y l = subst (λ h. Fits IsSamplePass h lent.pass) (sym l.3.0.handle) l.3.0.pass
