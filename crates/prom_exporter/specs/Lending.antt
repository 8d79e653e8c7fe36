-- Which passes an exporter lends and takes back.
use Rattle.std.specs.Prelude.{◌≡◌, ℕ, Option, Some, None}
use Rattle.metrics_core.specs.declared.kinds.SeriesId.{SeriesId}
use Rattle.metrics_registry.specs.Live.{cell_of}
use Rattle.legal_history.specs.History.{child}
use Rattle.series_cells.specs.declared.counter.PromCounter.{PromCounter}
use Rattle.series_cells.specs.declared.gauge.PromGauge.{PromGauge}
use Rattle.series_cells.specs.declared.pass.CellPass.{CellPass}
use Rattle.series_cells.specs.Pass.{view_of, IsCounterPass, IsGaugePass}
use Rattle.prom_exporter.specs.declared.lent.Lent.{Lent}
use Rattle.prom_exporter.specs.Shared.{Makes, with_lent}
use Rattle.sample_queue.specs.declared.pass.SamplePass.{SamplePass}
use Rattle.sample_queue.specs.Passes.{IsSamplePass}
use Rattle.sample_queue.specs.Passes as samples
use Rattle.metrics_core.specs.declared.numbers.Fixed.{Fixed}
use Rattle.histogram_series.specs.Entries.{TimedQueue}
use Rattle.prom_exporter.specs.Sampled.{Sampled, with_pass_out}
use Rattle.prom_exporter.specs.Exporter.{Exporter, SharedCounter, SharedGauge, ChangesCounter, ChangesGauge, ChangesHistogram}

-- no counter with the id is live, no gauge, and no histogram
abbrev pub HasNoCounter : SeriesId → Exporter → Type 0
HasNoCounter id exporter = cell_of id exporter.series.counters ≡ None

abbrev pub HasNoGauge : SeriesId → Exporter → Type 0
HasNoGauge id exporter = cell_of id exporter.series.gauges ≡ None

abbrev pub HasNoHistogram : SeriesId → Exporter → Type 0
HasNoHistogram id exporter = cell_of id exporter.series.histograms ≡ None

-- a pass of the queue of a histogram
abbrev pub TimedPass : Type 0
TimedPass = SamplePass (Fixed × ℕ)

-- what is lent of a counter is the handle of its cell, which is made where there is none yet, and a new pass that has seen what the exporter has seen
pub record IsLentCounter (id : SeriesId) (s : SharedCounter) (lent : Lent (Option PromCounter) CellPass) : Type 0 where
  pub id_is : lent.id ≡ id
  pub made : PromCounter
  pub cell : Makes s.cell made
  pub handle : lent.handle ≡ Some made
  pub pass : IsCounterPass made lent.pass
  pub knows : view_of lent.pass ≡ child s.root

pub record IsLentGauge (id : SeriesId) (s : SharedGauge) (lent : Lent (Option PromGauge) CellPass) : Type 0 where
  pub id_is : lent.id ≡ id
  pub made : PromGauge
  pub cell : Makes s.cell made
  pub handle : lent.handle ≡ Some made
  pub pass : IsGaugePass made lent.pass
  pub knows : view_of lent.pass ≡ child s.root

pub record IsLentHistogram (id : SeriesId) (s : Sampled) (lent : Lent (Option TimedQueue) TimedPass) : Type 0 where
  pub id_is : lent.id ≡ id
  pub handle : lent.handle ≡ Some s.series.cell
  pub pass : IsSamplePass s.series.cell lent.pass
  pub knows : samples.view_of lent.pass ≡ child s.series.root

-- nothing is lent exactly where no such series is live; otherwise one more pass of the series is out
abbrev pub LendsCounter : SeriesId → Option (Lent (Option PromCounter) CellPass) → Exporter → Exporter → Type 0
LendsCounter id None old new = HasNoCounter id old × (new ≡ old)
LendsCounter id (Some lent) old new = ChangesCounter id (λ s t. (lends : IsLentCounter id s lent) × (t ≡ with_lent lends.made s)) old new

abbrev pub LendsGauge : SeriesId → Option (Lent (Option PromGauge) CellPass) → Exporter → Exporter → Type 0
LendsGauge id None old new = HasNoGauge id old × (new ≡ old)
LendsGauge id (Some lent) old new = ChangesGauge id (λ s t. (lends : IsLentGauge id s lent) × (t ≡ with_lent lends.made s)) old new

abbrev pub LendsHistogram : SeriesId → Option (Lent (Option TimedQueue) TimedPass) → Exporter → Exporter → Type 0
LendsHistogram id None old new = HasNoHistogram id old × (new ≡ old)
LendsHistogram id (Some lent) old new = ChangesHistogram id (λ s t. IsLentHistogram id s lent × (t ≡ with_pass_out s)) old new

-- where its series is live, what was lent has a pass of the series' cell
abbrev pub LentCounter : Exporter → Lent (Option PromCounter) CellPass → Type 0
LentCounter exporter lent = (s : SharedCounter) → cell_of lent.id exporter.series.counters ≡ Some s → (cell : PromCounter) × (s.cell ≡ Some cell) × IsCounterPass cell lent.pass

abbrev pub LentGauge : Exporter → Lent (Option PromGauge) CellPass → Type 0
LentGauge exporter lent = (s : SharedGauge) → cell_of lent.id exporter.series.gauges ≡ Some s → (cell : PromGauge) × (s.cell ≡ Some cell) × IsGaugePass cell lent.pass

abbrev pub LentHistogram : Exporter → Lent (Option TimedQueue) TimedPass → Type 0
LentHistogram exporter lent = (s : Sampled) → cell_of lent.id exporter.series.histograms ≡ Some s → IsSamplePass s.series.cell lent.pass
