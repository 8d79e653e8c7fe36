-- What a recorder hands out of a series, and what its history has of it.
use Rattle.std.specs.Prelude.{◌≡◌, ◌⊎◌, ℕ, Option, Some, None}
use Rattle.legal_history.specs.declared.history.View.{View}
use Rattle.legal_history.specs.History.{child, first}
use Rattle.metrics_core.specs.Keys.{KeyText}
use Rattle.metrics_core.specs.declared.kinds.MetricKind.{MetricKind}
use Rattle.metrics_core.specs.declared.kinds.MetricKind.TheVariants as kinds
use Rattle.metrics_core.specs.declared.kinds.SeriesId.{SeriesId}
use Rattle.metrics_core.specs.declared.calls.SeriesCall.{SeriesCall}
use Rattle.metrics_facade.specs.Handles.{Fits}
use Rattle.series_cells.specs.declared.counter.PromCounter.{PromCounter}
use Rattle.series_cells.specs.declared.gauge.PromGauge.{PromGauge}
use Rattle.series_cells.specs.declared.pass.CellPass.{CellPass}
use Rattle.series_cells.specs.Pass.{view_of, IsCounterPass, IsGaugePass}
use Rattle.sample_queue.specs.Passes.{IsSamplePass}
use Rattle.sample_queue.specs.Passes as samples
use Rattle.histogram_series.specs.Entries.{TimedQueue, TimedCall}
use Rattle.prom_exporter.specs.declared.lent.Lent.{Lent}
use Rattle.prom_exporter.specs.State.{no_series}
use Rattle.prom_exporter.specs.Exporter.{Exporter}
use Rattle.prom_exporter.specs.Lending.{TimedPass}
use Rattle.shared_turns.specs.Passes.{Waits}
use Rattle.shared_recorder.specs.declared.entries.RecorderEntry.{RecorderEntry}
use Rattle.shared_recorder.specs.declared.entries.RecorderEntry.TheVariants.{Register}
use Rattle.shared_recorder.specs.Stands.{Makes, KnowsBuilt}
use Rattle.shared_recorder.specs.Lending.{Lends}

-- what is lent of each kind
abbrev pub CounterLent : Type 0
CounterLent = Lent (Option PromCounter) CellPass

abbrev pub GaugeLent : Type 0
GaugeLent = Lent (Option PromGauge) CellPass

abbrev pub HistogramLent : Type 0
HistogramLent = Lent (Option TimedQueue) TimedPass

-- ---- what is handed out

-- the handle of a cell, with a pass of this cell that a root pass lent and that has made no call
pub record IsHandedCounter (lent : CounterLent) : Type 0 where
  pub cell : PromCounter
  pub root : View SeriesCall
  pub kind : lent.id.kind ≡ kinds.Counter
  pub handle : lent.handle ≡ Some cell
  pub fits : Fits IsCounterPass lent.handle lent.pass
  pub knows : view_of lent.pass ≡ child root

pub record IsHandedGauge (lent : GaugeLent) : Type 0 where
  pub cell : PromGauge
  pub root : View SeriesCall
  pub kind : lent.id.kind ≡ kinds.Gauge
  pub handle : lent.handle ≡ Some cell
  pub fits : Fits IsGaugePass lent.handle lent.pass
  pub knows : view_of lent.pass ≡ child root

pub record IsHandedHistogram (lent : HistogramLent) : Type 0 where
  pub queue : TimedQueue
  pub root : View TimedCall
  pub kind : lent.id.kind ≡ kinds.Histogram
  pub handle : lent.handle ≡ Some queue
  pub fits : Fits IsSamplePass lent.handle lent.pass
  pub knows : samples.view_of lent.pass ≡ child root

-- a new cell under an id, with a pass of it, of which only the root pass is beside this one
pub record IsNewCounter (id : SeriesId) (lent : CounterLent) : Type 0 where
  pub cell : PromCounter
  pub id_is : lent.id ≡ id
  pub handle : lent.handle ≡ Some cell
  pub pass : IsCounterPass cell lent.pass
  pub knows : view_of lent.pass ≡ child first

pub record IsNewGauge (id : SeriesId) (lent : GaugeLent) : Type 0 where
  pub cell : PromGauge
  pub id_is : lent.id ≡ id
  pub handle : lent.handle ≡ Some cell
  pub pass : IsGaugePass cell lent.pass
  pub knows : view_of lent.pass ≡ child first

pub record IsNewHistogram (id : SeriesId) (lent : HistogramLent) : Type 0 where
  pub queue : TimedQueue
  pub id_is : lent.id ≡ id
  pub handle : lent.handle ≡ Some queue
  pub pass : IsSamplePass queue lent.pass
  pub knows : samples.view_of lent.pass ≡ child first

-- ---- what becomes of the history

module _ {H P : Type 0} (kind : MetricKind) (lends : SeriesId → Option (Lent H P) → Exporter → Exporter → Type 0) where
  -- the series of the key was registered behind all that the pass had seen, and then it was lent, under the id that the registration gave
  abbrev pub HandsSeries : KeyText → Lent H P → View RecorderEntry → View RecorderEntry → Type 0
  HandsSeries key lent v w = (between : View RecorderEntry) × Makes (Register kind key lent.id.number) v between × Lends (lends lent.id (Some lent)) between w

  -- the same where no series with that id was live when it was to be lent: a new cell is, which no page shows
  abbrev pub HandsSpare : (SeriesId → Lent H P → Type 0) → KeyText → Lent H P → View RecorderEntry → View RecorderEntry → Type 0
  HandsSpare is_new key lent v w = (between : View RecorderEntry) × Makes (Register kind key lent.id.number) v between × Lends (lends lent.id None) between w × is_new lent.id lent

  abbrev pub HandsOut : (SeriesId → Lent H P → Type 0) → KeyText → Lent H P → View RecorderEntry → View RecorderEntry → Type 0
  HandsOut is_new key lent v w = HandsSeries key lent v w ⊎ HandsSpare is_new key lent v w

  -- where no idle timeout is set, it is the series of the key itself, if there weren't too many
  abbrev pub IsItsOwn : KeyText → Lent H P → View RecorderEntry → View RecorderEntry → Type 0
  IsItsOwn key lent v w = (built : Exporter) → KnowsBuilt built v → built.settings.idle ≡ None → ¬ (lent.id.number ≡ no_series) → HandsSeries key lent v w

-- nothing was registered; or a series of the key was, and was not lent
abbrev pub RegistersInPart : MetricKind → KeyText → View RecorderEntry → View RecorderEntry → Type 0
RegistersInPart kind key v w = Waits v w ⊎ ((number : ℕ) × (between : View RecorderEntry) × Makes (Register kind key number) v between × Waits between w)
