-- Which passes an exporter lends and takes back.
use Rattle.std.specs.Prelude.{◌≡◌, Option, Some, None}
use Rattle.std.specs.declared.sync.Arc.{Arc}
use Rattle.std.specs.declared.alloc.Global.{Global}
use Rattle.std.specs.Arc.{arc_value}
use Rattle.legal_history.specs.History.{child, lender, taker}
use Rattle.legal_history.specs.declared.history.View.{View}
use Rattle.cell_lanes.specs.Things.{Thing}
use Rattle.metrics_core.specs.declared.kinds.SeriesId.{SeriesId}
use Rattle.metrics_core.specs.declared.numbers.Fixed.{Fixed as FixedOf}
use Rattle.metrics_registry.specs.Live.{cell_of, with_cell}
use Rattle.flushed_cells.specs.declared.counter.DsdCounter.{DsdCounter}
use Rattle.flushed_cells.specs.declared.counter_state.CounterState.{CounterState}
use Rattle.flushed_cells.specs.declared.counter_calls.CounterCall.{CounterCall}
use Rattle.flushed_cells.specs.declared.gauge.DsdGauge.{DsdGauge}
use Rattle.flushed_cells.specs.declared.gauge_state.GaugeState.{GaugeState}
use Rattle.flushed_cells.specs.declared.gauge_calls.GaugeCall.{GaugeCall}
use Rattle.flushed_cells.specs.declared.pass.DsdPass.{DsdPass}
use Rattle.flushed_cells.specs.Cells.{IsCounterPass, IsGaugePass}
use Rattle.flushed_cells.specs.Passes as flushed
use Rattle.sample_queue.specs.declared.calls.QueueCall.{QueueCall}
use Rattle.sample_queue.specs.declared.pass.SamplePass.{SamplePass}
use Rattle.sample_queue.specs.declared.queue.SampleQueue.{SampleQueue}
use Rattle.sample_queue.specs.Passes.{IsSamplePass}
use Rattle.sample_queue.specs.Passes as queued
use Rattle.dsd_exporter.specs.declared.lent.Lent.{Lent}
use Rattle.dsd_exporter.specs.Exporter.{Exporter, CounterThing, GaugeThing, Queued}

-- what is lent of a series: its cell, and a pass of it
abbrev pub LentCounterOf : Type 0
LentCounterOf = Lent (Arc DsdCounter Global) (DsdPass CounterState CounterCall)

abbrev pub LentGaugeOf : Type 0
LentGaugeOf = Lent (Arc DsdGauge Global) (DsdPass GaugeState GaugeCall)

abbrev pub LentHistogramOf : Type 0
LentHistogramOf = Lent (Arc (SampleQueue FixedOf) Global) (SamplePass FixedOf)

-- no series of the kind has the id
abbrev pub HasNoCounter : SeriesId → Exporter → Type 0
HasNoCounter id exporter = cell_of id exporter.series.counters ≡ None

abbrev pub HasNoGauge : SeriesId → Exporter → Type 0
HasNoGauge id exporter = cell_of id exporter.series.gauges ≡ None

abbrev pub HasNoHistogram : SeriesId → Exporter → Type 0
HasNoHistogram id exporter = cell_of id exporter.series.histograms ≡ None

-- the series with the id changes so, and nothing else does
abbrev pub ChangesCounter : SeriesId → (CounterThing → CounterThing → Type 0) → Exporter → Exporter → Type 0
ChangesCounter id changes old new =
    (s t : CounterThing) × (cell_of id old.series.counters ≡ Some s) × changes s t
    × (new ≡ record old { series = record old.series { counters = with_cell id old.series.counters t } })

abbrev pub ChangesGauge : SeriesId → (GaugeThing → GaugeThing → Type 0) → Exporter → Exporter → Type 0
ChangesGauge id changes old new =
    (s t : GaugeThing) × (cell_of id old.series.gauges ≡ Some s) × changes s t
    × (new ≡ record old { series = record old.series { gauges = with_cell id old.series.gauges t } })

abbrev pub ChangesHistogram : SeriesId → (Queued → Queued → Type 0) → Exporter → Exporter → Type 0
ChangesHistogram id changes old new =
    (s t : Queued) × (cell_of id old.series.histograms ≡ Some s) × changes s t
    × (new ≡ record old { series = record old.series { histograms = with_cell id old.series.histograms t } })

-- a cell is made once: then it is the one that is there
abbrev pub Makes : {F : Type 0} → Option F → F → Type 0
Makes None cell = Unit {0}
Makes (Some made) cell = cell ≡ made

-- one more pass of a cell is out
abbrev pub with_lent : {M F : Type 0} → F → Thing M (Option F) → Thing M (Option F)
with_lent cell s = record { root = lender s.root; fixed = Some cell }

-- one more pass is out; a pass that knew so much was taken back
abbrev pub with_one_back : {M F : Type 0} → View M → Thing M F → Thing M F
with_one_back known s = record s { root = taker s.root known }

abbrev pub queue_out : Queued → Queued
queue_out s = record s { root = lender s.root }

abbrev pub queue_back : View (QueueCall FixedOf) → Queued → Queued
queue_back known s = record s { root = taker s.root known }

-- what is lent of a series is its cell, which is made where there is none yet, and a new pass that has seen what the exporter has seen
pub record IsLentCounter (id : SeriesId) (s : CounterThing) (lent : LentCounterOf) : Type 0 where
  pub id_is : lent.id ≡ id
  pub cell : Makes s.fixed (arc_value lent.handle)
  pub pass : IsCounterPass (arc_value lent.handle) lent.pass
  pub knows : flushed.view_of lent.pass ≡ child s.root

pub record IsLentGauge (id : SeriesId) (s : GaugeThing) (lent : LentGaugeOf) : Type 0 where
  pub id_is : lent.id ≡ id
  pub cell : Makes s.fixed (arc_value lent.handle)
  pub pass : IsGaugePass (arc_value lent.handle) lent.pass
  pub knows : flushed.view_of lent.pass ≡ child s.root

pub record IsLentHistogram (id : SeriesId) (s : Queued) (lent : LentHistogramOf) : Type 0 where
  pub id_is : lent.id ≡ id
  pub handle : arc_value lent.handle ≡ s.cell
  pub pass : IsSamplePass s.cell lent.pass
  pub knows : queued.view_of lent.pass ≡ child s.root

-- nothing is lent exactly where there is no such series; otherwise one more pass of it is out
abbrev pub LendsCounter : SeriesId → Option LentCounterOf → Exporter → Exporter → Type 0
LendsCounter id None old new = HasNoCounter id old × (new ≡ old)
LendsCounter id (Some lent) old new = ChangesCounter id (λ s t. IsLentCounter id s lent × (t ≡ with_lent (arc_value lent.handle) s)) old new

abbrev pub LendsGauge : SeriesId → Option LentGaugeOf → Exporter → Exporter → Type 0
LendsGauge id None old new = HasNoGauge id old × (new ≡ old)
LendsGauge id (Some lent) old new = ChangesGauge id (λ s t. IsLentGauge id s lent × (t ≡ with_lent (arc_value lent.handle) s)) old new

abbrev pub LendsHistogram : SeriesId → Option LentHistogramOf → Exporter → Exporter → Type 0
LendsHistogram id None old new = HasNoHistogram id old × (new ≡ old)
LendsHistogram id (Some lent) old new = ChangesHistogram id (λ s t. IsLentHistogram id s lent × (t ≡ queue_out s)) old new

-- where there is such a series, what was lent has a pass of its cell
abbrev pub LentCounter : Exporter → LentCounterOf → Type 0
LentCounter exporter lent = (s : CounterThing) → cell_of lent.id exporter.series.counters ≡ Some s → (cell : DsdCounter) × (s.fixed ≡ Some cell) × IsCounterPass cell lent.pass

abbrev pub LentGauge : Exporter → LentGaugeOf → Type 0
LentGauge exporter lent = (s : GaugeThing) → cell_of lent.id exporter.series.gauges ≡ Some s → (cell : DsdGauge) × (s.fixed ≡ Some cell) × IsGaugePass cell lent.pass

abbrev pub LentHistogram : Exporter → LentHistogramOf → Type 0
LentHistogram exporter lent = (s : Queued) → cell_of lent.id exporter.series.histograms ≡ Some s → IsSamplePass s.cell lent.pass
