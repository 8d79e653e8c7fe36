-- What the exporters hear of a call on a metric of a service, and what is new of a metric that was registered.
use Rattle.std.specs.Prelude.{◌≡◌, ◌⊎◌, ℕ, [], Option, Some, None, Result, Ok, Err}
use Rattle.legal_history.specs.declared.history.View.{View}
use Rattle.legal_history.specs.History.{child}
use Rattle.metrics_core.specs.Calls.{Call, Add, Subtract, Set, Record}
use Rattle.metrics_core.specs.declared.calls.SeriesCall.{SeriesCall}
use Rattle.metrics_core.specs.declared.gauge_values.GaugeValue.{GaugeValue}
use Rattle.metrics_core.specs.declared.gauge_values.GaugeValue.TheVariants as changes
use Rattle.metrics_core.specs.declared.numbers.Fixed.{Fixed as FixedOf}
use Rattle.metrics_facade.specs.Handles.{Stands, Refused}
use Rattle.metrics_facade.specs.declared.faults.OutOfRange.{OutOfRange}
use Rattle.metrics_facade.specs.declared.faults.RecordFault.{RecordFault}
use Rattle.metrics_facade.specs.declared.faults.RecordFault.TheVariants as faults
use Rattle.metric_handles.specs.Carried.{Carried}
use Rattle.series_cells.specs.declared.counter.PromCounter.{PromCounter}
use Rattle.series_cells.specs.declared.gauge.PromGauge.{PromGauge}
use Rattle.series_cells.specs.declared.pass.CellPass.{CellPass}
use Rattle.series_cells.specs.Pass.{view_of, IsCounterPass, IsGaugePass, Follows}
use Rattle.sample_queue.specs.Histograms.{Records, Stays, timed}
use Rattle.sample_queue.specs.Passes.{IsSamplePass}
use Rattle.sample_queue.specs.Passes as samples
use Rattle.histogram_series.specs.Entries.{TimedQueue, TimedCall}
use Rattle.prom_exporter.specs.Lending.{TimedPass}
use Rattle.shared_recorder.specs.declared.recorder.SharedRecorder.{SharedRecorder}
use Rattle.dsd_forwarder.specs.declared.recorder.DogStatsDRecorder.{DogStatsDRecorder}
use Rattle.dsd_forwarder.specs.Held.{CounterLease, GaugeLease, HistogramLease, Updates, Pushes}
use Rattle.service_metrics.specs.declared.faults.RecordError.{RecordError}
use Rattle.service_metrics.specs.declared.faults.RecordError.TheVariants as errors

-- ---- metrics, and their parts

-- the recorders that hear what is registered
pub record MetricsText : Type 0 where
  pub pages : Option SharedRecorder
  pub flushes : Option DogStatsDRecorder

-- a metric: the handle of the exporter of pages and that of the exporter of flushes, where there are such exporters
pub record Parts (P F : Type 0) : Type 0 where
  pub paged : Option P
  pub flushed : Option F

abbrev pub PagedCounter : Type 0
PagedCounter = Carried PromCounter CellPass

abbrev pub PagedGauge : Type 0
PagedGauge = Carried PromGauge CellPass

abbrev pub PagedHistogram : Type 0
PagedHistogram = Carried TimedQueue TimedPass

abbrev pub CounterParts : Type 0
CounterParts = Parts PagedCounter CounterLease

abbrev pub GaugeParts : Type 0
GaugeParts = Parts PagedGauge GaugeLease

abbrev pub HistogramParts : Type 0
HistogramParts = Parts PagedHistogram HistogramLease

-- ---- calls

-- what becomes of a part that may be left out
abbrev pub IfAny : {A : Type 0} → (A → A → Type 0) → Option A → Option A → Type 0
IfAny becomes None new = new ≡ None
IfAny {A} becomes (Some old) new = (part : A) × (new ≡ Some part) × becomes old part

-- each exporter that there is heard one call
pub record Heard {P F : Type 0} (pages : P → P → Type 0) (flushes : F → F → Type 0) (old new : Parts P F) : Type 0 where
  pub paged : IfAny pages old.paged new.paged
  pub flushed : IfAny flushes old.flushed new.flushed

-- the call was made once on the series of the pages
pub record PagedCounts (call : Call) (old new : PagedCounter) : Type 0 where
  pub cell : new.cell ≡ old.cell
  pub made : Stands IsCounterPass (λ _. Follows) old.cell old.pass call new.pass

pub record PagedChanges (call : Call) (old new : PagedGauge) : Type 0 where
  pub cell : new.cell ≡ old.cell
  pub made : Stands IsGaugePass (λ _. Follows) old.cell old.pass call new.pass

pub record PagedRecords (call : Call) (old new : PagedHistogram) : Type 0 where
  pub cell : new.cell ≡ old.cell
  pub made : Stands IsSamplePass (λ _. Records timed) old.cell old.pass call new.pass

-- a change of a gauge as a call on the series of the pages
abbrev pub call_of : GaugeValue → Call
call_of (changes.Absolute value) = Set value.0
call_of (changes.Increment value) = Add value.0
call_of (changes.Decrement value) = Subtract value.0

-- a change by a value in range is heard; without one it is refused, and nothing changes
abbrev pub HeardIfInRange : Option GaugeValue → GaugeParts → GaugeParts → Result (Unit {0}) OutOfRange → Type 0
HeardIfInRange None old new answer = (answer ≡ Err (record {})) × (new ≡ old)
HeardIfInRange (Some change) old new answer = (answer ≡ Ok tt) × Heard (PagedChanges (call_of change)) (Updates change) old new

-- ---- samples

-- the value was recorded once at some moment, by each exporter
abbrev pub Samples : FixedOf → HistogramParts → HistogramParts → Type 0
Samples value old new = (moment : ℕ) × Heard (PagedRecords (Record value.0 moment 1)) (Pushes value) old new

-- no value was recorded: the pass tells what it told before
pub record PagedStays (old new : PagedHistogram) : Type 0 where
  pub cell : new.cell ≡ old.cell
  pub pass : Refused IsSamplePass (λ _. Stays) old.cell old.pass new.pass

-- memory was refused: before any exporter had the value, or where flushes had it and pages have not
abbrev pub SamplesInPart : FixedOf → HistogramParts → HistogramParts → Type 0
SamplesInPart value old new = (new ≡ old) ⊎ Heard PagedStays (Pushes value) old new

-- a value in range is recorded, or refused for want of memory or of a clock; without one it is refused for that
abbrev pub IsSampled : FixedOf → HistogramParts → HistogramParts → Result (Unit {0}) RecordError → Type 0
IsSampled value old new (Ok _) = Samples value old new
IsSampled value old new (Err errors.Memory) = SamplesInPart value old new
IsSampled value old new (Err errors.Clock) = new ≡ old
IsSampled value old new (Err errors.OutOfRange) = ⊥

abbrev pub IsRecorded : Option FixedOf → HistogramParts → HistogramParts → Result (Unit {0}) RecordError → Type 0
IsRecorded None old new answer = (answer ≡ Err errors.OutOfRange) × (new ≡ old)
IsRecorded (Some value) old new answer = IsSampled value old new answer

-- the value is in range, and was recorded
abbrev pub IsSample : Option FixedOf → HistogramParts → HistogramParts → Type 0
IsSample None old new = ⊥
IsSample (Some value) old new = Samples value old new

-- why an exporter's histogram refused a value
abbrev pub error_of : RecordFault → RecordError
error_of faults.OutOfRange = errors.OutOfRange
error_of faults.Memory = errors.Memory

-- ---- registrations

-- for each recorder that there is there is a new part
abbrev pub IsPartOf : {A B : Type 0} → (B → Type 0) → Option A → Option B → Type 0
IsPartOf is_new None part = part ≡ None
IsPartOf {A} {B} is_new (Some _) part = (new : B) × (part ≡ Some new) × is_new new

-- a handle of a cell with a pass of it that has made no call
abbrev pub IsUncalledCounter : PagedCounter → Type 0
IsUncalledCounter handle = (cell : PromCounter) × (root : View SeriesCall) × (handle.cell ≡ Some cell) × (view_of handle.pass ≡ child root)

abbrev pub IsUncalledGauge : PagedGauge → Type 0
IsUncalledGauge handle = (cell : PromGauge) × (root : View SeriesCall) × (handle.cell ≡ Some cell) × (view_of handle.pass ≡ child root)

abbrev pub IsUncalledHistogram : PagedHistogram → Type 0
IsUncalledHistogram handle = (queue : TimedQueue) × (root : View TimedCall) × (handle.cell ≡ Some queue) × (samples.view_of handle.pass ≡ child root)

pub record IsNewCounter (metrics : MetricsText) (made : CounterParts) : Type 0 where
  pub paged : IsPartOf IsUncalledCounter metrics.pages made.paged
  pub flushed : IsPartOf (λ lease. lease.knows.mine ≡ []) metrics.flushes made.flushed

pub record IsNewGauge (metrics : MetricsText) (made : GaugeParts) : Type 0 where
  pub paged : IsPartOf IsUncalledGauge metrics.pages made.paged
  pub flushed : IsPartOf (λ lease. lease.knows.mine ≡ []) metrics.flushes made.flushed

pub record IsNewHistogram (metrics : MetricsText) (made : HistogramParts) : Type 0 where
  pub paged : IsPartOf IsUncalledHistogram metrics.pages made.paged
  pub flushed : IsPartOf (λ lease. lease.knows.mine ≡ []) metrics.flushes made.flushed
