-- What calls do that are made on a series with its own pass.
use Rattle.std.specs.Prelude.{◌≡◌, Option, Some, None, Result, Ok, Err}
use Rattle.metrics_core.specs.declared.numbers.Fixed.{Fixed as FixedOf}
use Rattle.metrics_core.specs.declared.gauge_values.GaugeValue.{GaugeValue}
use Rattle.metrics_facade.specs.declared.faults.OutOfRange.{OutOfRange}
use Rattle.metrics_facade.specs.declared.faults.RecordFault.{RecordFault}
use Rattle.metrics_facade.specs.declared.faults.RecordFault.TheVariants as fault
use Rattle.cell_lanes.specs.Things.{Lease}
use Rattle.flushed_cells.specs.declared.counter.DsdCounter.{DsdCounter}
use Rattle.flushed_cells.specs.declared.counter_calls.CounterCall.{CounterCall}
use Rattle.flushed_cells.specs.declared.gauge.DsdGauge.{DsdGauge}
use Rattle.flushed_cells.specs.declared.gauge_calls.GaugeCall.{GaugeCall}
use Rattle.flushed_cells.specs.declared.gauge_calls.GaugeCall.TheVariants.{Update}
use Rattle.flushed_cells.specs.Counters as counters
use Rattle.flushed_cells.specs.Gauges as gauges
use Rattle.sample_queue.specs.declared.calls.QueueCall.{QueueCall}
use Rattle.sample_queue.specs.declared.calls.QueueCall.TheVariants.{Push}
use Rattle.sample_queue.specs.declared.queue.SampleQueue.{SampleQueue}
use Rattle.sample_queue.specs.Queues as queues

-- a series that is held: its cell, and what its pass knows
abbrev pub CounterLease : Type 0
CounterLease = Lease CounterCall DsdCounter

abbrev pub GaugeLease : Type 0
GaugeLease = Lease GaugeCall DsdGauge

abbrev pub HistogramLease : Type 0
HistogramLease = Lease (QueueCall FixedOf) (SampleQueue FixedOf)

-- The call was made on the counter, behind a history that begins with all that its pass had seen.
pub record Counts (change : CounterCall) (old new : CounterLease) : Type 0 where
  pub cell : new.cell ≡ old.cell
  pub call : counters.Called change old.knows new.knows

-- the same of a change of a gauge
pub record Updates (change : GaugeValue) (old new : GaugeLease) : Type 0 where
  pub cell : new.cell ≡ old.cell
  pub call : gauges.Called (Update change) old.knows new.knows

-- a change by a value in range is made; without one it is refused, and nothing changes
abbrev pub Changes : Option GaugeValue → GaugeLease → GaugeLease → Result (Unit {0}) OutOfRange → Type 0
Changes None old new answer = (answer ≡ Err (record {})) × (new ≡ old)
Changes (Some change) old new answer = (answer ≡ Ok tt) × Updates change old new

-- a value went to the back of the queue, once
pub record Pushes (value : FixedOf) (old new : HistogramLease) : Type 0 where
  pub cell : new.cell ≡ old.cell
  pub call : queues.Called (Push (queues.entry_of value 1)) old.knows new.knows

-- a value in range is recorded, or refused for want of memory; without one it is refused for that; a refusal changes nothing
abbrev pub Recorded : FixedOf → HistogramLease → HistogramLease → Result (Unit {0}) RecordFault → Type 0
Recorded value old new (Ok _) = Pushes value old new
Recorded value old new (Err fault.Memory) = new ≡ old
Recorded value old new (Err fault.OutOfRange) = ⊥

abbrev pub Records : Option FixedOf → HistogramLease → HistogramLease → Result (Unit {0}) RecordFault → Type 0
Records None old new answer = (answer ≡ Err fault.OutOfRange) × (new ≡ old)
Records (Some value) old new answer = Recorded value old new answer
