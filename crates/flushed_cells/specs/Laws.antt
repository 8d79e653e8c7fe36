-- What holds of the calls of every history, and of what they leave.
use Rattle.std.specs.Prelude.{◌≡◌, ◌+◌, ◌≤◌, List}
use Rattle.metrics_core.specs.Numbers.{in_64_bits}
use Rattle.flushed_cells.specs.declared.counter_calls.CounterCall.{CounterCall}
use Rattle.flushed_cells.specs.declared.counter_state.CounterState.{CounterState}
use Rattle.flushed_cells.specs.declared.counter_state.CounterMode.TheVariants.{Absolute}
use Rattle.flushed_cells.specs.declared.gauge_calls.GaugeCall.{GaugeCall}
use Rattle.flushed_cells.specs.declared.gauge_state.GaugeState.{GaugeState}
use Rattle.flushed_cells.specs.Counters.{CounterAfter}
use Rattle.flushed_cells.specs.Gauges.{GaugeAfter}
use Rattle.flushed_cells.specs.Totals.{counter_updates, counter_answered, increments, deltas, OnlyIncrements, gauge_updates, gauge_answered}

-- the calls determine what a counter holds, and what a gauge holds
abbrev pub OneCounter : Type 0
OneCounter = (cs : List CounterCall) (s t : CounterState) → CounterAfter cs s → CounterAfter cs t → s ≡ t

abbrev pub OneGauge : Type 0
OneGauge = (cs : List GaugeCall) (s t : GaugeState) → GaugeAfter cs s → GaugeAfter cs t → s ≡ t

-- after an absolute value, what is pending is at most the total
abbrev pub PendingInTotal : Type 0
PendingInTotal = (cs : List CounterCall) (s : CounterState) → CounterAfter cs s → s.mode ≡ Absolute → s.delta ≤ s.total

-- each update of a counter is in the answer of one flush, or pending; sums are modulo 2 ^ 64
abbrev pub CounterUpdatesOnce : Type 0
CounterUpdatesOnce = (cs : List CounterCall) (s : CounterState) → CounterAfter cs s → in_64_bits (counter_answered cs + s.updates) ≡ in_64_bits (counter_updates cs)

-- where no call is absolute, so is each increment
abbrev pub IncrementsOnce : Type 0
IncrementsOnce = (cs : List CounterCall) (s : CounterState) → OnlyIncrements cs → CounterAfter cs s → in_64_bits (deltas cs + s.delta) ≡ in_64_bits (increments cs)

-- and each update of a gauge
abbrev pub GaugeUpdatesOnce : Type 0
GaugeUpdatesOnce = (cs : List GaugeCall) (s : GaugeState) → GaugeAfter cs s → in_64_bits (gauge_answered cs + s.updates) ≡ in_64_bits (gauge_updates cs)
