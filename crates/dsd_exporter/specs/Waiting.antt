-- Cells in which nothing waits for a flush.
use Rattle.std.specs.Prelude.{◌≡◌}
use Rattle.legal_history.specs.declared.history.View.{View}
use Rattle.metrics_core.specs.declared.numbers.Fixed.{Fixed as FixedOf}
use Rattle.flushed_cells.specs.declared.counter_state.CounterState.{CounterState}
use Rattle.flushed_cells.specs.declared.counter_calls.CounterCall.{CounterCall}
use Rattle.flushed_cells.specs.declared.gauge_state.GaugeState.{GaugeState}
use Rattle.flushed_cells.specs.declared.gauge_calls.GaugeCall.{GaugeCall}
use Rattle.flushed_cells.specs.Counters as counters
use Rattle.flushed_cells.specs.Gauges as gauges

-- after all calls that a pass has seen the counter was so, with no delta and no updates
pub record CounterRests (v : View CounterCall) (x : CounterState) : Type 0 where
  pub holds : counters.Holds v x
  pub delta : x.delta ≡ 0
  pub updates : x.updates ≡ 0

abbrev pub NothingWaits : View CounterCall → Type 0
NothingWaits v = (x : CounterState) × CounterRests v x

-- after all calls that a pass has seen the gauge was so, with no updates
pub record GaugeRests (v : View GaugeCall) (x : GaugeState) : Type 0 where
  pub holds : gauges.Holds v x
  pub updates : x.updates ≡ 0

-- it had this value
abbrev pub GaugeStays : View GaugeCall → FixedOf → Type 0
GaugeStays v value = (x : GaugeState) × (x.value ≡ value) × GaugeRests v x
