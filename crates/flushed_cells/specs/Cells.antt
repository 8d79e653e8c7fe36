-- Which passes are those of a cell.
use Rattle.std.specs.Prelude.{◌≡◌}
use base.Stored.{Coded-set}
use Rattle.atomic_table.specs.Seated.{table_id_coded}
use Rattle.flushed_cells.specs.declared.counter.DsdCounter.{DsdCounter}
use Rattle.flushed_cells.specs.declared.counter_state.CounterState.{CounterState}
use Rattle.flushed_cells.specs.declared.counter_calls.CounterCall.{CounterCall}
use Rattle.flushed_cells.specs.declared.gauge.DsdGauge.{DsdGauge}
use Rattle.flushed_cells.specs.declared.gauge_state.GaugeState.{GaugeState}
use Rattle.flushed_cells.specs.declared.gauge_calls.GaugeCall.{GaugeCall}
use Rattle.flushed_cells.specs.declared.pass.DsdPass.{DsdPass}
use Rattle.flushed_cells.specs.Passes.{cell_of}

abbrev pub IsCounterPass : DsdCounter → DsdPass CounterState CounterCall → Type 0
IsCounterPass counter pass = cell_of pass ≡ counter.cell.table.shared.table_id

abbrev pub IsGaugePass : DsdGauge → DsdPass GaugeState GaugeCall → Type 0
IsGaugePass gauge pass = cell_of pass ≡ gauge.cell.table.shared.table_id

-- there is at most one proof of that
abbrev pub one_counter_pass : (counter : DsdCounter) (pass : DsdPass CounterState CounterCall) → IsProp (IsCounterPass counter pass)
one_counter_pass counter pass = Coded-set table_id_coded (cell_of pass) counter.cell.table.shared.table_id

abbrev pub one_gauge_pass : (gauge : DsdGauge) (pass : DsdPass GaugeState GaugeCall) → IsProp (IsGaugePass gauge pass)
one_gauge_pass gauge pass = Coded-set table_id_coded (cell_of pass) gauge.cell.table.shared.table_id
