-- What one call does to the sequential state of a series (this project's rule).
use Rattle.std.specs.Prelude.{⊤, zero, suc, Bool, true, false, List, [], ◌∷◌, ◌++◌, replicate}
use Rattle.metrics_core.specs.declared.calls.SeriesCall.{SeriesCall}
use Rattle.metrics_core.specs.declared.calls.SeriesCall.TheVariants as calls
use Rattle.metrics_core.specs.declared.gauge_values.GaugeValue.TheVariants as update
use Rattle.metrics_core.specs.declared.numbers.Fixed.{Fixed as FixedOf}
use Rattle.flushed_cells.specs.declared.counter_state.CounterState.{CounterState}
use Rattle.flushed_cells.specs.declared.gauge_calls.GaugeChange.TheVariants.{Update}
use Rattle.flushed_cells.specs.declared.gauge_state.GaugeState.{GaugeState}
use Rattle.flushed_cells.specs.Counters as counters
use Rattle.flushed_cells.specs.Gauges as gauges

-- whether a call is one on a counter, on a gauge, and on a histogram
abbrev pub IsCounterCall : SeriesCall → Type 0
IsCounterCall (calls.Increment _) = ⊤
IsCounterCall (calls.Absolute _) = ⊤
IsCounterCall (calls.Add _) = ⊥
IsCounterCall (calls.Subtract _) = ⊥
IsCounterCall (calls.Set _) = ⊥
IsCounterCall (calls.Record _ _ _) = ⊥

abbrev pub IsGaugeCall : SeriesCall → Type 0
IsGaugeCall (calls.Increment _) = ⊥
IsGaugeCall (calls.Absolute _) = ⊥
IsGaugeCall (calls.Add _) = ⊤
IsGaugeCall (calls.Subtract _) = ⊤
IsGaugeCall (calls.Set _) = ⊤
IsGaugeCall (calls.Record _ _ _) = ⊥

abbrev pub IsRecord : SeriesCall → Type 0
IsRecord (calls.Increment _) = ⊥
IsRecord (calls.Absolute _) = ⊥
IsRecord (calls.Add _) = ⊥
IsRecord (calls.Subtract _) = ⊥
IsRecord (calls.Set _) = ⊥
IsRecord (calls.Record _ _ _) = ⊤

-- a counter is incremented or counts to a value; other calls are none on a counter
abbrev pub counter_step : SeriesCall → CounterState → CounterState
counter_step (calls.Increment n) s = counters.incremented n s
counter_step (calls.Absolute n) s = counters.absolute n s
counter_step (calls.Add _) s = s
counter_step (calls.Subtract _) s = s
counter_step (calls.Set _) s = s
counter_step (calls.Record _ _ _) s = s

-- a gauge is added to, taken off or set, and the update is counted
abbrev pub gauge_step : SeriesCall → GaugeState → GaugeState
gauge_step (calls.Increment _) s = s
gauge_step (calls.Absolute _) s = s
gauge_step (calls.Add value) s = gauges.changed (Update (update.Increment value)) s
gauge_step (calls.Subtract value) s = gauges.changed (Update (update.Decrement value)) s
gauge_step (calls.Set value) s = gauges.changed (Update (update.Absolute value)) s
gauge_step (calls.Record _ _ _) s = s

-- the samples of a histogram are those before and the value, as often as the record says
abbrev pub samples_step : SeriesCall → List FixedOf → List FixedOf
samples_step (calls.Increment _) samples = samples
samples_step (calls.Absolute _) samples = samples
samples_step (calls.Add _) samples = samples
samples_step (calls.Subtract _) samples = samples
samples_step (calls.Set _) samples = samples
samples_step (calls.Record value moment count) samples = samples ++ replicate count value

-- calls, one after the other
abbrev pub after_calls : {S : Type 0} → (SeriesCall → S → S) → List SeriesCall → S → S
after_calls step [] s = s
after_calls step (call ∷ more) s = after_calls step more (step call s)

-- whether a call records a sample or more
abbrev pub records_some : SeriesCall → Bool
records_some (calls.Record value moment zero) = false
records_some (calls.Record value moment (suc more)) = true
records_some (calls.Increment _) = false
records_some (calls.Absolute _) = false
records_some (calls.Add _) = false
records_some (calls.Subtract _) = false
records_some (calls.Set _) = false
