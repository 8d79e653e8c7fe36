-- What cells hold after their calls, as definitions that compute it.
use Rattle.std.specs.Prelude.{List, [], ◌∷◌, ◌++◌, flat_map, replicate}
use Rattle.metrics_core.specs.declared.numbers.Fixed.{Fixed as FixedOf}
use Rattle.flushed_cells.specs.declared.counter_state.CounterState.{CounterState}
use Rattle.flushed_cells.specs.declared.counter_calls.CounterCall.{CounterCall}
use Rattle.flushed_cells.specs.declared.counter_calls.CounterCall.TheVariants as counter
use Rattle.flushed_cells.specs.declared.counter_calls.CounterChange.{CounterChange}
use Rattle.flushed_cells.specs.declared.counter_calls.CounterChange.TheVariants as counter_change
use Rattle.flushed_cells.specs.declared.gauge_state.GaugeState.{GaugeState}
use Rattle.flushed_cells.specs.declared.gauge_calls.GaugeCall.{GaugeCall}
use Rattle.flushed_cells.specs.declared.gauge_calls.GaugeCall.TheVariants as gauge
use Rattle.flushed_cells.specs.declared.gauge_calls.GaugeChange.{GaugeChange}
use Rattle.flushed_cells.specs.declared.gauge_calls.GaugeChange.TheVariants as gauge_change
use Rattle.flushed_cells.specs.Counters as counters
use Rattle.flushed_cells.specs.Gauges as gauges
use Rattle.sample_queue.specs.declared.calls.SampleEntry.{SampleEntry}
use Rattle.sample_queue.specs.declared.calls.QueueCall.{QueueCall}
use Rattle.sample_queue.specs.declared.calls.QueueCall.TheVariants.{Push, Pop}

-- what was asked of a counter, and what it holds after its calls
abbrev pub counter_asked : CounterCall → CounterChange
counter_asked (counter.Increment n) = counter_change.Increment n
counter_asked (counter.Absolute n) = counter_change.Absolute n
counter_asked (counter.Flush delta updates) = counter_change.Flush

abbrev pub counter_behind : CounterState → List CounterCall → CounterState
counter_behind s [] = s
counter_behind s (call ∷ calls) = counter_behind (counters.changed (counter_asked call) s) calls

abbrev pub counter_after : List CounterCall → CounterState
counter_after calls = counter_behind counters.counter_start calls

-- the same of a gauge
abbrev pub gauge_asked : GaugeCall → GaugeChange
gauge_asked (gauge.Update update) = gauge_change.Update update
gauge_asked (gauge.Flush value updates) = gauge_change.Flush

abbrev pub gauge_behind : GaugeState → List GaugeCall → GaugeState
gauge_behind s [] = s
gauge_behind s (call ∷ calls) = gauge_behind (gauges.changed (gauge_asked call) s) calls

abbrev pub gauge_after : List GaugeCall → GaugeState
gauge_after calls = gauge_behind gauges.gauge_start calls

-- the entries that wait in a queue after its calls
abbrev pub but_first : {X : Type 0} → List X → List X
but_first [] = []
but_first (x ∷ xs) = xs

abbrev pub waiting_behind : {T : Type 0} → List (SampleEntry T) → List (QueueCall T) → List (SampleEntry T)
waiting_behind entries [] = entries
waiting_behind entries (Push entry ∷ calls) = waiting_behind (entries ++ entry ∷ []) calls
waiting_behind entries (Pop entry ∷ calls) = waiting_behind (but_first entries) calls

abbrev pub waiting_after : {T : Type 0} → List (QueueCall T) → List (SampleEntry T)
waiting_after calls = waiting_behind [] calls

-- the samples of entries, each as often as it was recorded
abbrev pub samples_in : List (SampleEntry FixedOf) → List FixedOf
samples_in entries = flat_map (λ entry. replicate entry.count entry.item) entries
