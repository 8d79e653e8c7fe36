-- What a round of lanes leaves, and what a flush answers after it.
use Rattle.std.specs.Prelude.{◌≡◌, ℕ, List, ◌++◌}
use Rattle.std.specs.Global.{Vec}
use mathlib.Core.Option.{some}
use lib.ListN.{get_elem?}
use Rattle.metrics_core.specs.declared.numbers.Fixed.{Fixed as FixedOf}
use Rattle.legal_history.specs.declared.history.View.{View}
use Rattle.legal_history.specs.History.{calls}
use Rattle.legal_history.specs.Object.{Runs}
use Rattle.legal_history.specs.Order.{taken, IsOrder}
use Rattle.cell_lanes.specs.Lines.{LaneText}
use Rattle.cell_lanes.specs.Calls.{StandAs}
use Rattle.cell_lanes.specs.Things.{Thing, root_of}
use Rattle.cell_lanes.specs.Lanes.{Finished, Stopped, all_calls_on, later_on}
use Rattle.flushed_cells.specs.declared.counter.DsdCounter.{DsdCounter}
use Rattle.flushed_cells.specs.declared.counter_calls.CounterCall.{CounterCall}
use Rattle.flushed_cells.specs.declared.counter_calls.CounterChange.{CounterChange}
use Rattle.flushed_cells.specs.declared.gauge.DsdGauge.{DsdGauge}
use Rattle.flushed_cells.specs.declared.gauge_calls.GaugeCall.{GaugeCall}
use Rattle.flushed_cells.specs.declared.gauge_calls.GaugeChange.{GaugeChange}
use Rattle.flushed_cells.specs.Counters as counters
use Rattle.flushed_cells.specs.Counters.{CounterStep, counter_start, counter_flush}
use Rattle.flushed_cells.specs.Gauges as gauges
use Rattle.flushed_cells.specs.Gauges.{GaugeStep, gauge_start, gauge_flush}
use Rattle.flushed_cells.specs.Series.{StandsAs, only}

-- a kind of cell: what a call does, a new one, what is asked as the call of it at a state, and a flush with its answer
module _ {S K A C : Type 0} (Step : C → S → S → Type 0) (start : S) (answered : K → S → C) (flushed : A → C) where
  -- what each lane asked for stands as its calls, these stand behind the earlier ones in one order of lanes, and the flush answers what is left after all of them
  abbrev pub FlushedAfter : (ℕ → List K) → View C → A → Type 0
  FlushedAfter asked v answer =
      (lists : ℕ → List C) × ((l : ℕ) → StandAs (StandsAs answered) (asked l) (lists l)) × (order : List ℕ) × IsOrder order lists
      × (s t : S) × Runs Step start (calls v.seen ++ taken order lists) s × Step (flushed answer) s t

  -- the same of the cell with this index
  abbrev pub FlushedAt : {D : Type 0} → List (LaneText K) → ℕ → Vec (Thing C D) → A → Type 0
  FlushedAt {D} lanes index before answer = (c : Thing C D) → get_elem? before.items index ≡ some c → FlushedAfter (all_calls_on index lanes) c.root answer

-- each history grew by what all lanes asked for on it, and that of the cell with this index by a flush with this answer behind them
abbrev pub FlushedBehind : {S K A C D : Type 0} → (K → S → C) → (A → C) → List (LaneText K) → ℕ → Vec (Thing C D) → Vec (Thing C D) → A → Type 0
FlushedBehind answered flushed lanes index before after answer = Finished root_of (StandsAs answered) lanes (later_on index (only flushed answer)) before.items after.items

-- counters as a state keeps them, and gauges
abbrev pub Counters : Type 0
Counters = Vec (Thing CounterCall DsdCounter)

abbrev pub Gauges : Type 0
Gauges = Vec (Thing GaugeCall DsdGauge)

-- the words above, of counters
abbrev pub CountersFlushed : List (LaneText CounterChange) → ℕ → Counters → Counters → ℕ × ℕ → Type 0
CountersFlushed = FlushedBehind counters.answered counter_flush

abbrev pub CountersStopped : List (LaneText CounterChange) → Counters → Counters → Type 0
CountersStopped lanes before after = Stopped root_of (StandsAs counters.answered) lanes before.items after.items

abbrev pub CounterFlushed : List (LaneText CounterChange) → ℕ → Counters → ℕ × ℕ → Type 0
CounterFlushed = FlushedAt CounterStep counter_start counters.answered counter_flush

-- and of gauges
abbrev pub GaugesFlushed : List (LaneText GaugeChange) → ℕ → Gauges → Gauges → FixedOf × ℕ → Type 0
GaugesFlushed = FlushedBehind gauges.answered gauge_flush

abbrev pub GaugesStopped : List (LaneText GaugeChange) → Gauges → Gauges → Type 0
GaugesStopped lanes before after = Stopped root_of (StandsAs gauges.answered) lanes before.items after.items

abbrev pub GaugeFlushed : List (LaneText GaugeChange) → ℕ → Gauges → FixedOf × ℕ → Type 0
GaugeFlushed = FlushedAt GaugeStep gauge_start gauges.answered gauge_flush
