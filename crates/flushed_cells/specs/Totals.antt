-- What the calls of a history add up to.
use Rattle.std.specs.Prelude.{ℕ, ◌+◌, List, [], ◌∷◌}
use Rattle.flushed_cells.specs.declared.counter_calls.CounterCall.{CounterCall}
use Rattle.flushed_cells.specs.declared.counter_calls.CounterCall.TheVariants.{Increment, Absolute, Flush}
use Rattle.flushed_cells.specs.declared.gauge_calls.GaugeCall.{GaugeCall}
use Rattle.flushed_cells.specs.declared.gauge_calls.GaugeCall.TheVariants as gauge

-- how many updates a counter had, and how many its flushes answered in all
abbrev pub counter_updates : List CounterCall → ℕ
counter_updates [] = 0
counter_updates (Increment n ∷ cs) = 1 + counter_updates cs
counter_updates (Absolute n ∷ cs) = 1 + counter_updates cs
counter_updates (Flush delta updates ∷ cs) = counter_updates cs

abbrev pub counter_answered : List CounterCall → ℕ
counter_answered [] = 0
counter_answered (Increment n ∷ cs) = counter_answered cs
counter_answered (Absolute n ∷ cs) = counter_answered cs
counter_answered (Flush delta updates ∷ cs) = updates + counter_answered cs

-- the sum of the increments, and that of the deltas that flushes answered
abbrev pub increments : List CounterCall → ℕ
increments [] = 0
increments (Increment n ∷ cs) = n + increments cs
increments (Absolute n ∷ cs) = increments cs
increments (Flush delta updates ∷ cs) = increments cs

abbrev pub deltas : List CounterCall → ℕ
deltas [] = 0
deltas (Increment n ∷ cs) = deltas cs
deltas (Absolute n ∷ cs) = deltas cs
deltas (Flush delta updates ∷ cs) = delta + deltas cs

-- no call is absolute
abbrev pub OnlyIncrements : List CounterCall → Type 0
OnlyIncrements [] = Unit {0}
OnlyIncrements (Increment n ∷ cs) = OnlyIncrements cs
OnlyIncrements (Absolute n ∷ cs) = ⊥
OnlyIncrements (Flush delta updates ∷ cs) = OnlyIncrements cs

-- the same of a gauge
abbrev pub gauge_updates : List GaugeCall → ℕ
gauge_updates [] = 0
gauge_updates (gauge.Update update ∷ cs) = 1 + gauge_updates cs
gauge_updates (gauge.Flush value updates ∷ cs) = gauge_updates cs

abbrev pub gauge_answered : List GaugeCall → ℕ
gauge_answered [] = 0
gauge_answered (gauge.Update update ∷ cs) = gauge_answered cs
gauge_answered (gauge.Flush value updates ∷ cs) = updates + gauge_answered cs
