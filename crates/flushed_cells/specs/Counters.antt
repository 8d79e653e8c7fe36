-- The counter of one thread that is flushed (this project's rule).
use Rattle.std.specs.Prelude.{◌≡◌, ℕ, ◌+◌, ◌-◌, ◌&&◌, max, nat_eq, Bool, List, [], ◌∷◌}
use Rattle.metrics_core.specs.Numbers.{in_64_bits}
use Rattle.legal_history.specs.declared.history.View.{View}
use Rattle.legal_history.specs.History.{calls}
use Rattle.legal_history.specs.Object.{Runs, Made}
use Rattle.flushed_cells.specs.declared.counter_state.CounterMode.{CounterMode}
use Rattle.flushed_cells.specs.declared.counter_state.CounterMode.TheVariants as mode
use Rattle.flushed_cells.specs.declared.counter_state.CounterState.{CounterState}
use Rattle.flushed_cells.specs.declared.counter_calls.CounterCall.{CounterCall}
use Rattle.flushed_cells.specs.declared.counter_calls.CounterCall.TheVariants.{Increment, Absolute, Flush}
use Rattle.flushed_cells.specs.declared.counter_calls.CounterChange.{CounterChange}
use Rattle.flushed_cells.specs.declared.counter_calls.CounterChange.TheVariants as change

abbrev pub counter_of : CounterMode → ℕ → ℕ → ℕ → CounterState
counter_of m total delta updates = record { mode = m; total = total; delta = delta; updates = updates }

-- a new counter: nothing was added
abbrev pub counter_start : CounterState
counter_start = counter_of mode.Incremented 0 0 0

-- an increment adds to the total and to the delta; sums are modulo 2 ^ 64
abbrev pub incremented : ℕ → CounterState → CounterState
incremented n s = counter_of mode.Incremented (in_64_bits (s.total + n)) (in_64_bits (s.delta + n)) (in_64_bits (s.updates + 1))

-- an absolute value after an increment begins a new count: it becomes the total, and nothing is pending. After an absolute value it raises the total where it is greater, and the delta by as much
abbrev pub absolute_in : CounterMode → ℕ → CounterState → CounterState
absolute_in mode.Incremented n s = counter_of mode.Absolute n 0 (in_64_bits (s.updates + 1))
absolute_in mode.Absolute n s = counter_of mode.Absolute (max s.total n) (in_64_bits (s.delta + (max s.total n - s.total))) (in_64_bits (s.updates + 1))

abbrev pub absolute : ℕ → CounterState → CounterState
absolute n s = absolute_in s.mode n s

-- a flush leaves no delta and no updates
abbrev pub flushed : CounterState → CounterState
flushed s = counter_of s.mode s.total 0 0

-- nothing waits: a flush would leave the counter as it is
abbrev pub is_still : CounterState → Bool
is_still s = nat_eq s.delta 0 && nat_eq s.updates 0

-- one call, with its answer, takes the counter from one state to the next
abbrev pub CounterStep : CounterCall → CounterState → CounterState → Type 0
CounterStep (Increment n) before after = after ≡ incremented n before
CounterStep (Absolute n) before after = after ≡ absolute n before
CounterStep (Flush delta updates) before after = (delta ≡ before.delta) × (updates ≡ before.updates) × (after ≡ flushed before)

-- what is asked, as the call of it at a state, and the state after it
abbrev pub answered : CounterChange → CounterState → CounterCall
answered (change.Increment n) s = Increment n
answered (change.Absolute n) s = Absolute n
answered change.Flush s = Flush s.delta s.updates

abbrev pub changed : CounterChange → CounterState → CounterState
changed (change.Increment n) s = incremented n s
changed (change.Absolute n) s = absolute n s
changed change.Flush s = flushed s

-- after these calls a counter holds this
abbrev pub CounterAfter : List CounterCall → CounterState → Type 0
CounterAfter = Runs CounterStep counter_start

-- the same of the calls that a pass has seen
abbrev pub Holds : View CounterCall → CounterState → Type 0
Holds v s = CounterAfter (calls v.seen) s

-- the call was made, behind a history that begins with all that the pass had seen, and its answer is right there
abbrev pub Called : CounterCall → View CounterCall → View CounterCall → Type 0
Called = Made CounterStep counter_start

-- the same of what was asked, at a state
abbrev pub Turned : CounterChange → CounterState → View CounterCall → View CounterCall → Type 0
Turned change s = Called (answered change s)

-- a flush with this answer
abbrev pub counter_flush : ℕ × ℕ → CounterCall
counter_flush answer = Flush answer.0 answer.1

-- a counter as four words
abbrev pub code_of_mode : CounterMode → ℕ
code_of_mode mode.Incremented = 0
code_of_mode mode.Absolute = 1

abbrev pub words_of_counter : CounterState → List ℕ
words_of_counter s = code_of_mode s.mode ∷ s.total ∷ s.delta ∷ s.updates ∷ []
