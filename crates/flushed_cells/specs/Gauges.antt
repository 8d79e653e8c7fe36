-- The gauge of one thread that is flushed (this project's rule).
use Rattle.std.specs.Prelude.{◌≡◌, ℕ, ◌+◌, ◌^◌, nat_eq, nat_lt, Bool, if◌then◌else◌, ℤ, pos, negsuc, List, [], ◌∷◌}
use Rattle.std.specs.Int.{w64, cast_unsigned}
use Rattle.metrics_core.specs.declared.numbers.Fixed.{Fixed as FixedOf}
use Rattle.metrics_core.specs.Numbers.{in_64_bits}
use Rattle.metrics_core.specs.Fixed.{of_billionths, updated}
use Rattle.legal_history.specs.declared.history.View.{View}
use Rattle.legal_history.specs.History.{calls}
use Rattle.legal_history.specs.Object.{Runs, Made}
use Rattle.flushed_cells.specs.declared.gauge_state.GaugeState.{GaugeState}
use Rattle.flushed_cells.specs.declared.gauge_calls.GaugeCall.{GaugeCall}
use Rattle.flushed_cells.specs.declared.gauge_calls.GaugeCall.TheVariants.{Update, Flush}
use Rattle.flushed_cells.specs.declared.gauge_calls.GaugeChange.{GaugeChange}
use Rattle.flushed_cells.specs.declared.gauge_calls.GaugeChange.TheVariants as change

abbrev pub gauge_of : FixedOf → ℕ → GaugeState
gauge_of value updates = record { value = value; updates = updates }

abbrev pub gauge_start : GaugeState
gauge_start = gauge_of (of_billionths (pos 0)) 0

-- nothing waits: a flush would leave the gauge as it is
abbrev pub is_still : GaugeState → Bool
is_still s = nat_eq s.updates 0

-- one call, with its answer, takes the gauge from one state to the next. An update sets the value, adds to it or takes off it, modulo 2 ^ 64 billionths, and is counted, modulo 2 ^ 64. A flush keeps the value
abbrev pub GaugeStep : GaugeCall → GaugeState → GaugeState → Type 0
GaugeStep (Update update) before after = after ≡ gauge_of (updated update before.value) (in_64_bits (before.updates + 1))
GaugeStep (Flush value updates) before after = (value ≡ before.value) × (updates ≡ before.updates) × (after ≡ gauge_of before.value 0)

-- what is asked, as the call of it at a state, and the state after it
abbrev pub answered : GaugeChange → GaugeState → GaugeCall
answered (change.Update update) s = Update update
answered change.Flush s = Flush s.value s.updates

abbrev pub changed : GaugeChange → GaugeState → GaugeState
changed (change.Update update) s = gauge_of (updated update s.value) (in_64_bits (s.updates + 1))
changed change.Flush s = gauge_of s.value 0

-- after these calls a gauge holds this
abbrev pub GaugeAfter : List GaugeCall → GaugeState → Type 0
GaugeAfter = Runs GaugeStep gauge_start

-- the same of the calls that a pass has seen
abbrev pub Holds : View GaugeCall → GaugeState → Type 0
Holds v s = GaugeAfter (calls v.seen) s

-- the call was made, behind a history that begins with all that the pass had seen, and its answer is right there
abbrev pub Called : GaugeCall → View GaugeCall → View GaugeCall → Type 0
Called = Made GaugeStep gauge_start

-- the same of what was asked, at a state
abbrev pub Turned : GaugeChange → GaugeState → View GaugeCall → View GaugeCall → Type 0
Turned change s = Called (answered change s)

-- a flush with this answer
abbrev pub gauge_flush : FixedOf × ℕ → GaugeCall
gauge_flush answer = Flush answer.0 answer.1

-- n stands for the values n and -1 - n, in as many bits
abbrev pub size_of : ℤ → ℕ
size_of (pos n) = n
size_of (negsuc n) = n

-- a gauge as two words, the value in two's complement; a value past 64 bits has none
abbrev pub words_of_gauge : GaugeState → List ℕ
words_of_gauge s = if nat_lt (size_of s.value.0) (2 ^ 63) then cast_unsigned w64 s.value.0 ∷ s.updates ∷ [] else []
