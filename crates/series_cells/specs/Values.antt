-- The one-thread objects of a counter and of a gauge: their value after a list of calls.
use Rattle.std.specs.Prelude.{ℕ, List, map, ℤ}
use Rattle.std.specs.Int.{w64, cast_signed}
use Rattle.metrics_core.specs.declared.numbers.Fixed.{Fixed}
use Rattle.metrics_core.specs.Calls as calls
use Rattle.metrics_core.specs.Calls.{Call, counter_value, gauge_value}
use Rattle.metrics_core.specs.declared.calls.SeriesCall.{SeriesCall}
use Rattle.metrics_core.specs.Series.{call_of}

-- the calls of the definitions that values of the program stand for
abbrev pub calls_of : List SeriesCall → List Call
calls_of = map call_of

-- a counter's value after one more call, and a gauge's
abbrev pub counter_step : ℕ → SeriesCall → ℕ
counter_step n c = calls.counter_step n (call_of c)

abbrev pub gauge_step : ℤ → SeriesCall → ℤ
gauge_step v c = calls.gauge_step v (call_of c)

-- the value that a counter's word stands for, and a gauge's
abbrev pub itself : ℕ → ℕ
itself n = n

abbrev pub signed : ℕ → ℤ
signed n = cast_signed w64 n

abbrev pub billionths : ℕ → Fixed
billionths n = record { 0 = signed n }
