-- Calls whose values, and counts of redirections that, have the bits of the program's numbers.
use Rattle.std.specs.Prelude.{List, ◌^◌, ◌<◌, ⊤, FitsSigned, All}
use Rattle.std.specs.Int.{w64}
use Rattle.metrics_core.specs.Calls.{Call, Absolute, Add, Subtract, Set, Record}
use Rattle.prom_exporter.specs.State.{Series, PrometheusState}

-- the value of a call has 64 bits
abbrev pub HasFixedValue : Call → Type 0
HasFixedValue (Absolute n) = n < 2 ^ 64
HasFixedValue (Add v) = FitsSigned w64 v
HasFixedValue (Subtract v) = FitsSigned w64 v
HasFixedValue (Set v) = FitsSigned w64 v
HasFixedValue (Record v moment n) = FitsSigned w64 v
HasFixedValue _ = ⊤

-- so of each call on a live series, and of each count of redirections
abbrev pub HaveFixedCalls : List Series → Type 0
HaveFixedCalls all = All (λ series. All HasFixedValue series.calls) all

abbrev pub IsFixed : PrometheusState → Type 0
IsFixed s =
    HaveFixedCalls s.counters × HaveFixedCalls s.gauges × HaveFixedCalls s.histograms
    × All (λ redirected. redirected.count < 2 ^ 64) s.redirected
