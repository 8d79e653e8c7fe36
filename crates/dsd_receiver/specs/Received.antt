-- What lines that are received do to the state of the Prometheus exporter (this project's rule).
use Rattle.std.specs.Prelude.{◌≡◌, ℕ, ◌*◌, ◌/◌, Option, None, Some, unwrap_or, List, ℤ, map, fold, filter, length, is_some, is_none}
use Rattle.std.specs.List.{AllZip}
use Rattle.metrics_core.specs.declared.kinds.MetricKind.{MetricKind}
use Rattle.metrics_core.specs.declared.kinds.MetricKind.TheVariants as kinds
use Rattle.metrics_core.specs.Keys.{KeyText}
use Rattle.metrics_core.specs.Calls.{Call, Increment, Add, Set, Record}
use Rattle.metrics_core.specs.Numbers.{one, in_64_bits}
use Rattle.dsd_lines.specs.declared.dialects.Dialect.{Dialect}
use Rattle.dsd_lines.specs.Grammar.{PointsText, Counter, Gauge, Steps, Histogram, Distribution, Timer, StepText, SetTo, MoveBy, LineText, IsLineIn}
use Rattle.dsd_lines.specs.Texts.{IsNoLineIn}
use Rattle.prom_exporter.specs.State.{PrometheusState, register, number_given, call_on}

-- ---- what a line asks for

-- a distribution and a timer are histograms
abbrev pub kind_said : PointsText → MetricKind
kind_said (Counter counts) = kinds.Counter
kind_said (Gauge numbers) = kinds.Gauge
kind_said (Histogram numbers) = kinds.Histogram
kind_said (Steps steps) = kinds.Gauge
kind_said (Distribution numbers) = kinds.Histogram
kind_said (Timer numbers) = kinds.Histogram

-- the sample rate in billionths; a line without one has rate 1
abbrev pub rate_said : Option ℕ → ℕ
rate_said rate = unwrap_or rate one

-- how much an increment stands for at a rate, and how many samples a value stands for: rounded down, and the former in 64 bits
abbrev pub scaled : ℕ → ℕ → ℕ
scaled rate n = in_64_bits (n * one / rate)

abbrev pub times_at : ℕ → ℕ
times_at rate = one / rate

-- each value is one call: an increment, a set, a step, or a record of so many samples
abbrev pub increments : ℕ → List ℕ → List Call
increments rate counts = map (λ n. Increment (scaled rate n)) counts

abbrev pub sets : List ℤ → List Call
sets values = map (λ value. Set value) values

abbrev pub call_of_step : StepText → Call
call_of_step (SetTo value) = Set value
call_of_step (MoveBy value) = Add value

abbrev pub steps : List StepText → List Call
steps values = map call_of_step values

abbrev pub records : ℕ → ℕ → List ℤ → List Call
records moment times values = map (λ value. Record value moment times) values

abbrev pub calls_of_points : ℕ → ℕ → PointsText → List Call
calls_of_points moment rate (Counter counts) = increments rate counts
calls_of_points moment rate (Gauge values) = sets values
calls_of_points moment rate (Histogram values) = records moment (times_at rate) values
calls_of_points moment rate (Steps values) = steps values
calls_of_points moment rate (Distribution values) = records moment (times_at rate) values
calls_of_points moment rate (Timer values) = records moment (times_at rate) values

abbrev pub calls_said : ℕ → LineText → List Call
calls_said moment said = calls_of_points moment (rate_said said.rate) said.points

-- ---- what that does to a state

-- calls on a series, one after another
abbrev pub after_calls : MetricKind → ℕ → List Call → PrometheusState → PrometheusState
after_calls kind number calls s = fold (λ t call. call_on kind number call t) s calls

-- a key is registered, and then these calls are made on its series
abbrev pub with_calls : MetricKind → KeyText → List Call → PrometheusState → PrometheusState
with_calls kind key calls s = after_calls kind (number_given kind key s) calls (register kind key s)

-- a line registers its name and tags, and makes its calls; its timestamp changes nothing
abbrev pub after_line : ℕ → PrometheusState → LineText → PrometheusState
after_line moment s said = with_calls (kind_said said.points) said.key (calls_said moment said) s

-- ---- lines

-- what each line says in a dialect; a bad one says nothing
abbrev pub IsRead : Dialect → List ℕ → Option LineText → Type 0
IsRead dialect line None = IsNoLineIn dialect line
IsRead dialect line (Some said) = IsLineIn dialect line said

abbrev pub AreRead : Dialect → List (List ℕ) → List (Option LineText) → Type 0
AreRead dialect lines readings = AllZip (IsRead dialect) lines readings

-- a bad line changes nothing
abbrev pub after_reading : ℕ → PrometheusState → Option LineText → PrometheusState
after_reading moment s None = s
after_reading moment s (Some said) = after_line moment s said

abbrev pub after_readings : ℕ → List (Option LineText) → PrometheusState → PrometheusState
after_readings moment readings s = fold (after_reading moment) s readings

-- a state after these lines, received at a moment, in order
abbrev pub Receives : Dialect → ℕ → List (List ℕ) → PrometheusState → PrometheusState → Type 0
Receives dialect moment lines s t = (readings : List (Option LineText)) × AreRead dialect lines readings × (t ≡ after_readings moment readings s)

-- how many of some lines are in the grammar, and how many are bad
abbrev pub count_lines : List (Option LineText) → ℕ
count_lines readings = length (filter is_some readings)

abbrev pub count_bad : List (Option LineText) → ℕ
count_bad readings = length (filter is_none readings)
