-- The calls that change a series, and the value that a list of calls leaves.
use Rattle.std.specs.Prelude.{ℕ, ◌+◌, max, List, [], ℤ, pos, fold, flat_map, replicate, length}
use Rattle.metrics_core.specs.declared.kinds.MetricKind.{MetricKind}
use Rattle.metrics_core.specs.declared.kinds.MetricKind.TheVariants.{Histogram}
use Rattle.metrics_core.specs.Numbers.{in_64_bits, add_64, sub_64}

-- one call: on a counter; on a gauge (values in billionths); on a histogram (a value, its moment in nanoseconds, how often)
pub data Call : Type 0 where
  Increment : ℕ → Call
  Absolute : ℕ → Call
  Add : ℤ → Call
  Subtract : ℤ → Call
  Set : ℤ → Call
  Record : ℤ → ℕ → ℕ → Call

-- a counter's value after one more call: `increment` adds modulo 2 ^ 64, `absolute` takes the greater
abbrev pub counter_step : ℕ → Call → ℕ
counter_step total (Increment n) = in_64_bits (total + n)
counter_step total (Absolute n) = max total n
counter_step total _ = total

abbrev pub counter_value : List Call → ℕ
counter_value calls = fold counter_step 0 calls

-- a gauge's value after one more call: sums wrap in 64 bits
abbrev pub gauge_step : ℤ → Call → ℤ
gauge_step value (Add v) = add_64 value v
gauge_step value (Subtract v) = sub_64 value v
gauge_step value (Set v) = v
gauge_step value _ = value

abbrev pub gauge_value : List Call → ℤ
gauge_value calls = fold gauge_step (pos 0) calls

-- the samples of one call, and of a histogram's calls in order
abbrev pub samples_of_call : Call → List ℤ
samples_of_call (Record v moment n) = replicate n v
samples_of_call _ = []

abbrev pub samples : List Call → List ℤ
samples calls = flat_map samples_of_call calls

-- the number of a series' updates: its calls, or for a histogram its samples
abbrev pub update_count : MetricKind → List Call → ℕ
update_count Histogram calls = length (samples calls)
update_count _ calls = length calls
