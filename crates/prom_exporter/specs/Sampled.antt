-- A histogram as the exporter keeps it: its queue with all that was drained of it, and what the last page noted of it.
use Rattle.std.specs.Prelude.{ℕ, List, length, Option, None}
use Rattle.metrics_core.specs.Numbers.{in_64_bits}
use Rattle.metrics_core.specs.Calls.{Call}
use Rattle.rolling_summaries.specs.Standing.{NeverFall, NoneAfter}
use Rattle.distributions.specs.Kinds.{DistributionKind}
use Rattle.histogram_series.specs.Entries.{TimedQueue, records_of}
use Rattle.histogram_series.specs.Series.{SampleSeries, entries, recorded, recorded_samples, all_samples}
use Rattle.histogram_series.specs.Series as series

pub record Sampled : Type 0 where
  pub series : SampleSeries
  pub note : Option (ℕ × ℕ)  -- count of updates, moment

-- no pass of the queue is out
abbrev pub IsAtRest : Sampled → Type 0
IsAtRest s = series.IsHome s.series

-- a histogram that nobody has called, with no pass out and no note
abbrev pub unsampled : DistributionKind → TimedQueue → Sampled
unsampled kind queue = record { series = series.unused kind queue; note = None }

-- one more pass of the queue is out
abbrev pub with_pass_out : Sampled → Sampled
with_pass_out s = record s { series = series.with_one_out s.series }

-- all calls that the exporter knows of, wherever their samples are; and those whose samples are recorded
abbrev pub calls_known : Sampled → List Call
calls_known s = records_of (entries s.series)

abbrev pub calls_recorded : Sampled → List Call
calls_recorded s = records_of (recorded s.series)

-- how many updates a page finds: the samples that are recorded, modulo 2^64
abbrev pub updates_of : Sampled → ℕ
updates_of s = in_64_bits (length (recorded_samples s.series))

-- the moments of the samples never fall, and none is after this moment
abbrev pub IsTimely : ℕ → Sampled → Type 0
IsTimely moment s = NeverFall (all_samples s.series) × NoneAfter moment (all_samples s.series)
