-- What flushes and sends add up to for the exporter's own counters (this project's rules). Each sum is modulo 2 ^ 64.
use Rattle.std.specs.Prelude.{ℕ, ◌+◌, ◌*◌, ◌/◌, ◌<◌, ◌⊎◌, List, length, ℤ, Option, Some, None, fold, unsigned_abs, nat_lt, if◌then◌else◌}
use Rattle.metrics_core.specs.declared.kinds.MetricKind.{MetricKind}
use Rattle.metrics_core.specs.declared.kinds.MetricKind.TheVariants as kinds
use Rattle.metrics_core.specs.Numbers.{one, in_64_bits}
use Rattle.dsd_writer.specs.Lines.{kept_values}
use Rattle.dsd_exporter.specs.State.{FlushItem, left_out_of}

-- contexts are series that were sent, points are updates that lines tell of; packets and bytes are payloads handed to the link; serializations fail where points are left out, and these points are counted too
pub record UpdateText : Type 0 where
  pub counter_contexts : ℕ
  pub gauge_contexts : ℕ
  pub histogram_contexts : ℕ
  pub counter_points : ℕ
  pub gauge_points : ℕ
  pub histogram_points : ℕ
  pub packets_sent : ℕ
  pub bytes_sent : ℕ
  pub packets_unsent : ℕ
  pub bytes_unsent : ℕ
  pub failed_serializations : ℕ
  pub points_left_out : ℕ

abbrev pub no_update : UpdateText
no_update = record {
  counter_contexts = 0;
  gauge_contexts = 0;
  histogram_contexts = 0;
  counter_points = 0;
  gauge_points = 0;
  histogram_points = 0;
  packets_sent = 0;
  bytes_sent = 0;
  packets_unsent = 0;
  bytes_unsent = 0;
  failed_serializations = 0;
  points_left_out = 0;
}

abbrev pub with_contexts : MetricKind → ℕ → UpdateText → UpdateText
with_contexts kinds.Counter n u = record u { counter_contexts = in_64_bits (u.counter_contexts + n) }
with_contexts kinds.Gauge n u = record u { gauge_contexts = in_64_bits (u.gauge_contexts + n) }
with_contexts kinds.Histogram n u = record u { histogram_contexts = in_64_bits (u.histogram_contexts + n) }

abbrev pub with_points : MetricKind → ℕ → UpdateText → UpdateText
with_points kinds.Counter n u = record u { counter_points = in_64_bits (u.counter_points + n) }
with_points kinds.Gauge n u = record u { gauge_points = in_64_bits (u.gauge_points + n) }
with_points kinds.Histogram n u = record u { histogram_points = in_64_bits (u.histogram_points + n) }

-- a payload of so many bytes was sent, or wasn't; a serialization failed
abbrev pub with_sent : ℕ → UpdateText → UpdateText
with_sent bytes u = record u { packets_sent = in_64_bits (u.packets_sent + 1); bytes_sent = in_64_bits (u.bytes_sent + bytes) }

abbrev pub with_unsent : ℕ → UpdateText → UpdateText
with_unsent bytes u = record u { packets_unsent = in_64_bits (u.packets_unsent + 1); bytes_unsent = in_64_bits (u.bytes_unsent + bytes) }

abbrev pub with_failed : UpdateText → UpdateText
with_failed u = record u { failed_serializations = in_64_bits (u.failed_serializations + 1) }

-- so many points were left out
abbrev pub with_left_out : ℕ → UpdateText → UpdateText
with_left_out n u = record u { points_left_out = in_64_bits (u.points_left_out + n) }

-- whether a flush told of an update
abbrev pub HadUpdates : UpdateText → Type 0
HadUpdates u = (0 < u.counter_points) ⊎ ((0 < u.gauge_points) ⊎ (0 < u.histogram_points))

-- ---- what a flush adds of one series

-- the rate in billionths, 1 where there is none
abbrev pub rate_in : Option ℤ → ℕ
rate_in None = one
rate_in (Some rate) = unsigned_abs rate

-- how many points the lines tell of: the updates, where the number stands; of a histogram the values that stand over the rate, rounded down
abbrev pub points_by : ℕ → MetricKind → FlushItem → ℕ
points_by limit kinds.Counter i = if nat_lt 0 (left_out_of limit i) then 0 else i.updates
points_by limit kinds.Gauge i = if nat_lt 0 (left_out_of limit i) then 0 else i.updates
points_by limit kinds.Histogram i = length (kept_values limit i.item i.values) * one / rate_in i.item.rate

abbrev pub points_of : ℕ → FlushItem → ℕ
points_of limit i = points_by limit i.kind i

abbrev pub with_failure_of : ℕ → FlushItem → UpdateText → UpdateText
with_failure_of limit i u = if nat_lt 0 (left_out_of limit i) then with_failed u else u

abbrev pub with_item : ℕ → UpdateText → FlushItem → UpdateText
with_item limit u i = with_left_out (left_out_of limit i) (with_failure_of limit i (with_points i.kind (points_of limit i) (with_contexts i.kind 1 u)))

abbrev pub with_items : ℕ → UpdateText → List FlushItem → UpdateText
with_items limit u items = fold (with_item limit) u items
