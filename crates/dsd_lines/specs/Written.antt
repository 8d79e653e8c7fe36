-- A line as the writer writes it.
use Rattle.std.specs.Prelude.{ℕ, ◌^◌, ◌<◌, ◌≤◌, List, [], map, length, pos, All, FitsSigned, IfSome, option_map, decimal}
use Rattle.std.specs.Int.{w64}
use Rattle.metrics_core.specs.Numbers.{one, dogstatsd_number}
use Rattle.dsd_writer.specs.Lines.{ItemText}
use Rattle.dsd_lines.specs.Grammar.{PointsText, Counter, Gauge, Steps, Histogram, Distribution, Timer, LineText, type_text, IsClean}

-- how the writer spells the values; those of StatsD alone it doesn't write
abbrev pub points_spelled : PointsText → List (List ℕ)
points_spelled (Counter counts) = map decimal counts
points_spelled (Gauge numbers) = map dogstatsd_number numbers
points_spelled (Histogram numbers) = map dogstatsd_number numbers
points_spelled (Distribution numbers) = map dogstatsd_number numbers
points_spelled (Steps steps) = []
points_spelled (Timer numbers) = []

-- each value fits 64 bits
abbrev pub HaveRange : PointsText → Type 0
HaveRange (Counter counts) = All (λ n. n < 2 ^ 64) counts
HaveRange (Gauge numbers) = All (FitsSigned w64) numbers
HaveRange (Histogram numbers) = All (FitsSigned w64) numbers
HaveRange (Distribution numbers) = All (FitsSigned w64) numbers
HaveRange (Steps steps) = ⊥
HaveRange (Timer numbers) = ⊥

-- a line can say this: a clean key, one value at least, and numbers in their ranges
pub record IsSayable (said : LineText) : Type 0 where
  pub clean : IsClean said.key
  pub some : 0 < length (points_spelled said.points)
  pub range : HaveRange said.points
  pub rate : IfSome said.rate (λ rate. (1000 ≤ rate) × (rate ≤ one))
  pub timestamp : IfSome said.timestamp (λ seconds. seconds < 2 ^ 64)

-- what the writer is given beside the values
abbrev pub item_said : LineText → ItemText
item_said said = record {
  name = said.key.name;
  type = type_text said.points;
  rate = option_map pos said.rate;
  tags = said.key.labels;
  timestamp = said.timestamp;
}
