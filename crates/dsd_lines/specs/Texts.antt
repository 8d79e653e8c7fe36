-- What the program's values stand for.
use Rattle.std.specs.Prelude.{ℕ, List, [], map, ℤ, Option, Some, None}
use Rattle.std.specs.Borrow.{Bor}
use Rattle.metrics_core.specs.declared.numbers.Fixed.{Fixed}
use Rattle.dsd_lines.specs.Grammar as text
use Rattle.dsd_lines.specs.Grammar.{PointsText, StepText, LineText, IsLineIn}
use Rattle.dsd_lines.specs.Reading.{pieces}
use Rattle.dsd_lines.specs.declared.dialects.Dialect.{Dialect}
use Rattle.dsd_lines.specs.declared.dialects.Dialect.TheVariants.{DogStatsd}
use Rattle.dsd_lines.specs.declared.lines.GaugeStep.{GaugeStep}
use Rattle.dsd_lines.specs.declared.lines.GaugeStep.TheVariants as steps
use Rattle.dsd_lines.specs.declared.lines.Line.{Line}
use Rattle.dsd_lines.specs.declared.lines.Points.{Points}
use Rattle.dsd_lines.specs.declared.lines.Points.TheVariants as points
use Rattle.dsd_lines.specs.declared.pieces.Pieces.{Pieces}

abbrev pub numbers_of : List Fixed → List ℤ
numbers_of values = map (λ value. value.0) values

abbrev pub step_text : GaugeStep → StepText
step_text (steps.SetTo value) = text.SetTo value.0
step_text (steps.MoveBy value) = text.MoveBy value.0

abbrev pub steps_of : List GaugeStep → List StepText
steps_of steps = map step_text steps

abbrev pub points_text : Points → PointsText
points_text (points.Counter counts) = text.Counter counts.items
points_text (points.Gauge values) = text.Gauge (numbers_of values.items)
points_text (points.Steps steps) = text.Steps (steps_of steps.items)
points_text (points.Histogram values) = text.Histogram (numbers_of values.items)
points_text (points.Distribution values) = text.Distribution (numbers_of values.items)
points_text (points.Timer values) = text.Timer (numbers_of values.items)

abbrev pub line_text : Line → LineText
line_text line = record {
  key = line.key;
  points = points_text line.points;
  rate = line.rate;
  timestamp = line.timestamp;
}

-- the bytes are no line of the dialect
abbrev pub IsNoLineIn : Dialect → List ℕ → Type 0
IsNoLineIn dialect bytes = (said : LineText) → ¬ IsLineIn dialect bytes said

abbrev pub IsNoLine : List ℕ → Type 0
IsNoLine bytes = IsNoLineIn DogStatsd bytes

-- the pieces that are still to be taken
abbrev pub pieces_behind : ℕ → Option (Bor (List ℕ)) → List (List ℕ)
pieces_behind stop None = []
pieces_behind stop (Some bytes) = pieces stop bytes.now

abbrev pub pieces_left : Pieces → List (List ℕ)
pieces_left left = pieces_behind left.stop left.rest
