-- The lines of a lane where they stand.
use Rattle.std.specs.Prelude.{ℕ, List, [], ◌∷◌, ◌++◌, Option, Some, None, drop}
use Rattle.cell_lanes.specs.declared.lane.Line.{Line}
use Rattle.exporter_lanes.specs.declared.exporters.ExporterCall.{ExporterCall}
use Rattle.script_player.specs.declared.lane_lines.RoundLines.{RoundLines}
use Rattle.script_player.specs.declared.lane_lines.RoundWalk.{RoundWalk}
use Rattle.script_player.specs.LaneTables.{lines_of}

abbrev pub all_lines : RoundLines → List (Line ExporterCall)
all_lines lines = lines_of lines.moment lines.calls.items

-- the one, if there is one
abbrev pub one_if : Option (Line ExporterCall) → List (Line ExporterCall)
one_if None = []
one_if (Some line) = line ∷ []

-- the second line of the last call, where it is left, and the lines of the calls that the walk isn't past
abbrev pub lines_left : RoundLines → RoundWalk → List (Line ExporterCall)
lines_left lines walk = one_if walk.second ++ lines_of lines.moment (drop walk.past lines.calls.items)
