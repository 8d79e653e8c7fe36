use Rattle.std.proofs.Common.{◌≡◌, ◌+◌, suc, [], ◌∷◌, ◌++◌, drop, sym, ap, subst, ◌∙◌, arith}
use Rattle.std.specs.Prelude.{None, Some, slice_get}
use Rattle.cell_lanes.specs.Lines.{IsNext}
use Rattle.exporter_lanes.specs.declared.exporters.ExporterCall.TheVariants as exporter
use Rattle.script_player.specs.declared.lane_lines.RoundLines.{RoundLines}
use Rattle.script_player.specs.declared.lane_lines.RoundWalk.{RoundWalk}
use Rattle.script_player.specs.LaneTables.{lines_of}
use Rattle.script_player.specs.RoundLines.{lines_left, one_if}
use Rattle.script_player.proofs.RoundLines.{get_here, get_past, lines_end, lines_next}
use Rattle.script_player.proofs.lane_lines.RoundLinesLaneLines.next.Goals as goal

-- with no second line left, what is left is the lines of the calls that the walk isn't past
left_is : (own : RoundLines) (walk : RoundWalk) → walk.second ≡ None → lines_left own walk ≡ lines_of own.moment (drop walk.past own.calls.items)
left_is own walk none = ap (λ o. one_if o ++ lines_of own.moment (drop walk.past own.calls.items)) none
