use Rattle.std.proofs.Common.{◌<◌, take}
use Rattle.std.specs.Prelude.{All}
use Rattle.drive_script.specs.declared.script.CallLine.{CallLine}
use Rattle.script_player.proofs.lanes.lanes_in.Given as goal

abbrev pub invariant-loop-line : goal.invariant-loop-line
invariant-loop-line l = All (λ (line : CallLine). line.lane < l.lanes) (take l.line-index l.calls)
