use Rattle.std.proofs.Common.{take}
use Rattle.cell_lanes.specs.Lanes.{LineFit}
use Rattle.cell_lanes.proofs.fit.slots_below.Given as goal

abbrev pub invariant-loop-line : goal.invariant-loop-line
invariant-loop-line g l = LineFit l.count (take l.line-index l.lines)
