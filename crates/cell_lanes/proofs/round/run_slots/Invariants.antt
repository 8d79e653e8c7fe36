use Rattle.std.proofs.Common.{◌≡◌, ◌≤◌, length, take, drop}
use Rattle.cell_lanes.specs.Lanes.{SlotsKept, SlotsMade}
use Rattle.cell_lanes.proofs.round.run_slots.Given as goal

abbrev pub invariant-loop-line : goal.invariant-loop-line
invariant-loop-line g l = record {
  kept : SlotsKept g.S.Lenders.owns l.initial.slots l.slots;
  made : SlotsMade g.S.Lenders.knows g.S.Lenders.stands_as (take l.done l.lane.lines) l.slots;
  left : g.L.LaneLines.left l.lines l.walk ≡ drop l.done l.lane.lines;
  most : l.done ≤ length l.lane.lines;
}

abbrev pub decreases-loop-line : goal.decreases-loop-line
decreases-loop-line g l = length (g.L.LaneLines.left l.lines l.walk)
