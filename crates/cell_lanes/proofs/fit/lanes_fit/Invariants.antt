use Rattle.std.proofs.Common.{take}
use Rattle.cell_lanes.specs.Lanes.{AllFit, AllInOrder}
use Rattle.cell_lanes.proofs.fit.lanes_fit.Given as goal

abbrev pub invariant-loop-lane : goal.invariant-loop-lane
invariant-loop-lane g l = record {
  fit : AllFit l.count (take l.lane-index l.lanes);
  in_order : AllInOrder l.count (take l.lane-index l.lanes);
}
