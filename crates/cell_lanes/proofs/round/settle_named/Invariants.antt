use Rattle.std.proofs.Common.{◌≡◌, ℕ, ◌<◌}
use mathlib.Core.Option.{some}
use lib.ListN.{get_elem?}
use Rattle.cell_lanes.specs.Lines.{LaneText}
use Rattle.cell_lanes.specs.Lanes.{SettledAt}
use Rattle.cell_lanes.specs.Things.{root_of}
use Rattle.cell_lanes.proofs.round.settle_named.Given as goal

abbrev pub invariant-loop-lane : goal.invariant-loop-lane
invariant-loop-lane g l = record {
  same : g.S.Lenders.things l.shared ≡ g.S.Lenders.things l.initial.shared;
  frame : g.S.Lenders.frame l.shared ≡ g.S.Lenders.frame l.initial.shared;
  settled : (i s j : ℕ) (a : LaneText _) → i < l.lane-index → get_elem? l.lanes i ≡ some a → get_elem? a.cells s ≡ some j → SettledAt root_of (g.S.Lenders.things l.initial.shared) j;
}
