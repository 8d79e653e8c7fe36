use Rattle.std.proofs.Common.{◌≡◌, ℕ, ◌<◌}
use mathlib.Core.Option.{some}
use lib.ListN.{get_elem?}
use Rattle.cell_lanes.specs.Lanes.{SettledAt}
use Rattle.cell_lanes.specs.Things.{root_of}
use Rattle.cell_lanes.proofs.round.settle_lane.Given as goal

abbrev pub invariant-loop-cell : goal.invariant-loop-cell
invariant-loop-cell g l = record {
  same : g.S.Lenders.things l.shared ≡ g.S.Lenders.things l.initial.shared;
  frame : g.S.Lenders.frame l.shared ≡ g.S.Lenders.frame l.initial.shared;
  settled : (s j : ℕ) → s < l.cell-index → get_elem? l.named s ≡ some j → SettledAt root_of (g.S.Lenders.things l.initial.shared) j;
}
