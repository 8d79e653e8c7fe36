use Rattle.std.proofs.Common.{◌<◌, ◌≤◌, ◌↔◌, ℕ, take, drop}
use Rattle.legal_history.specs.History.{In, Distinct}
use Rattle.legal_history.specs.Places.{Ascend}
use Rattle.cell_lanes.proofs.fit.ascend_below.Given as goal

abbrev pub invariant-loop-cell : goal.invariant-loop-cell
invariant-loop-cell l = record {
  rest : Ascend l.next l.count (drop l.cell-index l.cells) ↔ Ascend 0 l.count l.cells;
  once : Distinct (take l.cell-index l.cells);
  below : (t : ℕ) → In t (take l.cell-index l.cells) → t < l.next;
  next : l.next ≤ l.count;
}
