use Rattle.std.proofs.Common.{◌≡◌, take, length, vec_len, vec_capacity}
use Rattle.legal_history.specs.Order.{times}
use Rattle.cell_lanes.specs.Lanes.{Owns, Stays, Each, Lends, SlotsFit, Fresh, cells_of}
use Rattle.cell_lanes.specs.Things.{root_of, fixed_of}
use Rattle.cell_lanes.proofs.round.lend_lane.Given as goal

abbrev pub invariant-loop-cell : goal.invariant-loop-cell
invariant-loop-cell g l = record {
  frame : g.S.Lenders.frame l.shared ≡ g.S.Lenders.frame l.initial.shared;
  len : length (g.S.Lenders.things l.shared) ≡ length (g.S.Lenders.things l.initial.shared);
  lends : Each (λ j. Lends root_of (Stays g.S.Lenders.lasts fixed_of) (times j (cells_of l.slots.items))) (g.S.Lenders.things l.initial.shared) (g.S.Lenders.things l.shared);
  cells : cells_of l.slots.items ≡ take l.cell-index l.named;
  slots : SlotsFit (Owns fixed_of g.S.Lenders.owns) (g.S.Lenders.things l.shared) l.slots.items;
  fresh : Fresh g.S.Lenders.knows l.slots.items;
  items : length l.slots.items ≡ l.cell-index;
  count : vec_len l.slots ≡ l.cell-index;
  room : vec_capacity l.slots ≡ vec_capacity l.initial.slots;
}
