use Rattle.std.proofs.Common.{◌≡◌, length, vec_len}
use Rattle.cell_lanes.specs.Lanes.{Owns, Stays, Each, SlotsFit, given}
use Rattle.cell_lanes.specs.Things.{root_of, fixed_of}
use Rattle.cell_lanes.proofs.Returning.{Taking}
use Rattle.cell_lanes.proofs.round.take_lane.Given as goal

abbrev pub invariant-loop-slot : goal.invariant-loop-slot
invariant-loop-slot g l = record {
  frame : g.S.Lenders.frame l.shared ≡ g.S.Lenders.frame l.initial.shared;
  len : length (g.S.Lenders.things l.shared) ≡ length (g.S.Lenders.things l.initial.shared);
  slots : SlotsFit (Owns fixed_of g.S.Lenders.owns) (g.S.Lenders.things l.shared) l.slots.items;
  takes : Each (Taking root_of (Stays g.S.Lenders.lasts fixed_of) (λ j. given g.S.Lenders.knows j l.lane l.slots.items) (λ j. given g.S.Lenders.knows j l.lane l.initial.slots.items)) (g.S.Lenders.things l.initial.shared) (g.S.Lenders.things l.shared);
}

abbrev pub decreases-loop-slot : goal.decreases-loop-slot
decreases-loop-slot g l = vec_len l.slots
