use Rattle.std.proofs.Common.{◌≡◌, ℕ, length, vec_len, vec_capacity}
use mathlib.Core.Option.{some}
use lib.ListN.{get_elem?}
use Rattle.cell_lanes.specs.Lines.{LaneText}
use Rattle.cell_lanes.specs.declared.lane.Job.{Job}
use Rattle.cell_lanes.specs.Lanes.{Owns, Stays, Each, Lends, JobsFit, JobsFresh, cells_of, lent_on}
use Rattle.cell_lanes.specs.Things.{root_of, fixed_of}
use Rattle.cell_lanes.proofs.round.lend_all.Given as goal

abbrev pub invariant-loop-lane : goal.invariant-loop-lane
invariant-loop-lane g l = record {
  frame : g.S.Lenders.frame l.shared ≡ g.S.Lenders.frame l.initial.shared;
  len : length (g.S.Lenders.things l.shared) ≡ length (g.S.Lenders.things l.initial.shared);
  lends : Each (λ j. Lends root_of (Stays g.S.Lenders.lasts fixed_of) (lent_on j l.jobs.items)) (g.S.Lenders.things l.initial.shared) (g.S.Lenders.things l.shared);
  fit : JobsFit (Owns fixed_of g.S.Lenders.owns) (g.S.Lenders.things l.shared) l.jobs.items;
  fresh : JobsFresh g.S.Lenders.knows l.lanes l.jobs.items;
  full : (i : ℕ) (a : LaneText _) (x : Job _) → get_elem? l.lanes i ≡ some a → get_elem? l.jobs.items i ≡ some x → cells_of x.slots.items ≡ a.cells;
  items : length l.jobs.items ≡ l.lane-index;
  count : vec_len l.jobs ≡ l.lane-index;
  room : vec_capacity l.jobs ≡ vec_capacity l.initial.jobs;
}
