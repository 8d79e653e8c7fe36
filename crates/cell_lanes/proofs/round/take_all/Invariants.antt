use Rattle.std.proofs.Common.{◌≡◌, length, vec_len}
use Rattle.cell_lanes.specs.Lanes.{Owns, Stays, Each, JobsFit, all_given}
use Rattle.cell_lanes.specs.Things.{root_of, fixed_of}
use Rattle.cell_lanes.proofs.Returning.{Taking}
use Rattle.cell_lanes.proofs.round.take_all.Given as goal

abbrev pub invariant-loop-job : goal.invariant-loop-job
invariant-loop-job g l = record {
  frame : g.S.Lenders.frame l.shared ≡ g.S.Lenders.frame l.initial.shared;
  len : length (g.S.Lenders.things l.shared) ≡ length (g.S.Lenders.things l.initial.shared);
  fit : JobsFit (Owns fixed_of g.S.Lenders.owns) (g.S.Lenders.things l.shared) l.jobs.items;
  takes : Each (Taking root_of (Stays g.S.Lenders.lasts fixed_of) (λ j. all_given g.S.Lenders.knows j 0 l.jobs.items) (λ j. all_given g.S.Lenders.knows j 0 l.initial.jobs.items)) (g.S.Lenders.things l.initial.shared) (g.S.Lenders.things l.shared);
}

abbrev pub decreases-loop-job : goal.decreases-loop-job
decreases-loop-job g l = vec_len l.jobs
