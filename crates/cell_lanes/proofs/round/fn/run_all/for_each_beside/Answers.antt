use Rattle.std.proofs.Common.{subst}
use Rattle.legal_history.proofs.Steps.{one_at}
use Rattle.atomic_table.proofs.Lists.{at_index}
use Rattle.cell_lanes.specs.Lines.{LaneText}
use Rattle.cell_lanes.specs.Lanes.{LaneRan}
use Rattle.cell_lanes.proofs.round.fn.run_all.for_each_beside.Goals as goal

pub run_job-requires-clause-ready : goal.run_job-requires-clause-ready
run_job-requires-clause-ready g c κs within =
    let a = c.index-lanes-l.result in
    c.requires.1 a (at_index c.captures.lanes.now c.args.l a c.requires.0 c.index-lanes-l.is)

pub returns : goal.returns
returns g c =
    let a = c.index-lanes-l.result in
    let at = at_index c.captures.lanes.now c.args.l a c.requires.0 c.index-lanes-l.is in
    λ b e. subst (λ (x : LaneText _). LaneRan g.S.Lenders.knows g.S.Lenders.stands_as g.S.Lenders.owns x c.args.job.now c.run_job.new.job) (one_at c.captures.lanes.now c.args.l a b at e) c.run_job.ensures.ran
