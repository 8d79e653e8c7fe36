use Rattle.std.proofs.Common.{◌≡◌, ◌<◌, length, ap, ◌∙◌, subst, arith}
use Rattle.std.specs.Prelude.{slice_index_or}
use mathlib.Core.Option.{some}
use mathlib.Core.Logic.{dite}
use native.Mathlib.Decide.{ℕ_discrete}
use lib.ListN.{get_elem?}
use Rattle.legal_history.proofs.Steps.{some_below}
use Rattle.cell_lanes.specs.Lanes.{done_of}
use Rattle.cell_lanes.proofs.Lists.{at_or, below_some}
use Rattle.cell_lanes.proofs.Jobs.{done_at}
use Rattle.cell_lanes.proofs.round.all_done.Goals as goal

pub loop-l-preserved : goal.loop-l-preserved
loop-l-preserved g c =
    let l = c.loop-l.l in
    let h : l < length c.args.lanes.now = c.loop-l-test.true in
    let k : l < length c.args.jobs.now = omega (arith, c.requires.each) in
    let job = slice_index_or c.args.jobs.now l c.index-jobs-l.result in
    let at_job = at_or c.args.jobs.now l c.index-jobs-l.result k in
    λ i x lt e. dite (ℕ_discrete i l)
    (λ (q : i ≡ l).
    let its : (done_of c.args.jobs.now l ≡ job.done) × (job.done ≡ length x.lines) =
    (done_at c.args.jobs.now l job at_job, (c.requires.done l x job (subst (λ n. get_elem? c.args.lanes.now n ≡ some x) q e) at_job).all c.if-not-jobs-l.false) in
    ap (done_of c.args.jobs.now) q ∙ (its.0 ∙ its.1))
    (λ (ne : ¬ (i ≡ l)). c.loop-l.invariant i x (omega arith) e)

pub returns-then-not-jobs-l-clause-refused : goal.returns-then-not-jobs-l-clause-refused
returns-then-not-jobs-l-clause-refused g c =
    let l = c.loop-l.l in
    let h : l < length c.args.lanes.now = c.loop-l-test.true in
    let k : l < length c.args.jobs.now = omega (arith, c.requires.each) in
    let job = slice_index_or c.args.jobs.now l c.index-jobs-l.result in
    let lane = below_some c.args.lanes.now l h in
    let at_job = at_or c.args.jobs.now l c.index-jobs-l.result k in
    let left : job.done < length lane.0.lines = (c.requires.done l lane.0 job lane.1 at_job).some_left c.if-not-jobs-l.true in
    let is : done_of c.args.jobs.now l ≡ job.done = done_at c.args.jobs.now l job at_job in
    (l, lane.0, lane.1, omega arith)

pub returns-clause-ok : goal.returns-clause-ok
returns-clause-ok g c = λ l x e. c.loop-l.invariant l x (let b = some_below c.args.lanes.now l x e in let f = c.loop-l-test.false in omega arith) e
