use Rattle.std.proofs.Common.{◌≡◌, [], refl, sym, ap, ◌∙◌, subst}
use Rattle.legal_history.proofs.Steps.{empty_list}
use Rattle.cell_lanes.specs.Lanes.{Stays, Owns, Each, JobsFit, given, all_given}
use Rattle.cell_lanes.specs.Things.{root_of, fixed_of}
use Rattle.cell_lanes.proofs.Lists.{each_same}
use Rattle.cell_lanes.proofs.Lending.{stays_none, stays_then, owned, fit_each}
use Rattle.cell_lanes.proofs.Returning.{Taking, taking_none, taken_all, takes_lane, roots_taking, jobs_fit_front, jobs_fit_last}
use Rattle.cell_lanes.proofs.round.take_all.Goals as goal

pub loop-job-init : goal.loop-job-init
loop-job-init g c =
    record {
      frame = refl;
      len = refl;
      fit = c.requires.fit;
      takes = each_same (Taking root_of (Stays g.S.Lenders.lasts fixed_of) (λ j. all_given g.S.Lenders.knows j 0 c.args.jobs.items) (λ j. all_given g.S.Lenders.knows j 0 c.args.jobs.items)) (g.S.Lenders.things c.args.shared.now) (taking_none root_of (Stays g.S.Lenders.lasts fixed_of) (stays_none g.S.Lenders.lasts fixed_of g.S.Lenders.lasts_on) (stays_then g.S.Lenders.lasts fixed_of g.S.Lenders.lasts_then) (λ j. all_given g.S.Lenders.knows j 0 c.args.jobs.items));
    }

pub take_lane-requires-clause-roots : goal.take_lane-requires-clause-roots
take_lane-requires-clause-roots g c κs within =
    let i = c.loop-job.invariant in
    roots_taking root_of (Stays g.S.Lenders.lasts fixed_of) (stays_none g.S.Lenders.lasts fixed_of g.S.Lenders.lasts_on) (stays_then g.S.Lenders.lasts fixed_of g.S.Lenders.lasts_then) (λ j. all_given g.S.Lenders.knows j 0 c.loop-job.jobs.items) (λ j. all_given g.S.Lenders.knows j 0 c.args.jobs.items)
    (g.S.Lenders.things c.args.shared.now) (g.S.Lenders.things c.loop-job.shared) i.len i.takes c.requires.roots

pub take_lane-requires-clause-slots : goal.take_lane-requires-clause-slots
take_lane-requires-clause-slots g c κs within =
    jobs_fit_last (Owns fixed_of g.S.Lenders.owns) (g.S.Lenders.things c.loop-job.shared) c.pop.new.self.items c.in-Some.job (subst (JobsFit (Owns fixed_of g.S.Lenders.owns) (g.S.Lenders.things c.loop-job.shared)) c.in-Some.ensures.items c.loop-job.invariant.fit)

pub loop-job-preserved : goal.loop-job-preserved
loop-job-preserved g c =
    let i = c.loop-job.invariant in
    let t = c.take_lane.ensures in
    let all = subst (JobsFit (Owns fixed_of g.S.Lenders.owns) (g.S.Lenders.things c.loop-job.shared)) c.in-Some.ensures.items i.fit in
    let rest = jobs_fit_front (Owns fixed_of g.S.Lenders.owns) (g.S.Lenders.things c.loop-job.shared) c.pop.new.self.items c.in-Some.job all in
    record {
      frame = c.take_lane.ensures.frame ∙ i.frame;
      len = c.take_lane.ensures.many ∙ i.len;
      fit = λ l x e. fit_each (Stays g.S.Lenders.lasts fixed_of) (stays_none g.S.Lenders.lasts fixed_of g.S.Lenders.lasts_on) (stays_then g.S.Lenders.lasts fixed_of g.S.Lenders.lasts_then) (Owns fixed_of g.S.Lenders.owns) (owned g.S.Lenders.lasts fixed_of g.S.Lenders.owns g.S.Lenders.owns_on)
          (λ j. Rattle.cell_lanes.specs.Lanes.Takes root_of (Stays g.S.Lenders.lasts fixed_of) (given g.S.Lenders.knows j c.len.result c.in-Some.job.slots.items)) (g.S.Lenders.things c.loop-job.shared) (g.S.Lenders.things c.take_lane.new.shared) x.slots.items c.take_lane.ensures.many (λ j a b h. h.kept) t.takes (rest l x e);
      takes = takes_lane root_of (Stays g.S.Lenders.lasts fixed_of) (stays_none g.S.Lenders.lasts fixed_of g.S.Lenders.lasts_on) (stays_then g.S.Lenders.lasts fixed_of g.S.Lenders.lasts_then) g.S.Lenders.knows (λ j. all_given g.S.Lenders.knows j 0 c.args.jobs.items) (g.S.Lenders.things c.args.shared.now) (g.S.Lenders.things c.loop-job.shared) (g.S.Lenders.things c.take_lane.new.shared) c.pop.new.self.items c.in-Some.job c.len.result (c.len.ensures ∙ c.pop.new.self.ok.0) i.len
          (subst (λ l. Each (Taking root_of (Stays g.S.Lenders.lasts fixed_of) (λ j. all_given g.S.Lenders.knows j 0 l) (λ j. all_given g.S.Lenders.knows j 0 c.args.jobs.items)) (g.S.Lenders.things c.args.shared.now) (g.S.Lenders.things c.loop-job.shared)) c.in-Some.ensures.items i.takes) t.takes;
    }

pub returns : goal.returns
returns g c =
    let i = c.loop-job.invariant in
    let none : c.loop-job.jobs.items ≡ [] = empty_list c.loop-job.jobs.items (sym c.loop-job.jobs.ok.0 ∙ c.in_default.ensures.cases.0) in
    record {
      frame = i.frame;
      many = i.len;
      takes = taken_all root_of (Stays g.S.Lenders.lasts fixed_of) (stays_none g.S.Lenders.lasts fixed_of g.S.Lenders.lasts_on) (stays_then g.S.Lenders.lasts fixed_of g.S.Lenders.lasts_then) (λ j. all_given g.S.Lenders.knows j 0 c.args.jobs.items) (λ j. all_given g.S.Lenders.knows j 0 c.loop-job.jobs.items)
          (g.S.Lenders.things c.args.shared.now) (g.S.Lenders.things c.loop-job.shared) (λ j. ap (all_given g.S.Lenders.knows j 0) none) i.takes;
    }
