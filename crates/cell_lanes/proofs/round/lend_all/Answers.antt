use Rattle.std.proofs.Common.{false, ◌≡◌, ◌<◌, [], ◌∷◌, take, length, refl, sym, ap, ◌∙◌, subst, arith, ⊎_elim, length-append}
use mathlib.Core.Option.{some}
use lib.ListN.{get_elem?}
use Rattle.atomic_table.proofs.Lists.{at_index}
use Rattle.legal_history.specs.Order.{times}
use Rattle.legal_history.proofs.Steps.{one_at, at_snoc_index}
use Rattle.cell_lanes.specs.Lines.{LaneText}
use Rattle.cell_lanes.specs.declared.lane.Job.{Job}
use Rattle.cell_lanes.specs.Lanes.{Stays, Owns, Each, Lends, JobsFit, JobsFresh, cells_of, lent_on}
use Rattle.cell_lanes.specs.Things.{root_of, fixed_of}
use Rattle.cell_lanes.proofs.Lending.{stays_none, stays_then, owned, roots_lent, lends_lane, jobs_fit_each, jobs_fit_one, jobs_fresh_one}
use Rattle.cell_lanes.proofs.round.lend_all.Goals as goal

pub lend_lane-lent-requires-clause-roots : goal.lend_lane-lent-requires-clause-roots
lend_lane-lent-requires-clause-roots g c κs within =
    let i = c.loop-lane.invariant in
    roots_lent root_of (Stays g.S.Lenders.lasts fixed_of) (stays_none g.S.Lenders.lasts fixed_of g.S.Lenders.lasts_on) (stays_then g.S.Lenders.lasts fixed_of g.S.Lenders.lasts_then) (λ j. lent_on j c.loop-lane.jobs.items) (g.S.Lenders.things c.args.shared.now) (g.S.Lenders.things c.loop-lane.shared) i.len i.lends c.requires.roots

pub lend_lane-lent-requires-clause-named : goal.lend_lane-lent-requires-clause-named
lend_lane-lent-requires-clause-named g c κs within =
    let i = c.loop-lane.invariant in
    let a = c.lane-item.result in
    let at = at_index c.args.lanes.now c.loop-lane.lane-index a c.loop-lane-test.true c.lane-item.is in
    λ s j e. let b : j < length (g.S.Lenders.things c.args.shared.now) = (c.requires.fit c.loop-lane.lane-index a at).cells s j (subst (λ l. get_elem? l s ≡ some j) c.cells-in-loop-lane.ensures e) in omega (arith, i.len)

pub returns-in-Err-clause-lends : goal.returns-in-Err-clause-lends
returns-in-Err-clause-lends g c =
    let i = c.loop-lane.invariant in
    let job : Job _ = record { slots = c.lend_lane-lent.new.slots; done = 0; is_done = false } in
    subst (λ l. Each (λ j. Lends root_of (Stays g.S.Lenders.lasts fixed_of) (lent_on j l)) (g.S.Lenders.things c.args.shared.now) (g.S.Lenders.things c.lend_lane-lent.new.shared)) (sym c.push_reserved.ensures.items)
    (lends_lane root_of (Stays g.S.Lenders.lasts fixed_of) (stays_none g.S.Lenders.lasts fixed_of g.S.Lenders.lasts_on) (stays_then g.S.Lenders.lasts fixed_of g.S.Lenders.lasts_then) (g.S.Lenders.things c.args.shared.now) (g.S.Lenders.things c.loop-lane.shared) (g.S.Lenders.things c.lend_lane-lent.new.shared) c.loop-lane.jobs.items job i.len i.lends c.lend_lane-lent.ensures.lends)

pub returns-in-Err-clause-fit : goal.returns-in-Err-clause-fit
returns-in-Err-clause-fit g c =
    let i = c.loop-lane.invariant in
    let e = c.lend_lane-lent.ensures in
    let job : Job _ = record { slots = c.lend_lane-lent.new.slots; done = 0; is_done = false } in
    subst (JobsFit (Owns fixed_of g.S.Lenders.owns) (g.S.Lenders.things c.lend_lane-lent.new.shared)) (sym c.push_reserved.ensures.items)
    (jobs_fit_one (Stays g.S.Lenders.lasts fixed_of) (stays_none g.S.Lenders.lasts fixed_of g.S.Lenders.lasts_on) (stays_then g.S.Lenders.lasts fixed_of g.S.Lenders.lasts_then) (Owns fixed_of g.S.Lenders.owns) (owned g.S.Lenders.lasts fixed_of g.S.Lenders.owns g.S.Lenders.owns_on) (g.S.Lenders.things c.lend_lane-lent.new.shared) c.loop-lane.jobs.items job
    (jobs_fit_each (Stays g.S.Lenders.lasts fixed_of) (stays_none g.S.Lenders.lasts fixed_of g.S.Lenders.lasts_on) (stays_then g.S.Lenders.lasts fixed_of g.S.Lenders.lasts_then) (Owns fixed_of g.S.Lenders.owns) (owned g.S.Lenders.lasts fixed_of g.S.Lenders.owns g.S.Lenders.owns_on) root_of (λ j. times j (cells_of job.slots.items)) (g.S.Lenders.things c.loop-lane.shared) (g.S.Lenders.things c.lend_lane-lent.new.shared) c.loop-lane.jobs.items c.lend_lane-lent.ensures.many e.lends i.fit)
    e.slots.0)

pub returns-in-Err-clause-fresh : goal.returns-in-Err-clause-fresh
returns-in-Err-clause-fresh g c =
    let i = c.loop-lane.invariant in
    let e = c.lend_lane-lent.ensures in
    let a = c.lane-item.result in
    let at = at_index c.args.lanes.now c.loop-lane.lane-index a c.loop-lane-test.true c.lane-item.is in
    let old = c.loop-lane.jobs.items in
    let job : Job _ = record { slots = c.lend_lane-lent.new.slots; done = 0; is_done = false } in
    let h : c.loop-lane.lane-index < length c.args.lanes.now = c.loop-lane-test.true in (
      subst (JobsFresh g.S.Lenders.knows c.args.lanes.now) (sym c.push_reserved.ensures.items)
          (jobs_fresh_one g.S.Lenders.knows c.args.lanes.now old job a (subst (λ n. get_elem? c.args.lanes.now n ≡ some a) (sym i.items) at) (e.some_cells ∙ ap (take (length job.slots.items)) c.cells-in-loop-lane.ensures) e.slots.1 refl i.fresh),
      (let n = ap length c.push_reserved.ensures.items in omega (arith, i.items, length-append old (job ∷ []))),
    )

pub loop-lane-preserved : goal.loop-lane-preserved
loop-lane-preserved g c =
    let i = c.loop-lane.invariant in
    let e = c.lend_lane-lent.ensures in
    let a = c.lane-item.result in
    let at = at_index c.args.lanes.now c.loop-lane.lane-index a c.loop-lane-test.true c.lane-item.is in
    let old = c.loop-lane.jobs.items in
    let job : Job _ = record { slots = c.lend_lane-lent.new.slots; done = 0; is_done = false } in
    let items = c.push_reserved.ensures.items in
    let here : get_elem? c.args.lanes.now (length old) ≡ some a = subst (λ n. get_elem? c.args.lanes.now n ≡ some a) (sym i.items) at in
    record {
      frame = c.lend_lane-lent.ensures.frame ∙ i.frame;
      len = c.lend_lane-lent.ensures.many ∙ i.len;
      lends = subst (λ l. Each (λ j. Lends root_of (Stays g.S.Lenders.lasts fixed_of) (lent_on j l)) (g.S.Lenders.things c.args.shared.now) (g.S.Lenders.things c.lend_lane-lent.new.shared)) (sym items)
          (lends_lane root_of (Stays g.S.Lenders.lasts fixed_of) (stays_none g.S.Lenders.lasts fixed_of g.S.Lenders.lasts_on) (stays_then g.S.Lenders.lasts fixed_of g.S.Lenders.lasts_then) (g.S.Lenders.things c.args.shared.now) (g.S.Lenders.things c.loop-lane.shared) (g.S.Lenders.things c.lend_lane-lent.new.shared) old job i.len i.lends e.lends);
      fit = subst (JobsFit (Owns fixed_of g.S.Lenders.owns) (g.S.Lenders.things c.lend_lane-lent.new.shared)) (sym items)
          (jobs_fit_one (Stays g.S.Lenders.lasts fixed_of) (stays_none g.S.Lenders.lasts fixed_of g.S.Lenders.lasts_on) (stays_then g.S.Lenders.lasts fixed_of g.S.Lenders.lasts_then) (Owns fixed_of g.S.Lenders.owns) (owned g.S.Lenders.lasts fixed_of g.S.Lenders.owns g.S.Lenders.owns_on) (g.S.Lenders.things c.lend_lane-lent.new.shared) old job
          (jobs_fit_each (Stays g.S.Lenders.lasts fixed_of) (stays_none g.S.Lenders.lasts fixed_of g.S.Lenders.lasts_on) (stays_then g.S.Lenders.lasts fixed_of g.S.Lenders.lasts_then) (Owns fixed_of g.S.Lenders.owns) (owned g.S.Lenders.lasts fixed_of g.S.Lenders.owns g.S.Lenders.owns_on) root_of (λ j. times j (cells_of job.slots.items)) (g.S.Lenders.things c.loop-lane.shared) (g.S.Lenders.things c.lend_lane-lent.new.shared) old c.lend_lane-lent.ensures.many e.lends i.fit)
          e.slots.0);
      fresh = subst (JobsFresh g.S.Lenders.knows c.args.lanes.now) (sym items)
          (jobs_fresh_one g.S.Lenders.knows c.args.lanes.now old job a here (e.some_cells ∙ ap (take (length job.slots.items)) c.cells-in-loop-lane.ensures) e.slots.1 refl i.fresh);
      full = λ l b x p q. ⊎_elim
          (λ (h : get_elem? old l ≡ some x). i.full l b x p h)
          (λ (h : (l ≡ length old) × (job ≡ x)).
          let same : a ≡ b = one_at c.args.lanes.now (length old) a b here (subst (λ n. get_elem? c.args.lanes.now n ≡ some b) h.0 p) in
          ap (λ (y : Job _). cells_of y.slots.items) (sym h.1) ∙ (c.in-Ok.ensures.ok ∙ (c.cells-in-loop-lane.ensures ∙ ap (λ (y : LaneText _). y.cells) same)))
          (at_snoc_index old job x l (subst (λ xs. get_elem? xs l ≡ some x) items q));
      items = ap length items ∙ omega (arith, i.items, length-append old (job ∷ []));
      count = omega (arith, c.push_reserved.ensures.len, i.count);
      room = c.push_reserved.ensures.capacity ∙ i.room;
    }
