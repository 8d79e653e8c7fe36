use Rattle.std.proofs.Common.{ℕ, inr, length, refl, sym, subst, ◌∙◌, ap}
use Rattle.cell_lanes.specs.Things.{root_of, fixed_of}
use Rattle.cell_lanes.specs.Lanes.{Stays, Each, Lends, Takes, Same, Grew, Roots, AtRest, AllFit, lent_on, all_given, done_of}
use Rattle.cell_lanes.proofs.Lists.{each_same, each_then}
use Rattle.cell_lanes.proofs.Lending.{stays_none, stays_then, roots_lent}
use Rattle.cell_lanes.proofs.Returning.{roots_taken}
use Rattle.cell_lanes.proofs.Jobs.{grew_none, all_home, all_rest, all_grew}
use Rattle.cell_lanes.proofs.round.run_lanes.Given.{Over}
use Rattle.cell_lanes.proofs.round.run_lanes.Goals as goal
use Rattle.cell_lanes.proofs.round.run_lanes.Goals.{After-settle_named}

pub returns-in-Err-clause-grew : goal.returns-in-Err-clause-grew
returns-in-Err-clause-grew g c =
    ((λ (l : ℕ). 0), tt, each_same (Grew root_of g.S.Lenders.stands_as c.args.lanes.now (λ _. 0)) (g.S.Lenders.things c.args.shared.now) (grew_none root_of g.S.Lenders.stands_as c.args.lanes.now), inr (λ l. refl))

pub take_all-requires-clause-roots : goal.take_all-requires-clause-roots
take_all-requires-clause-roots g c κs within =
    let o = c.lend_and_run-outcome in
    roots_lent root_of (Stays g.S.Lenders.lasts fixed_of) (stays_none g.S.Lenders.lasts fixed_of g.S.Lenders.lasts_on) (stays_then g.S.Lenders.lasts fixed_of g.S.Lenders.lasts_then) (λ j. lent_on j o.new.jobs.items) (g.S.Lenders.things c.args.shared.now) (g.S.Lenders.things o.new.shared) o.ensures.kept.0 o.ensures.lends c.requires.roots.0

pub settle_named-requires-clause-home : goal.settle_named-requires-clause-home
settle_named-requires-clause-home g c κs within =
    let o = c.lend_and_run-outcome in (
      roots_taken root_of (Stays g.S.Lenders.lasts fixed_of) (λ j. all_given g.S.Lenders.knows j 0 o.new.jobs.items) (g.S.Lenders.things o.new.shared) (g.S.Lenders.things c.take_all.new.shared) c.take_all.ensures.many c.take_all.ensures.takes
          (roots_lent root_of (Stays g.S.Lenders.lasts fixed_of) (stays_none g.S.Lenders.lasts fixed_of g.S.Lenders.lasts_on) (stays_then g.S.Lenders.lasts fixed_of g.S.Lenders.lasts_then) (λ j. lent_on j o.new.jobs.items) (g.S.Lenders.things c.args.shared.now) (g.S.Lenders.things o.new.shared) o.ensures.kept.0 o.ensures.lends c.requires.roots.0),
      all_home g.S.Lenders.knows root_of (Stays g.S.Lenders.lasts fixed_of) o.new.jobs.items (g.S.Lenders.things c.args.shared.now) (g.S.Lenders.things o.new.shared) (g.S.Lenders.things c.take_all.new.shared) c.requires.roots.1 o.ensures.kept.0 c.take_all.ensures.many o.ensures.lends c.take_all.ensures.takes,
    )

pub settle_named-requires-clause-fit : goal.settle_named-requires-clause-fit
settle_named-requires-clause-fit g c κs within = subst (λ count. AllFit count c.args.lanes.now) (sym (c.take_all.ensures.many ∙ c.lend_and_run-outcome.ensures.kept.0)) c.requires.fit

-- with all passes back each root is at rest
rests : (g : Over) (c : After-settle_named g) → Roots root_of (g.S.Lenders.things c.take_all.new.shared) × AtRest root_of (g.S.Lenders.things c.take_all.new.shared)
rests g c =
    let o = c.lend_and_run-outcome in (
      roots_taken root_of (Stays g.S.Lenders.lasts fixed_of) (λ j. all_given g.S.Lenders.knows j 0 o.new.jobs.items) (g.S.Lenders.things o.new.shared) (g.S.Lenders.things c.take_all.new.shared) c.take_all.ensures.many c.take_all.ensures.takes
          (roots_lent root_of (Stays g.S.Lenders.lasts fixed_of) (stays_none g.S.Lenders.lasts fixed_of g.S.Lenders.lasts_on) (stays_then g.S.Lenders.lasts fixed_of g.S.Lenders.lasts_then) (λ j. lent_on j o.new.jobs.items) (g.S.Lenders.things c.args.shared.now) (g.S.Lenders.things o.new.shared) o.ensures.kept.0 o.ensures.lends c.requires.roots.0),
      all_rest g.S.Lenders.knows root_of (Stays g.S.Lenders.lasts fixed_of) o.new.jobs.items (g.S.Lenders.things c.args.shared.now) (g.S.Lenders.things o.new.shared) (g.S.Lenders.things c.take_all.new.shared) c.requires.roots.1 o.ensures.kept.0 c.take_all.ensures.many o.ensures.lends c.take_all.ensures.takes
          g.S.Lenders.stands_as (length (g.S.Lenders.things c.args.shared.now)) c.args.lanes.now c.requires.fit o.ensures.fit.1 o.ensures.ran c.settle_named.ensures.settled,
    )

pub returns-clause-many : goal.returns-clause-many
returns-clause-many g c = ap length c.settle_named.ensures.same ∙ c.take_all.ensures.many ∙ c.lend_and_run-outcome.ensures.kept.0

pub returns-clause-roots : goal.returns-clause-roots
returns-clause-roots g c = subst (λ things. Roots root_of things × AtRest root_of things) (sym c.settle_named.ensures.same) (rests g c)

pub returns-clause-stays : goal.returns-clause-stays
returns-clause-stays g c =
    let o = c.lend_and_run-outcome in
    subst (Each (λ j. Stays g.S.Lenders.lasts fixed_of) (g.S.Lenders.things c.args.shared.now)) (sym c.settle_named.ensures.same)
    (each_then (λ j. Lends root_of (Stays g.S.Lenders.lasts fixed_of) (lent_on j o.new.jobs.items)) (λ j. Takes root_of (Stays g.S.Lenders.lasts fixed_of) (all_given g.S.Lenders.knows j 0 o.new.jobs.items)) (λ j. Stays g.S.Lenders.lasts fixed_of) (g.S.Lenders.things c.args.shared.now) (g.S.Lenders.things o.new.shared) (g.S.Lenders.things c.take_all.new.shared) o.ensures.kept.0
    (λ j x y z p q. stays_then g.S.Lenders.lasts fixed_of g.S.Lenders.lasts_then x y z p.kept q.kept) o.ensures.lends c.take_all.ensures.takes)

pub returns-clause-grew : goal.returns-clause-grew
returns-clause-grew g c =
    let o = c.lend_and_run-outcome in
    let things = g.S.Lenders.things c.take_all.new.shared in (
      done_of o.new.jobs.items,
      o.ensures.ok,
      subst (Each (Grew root_of g.S.Lenders.stands_as c.args.lanes.now (done_of o.new.jobs.items)) (g.S.Lenders.things c.args.shared.now)) (sym c.settle_named.ensures.same)
          (all_grew g.S.Lenders.knows root_of (Stays g.S.Lenders.lasts fixed_of) o.new.jobs.items (g.S.Lenders.things c.args.shared.now) (g.S.Lenders.things o.new.shared) things c.requires.roots.1 o.ensures.kept.0 c.take_all.ensures.many o.ensures.lends c.take_all.ensures.takes
          g.S.Lenders.stands_as (length (g.S.Lenders.things c.args.shared.now)) c.args.lanes.now c.requires.fit o.ensures.fit.1 o.ensures.ran things refl (each_same (λ j. Same root_of (Stays g.S.Lenders.lasts fixed_of)) things (λ j t. record { kept = stays_none g.S.Lenders.lasts fixed_of g.S.Lenders.lasts_on t; view = refl })) (rests g c).1),
      o.ensures.refused,
    )
