use Rattle.std.proofs.Common.{rules, ◌≡◌, sym, ◌∙◌, subst, arith}
use mathlib.Core.Option.{some}
use lib.ListN.{get_elem?}
use Rattle.legal_history.proofs.Steps.{some_below}
use Rattle.cell_lanes.specs.declared.lane.Job.{Job}
use Rattle.cell_lanes.specs.Lanes.{LaneRan}
use Rattle.cell_lanes.proofs.Lists.{at_or, or_at}
use Rattle.cell_lanes.proofs.round.run_all.Goals as goal

pub for_each_beside-requires-clause-accepts : goal.for_each_beside-requires-clause-accepts
for_each_beside-requires-clause-accepts g c κs within = λ i p h e.
    let at = subst (λ q. get_elem? c.args.jobs.now i ≡ some q) (sym e) (at_or c.args.jobs.now i p.now h) in
    ((omega (arith, c.requires.len), λ a f. c.requires.ready i a p.now f at), search rules)

pub returns : goal.returns
returns g c = record {
  ran = λ l a x y e f h.
      let k = (c.for_each_beside.ensures l y (some_below c.args.jobs.now l x f)).1 in
      let was = k.argument_is ∙ or_at c.args.jobs.now l y x f in
      let now = k.left ∙ or_at c.for_each_beside.new.items l y y h in
      subst (λ (z : Job _). LaneRan g.S.Lenders.knows g.S.Lenders.stands_as g.S.Lenders.owns a z y) was
      (subst (λ (z : Job _). LaneRan g.S.Lenders.knows g.S.Lenders.stands_as g.S.Lenders.owns a k.argument.now z) now (k.call a e));
}
