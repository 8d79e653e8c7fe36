use Rattle.std.proofs.Common.{sym, subst}
use Rattle.indexmap.specs.IndexMap.{values}
use Rattle.evmap_contents.proofs.Fitted.{IsDone, one_more}
use Rattle.evmap_contents.proofs.fitting.fitted_bags.Goals as goal

pub loop-bag-preserved : goal.loop-bag-preserved
loop-bag-preserved g c =
    subst (IsDone (values c.args.entries.now) c.next.new.self) (sym c.in_ok-push.ensures.items)
    (one_more (values c.args.entries.now) c.loop-bag.bag-iterator c.loop-bag.fitted.items c.in-Some.bag.now c.next.new.self c.in_ok-fitted.field-0 c.loop-bag.invariant c.in-Some.ensures.steps c.in_ok-fitted.ensures)
