use Rattle.std.proofs.Common.{sym, subst}
use Rattle.std.specs.List.{AllZip}
use Rattle.metrics_core.proofs.Lists.{AllZip-push}
use Rattle.script_player.specs.Copies.{IsMade}
use Rattle.script_player.proofs.set_up.all_made.Goals as goal

pub loop-part-preserved : goal.loop-part-preserved
loop-part-preserved c =
    subst (AllZip IsMade _) (sym c.in_ok-push.ensures.items)
    (AllZip-push IsMade c.loop-part.yielded c.loop-part.made.items c.in-Some.part c.in_ok-part.field-0 c.loop-part.invariant c.in_ok-part.was)
