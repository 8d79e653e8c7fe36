use Rattle.indexmap.specs.IndexMap.{values}
use Rattle.evmap_contents.proofs.Fitted.{IsDone}
use Rattle.evmap_contents.proofs.fitting.fitted_bags.Given as goal

abbrev pub invariant-loop-bag : goal.invariant-loop-bag
invariant-loop-bag g l = IsDone (values l.entries) l.bag-iterator l.fitted.items
