use Rattle.std.proofs.Common.{length}
use Rattle.evmap_contents.proofs.Fitted.{IsFittedBehind}
use Rattle.evmap_contents.proofs.fitting.put_fitted.Given as goal

abbrev pub invariant-loop-bag : goal.invariant-loop-bag
invariant-loop-bag g l = IsFittedBehind l.initial.entries.entries l.entries.entries l.fitted.items

abbrev pub decreases-loop-bag : goal.decreases-loop-bag
decreases-loop-bag g l = length l.fitted.items
