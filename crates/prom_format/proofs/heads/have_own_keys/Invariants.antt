use Rattle.std.proofs.Common.{◌≡◌, length}
use Rattle.prom_format.specs.LabelSets.{labels_of}
use Rattle.prom_format.specs.PlainKeys.{have_own_keys}
use Rattle.prom_format.proofs.heads.have_own_keys.Given as goal

-- what is left to test
abbrev pub invariant-loop-label : goal.invariant-loop-label
invariant-loop-label l = have_own_keys (labels_of l.globals.entries) l.rest ≡ have_own_keys (labels_of l.globals.entries) l.labels

abbrev pub decreases-loop-label : goal.decreases-loop-label
decreases-loop-label l = length l.rest
