use Rattle.std.proofs.Common.{◌≡◌, take}
use Rattle.std.specs.Prelude.{option_copied, fold}
use Rattle.metrics_core.specs.Sorting.{lesser_differing}
use Rattle.metrics_core.specs.Keys.{label_eq, label_cmp}
use Rattle.metrics_core.proofs.labels.least_differing.Given as goal

abbrev pub invariant-loop-label : goal.invariant-loop-label
invariant-loop-label l =
    option_copied l.least ≡ fold (lesser_differing label_cmp label_eq l.labels l.others) (option_copied l.initial.least) (take l.label-index l.among)
