use Rattle.std.proofs.Common.{◌∙◌, sym, ap, arith}
use Rattle.std.specs.Prelude.{option_copied}
use Rattle.std.proofs.lemmas.List.Sums.{fold_more}
use Rattle.metrics_core.specs.Sorting.{lesser_differing}
use Rattle.metrics_core.specs.Keys.{label_eq, label_cmp}
use Rattle.metrics_core.proofs.labels.least_differing.Goals as goal

-- one more label
pub loop-label-preserved : goal.loop-label-preserved
loop-label-preserved c =
    let step = lesser_differing label_cmp label_eq c.args.labels.now c.args.others.now in
    let label = c.label-item.result in
    c.lesser_of-least.ensures
    ∙ ap (λ least. step least label) c.loop-label.invariant
    ∙ ap (step _) c.label-item.is
    ∙ sym (fold_more step (option_copied c.args.found) c.args.among.now c.loop-label.label-index label (omega arith))
