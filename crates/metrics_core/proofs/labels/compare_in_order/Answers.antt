use Rattle.std.proofs.Common.{◌∙◌, sym, ap}
use Rattle.std.specs.Cmp.Lexicographic.{pointwise_decides}
use Rattle.metrics_core.specs.Sorting.{sorted_by}
use Rattle.metrics_core.specs.Keys.{label_cmp}
use Rattle.metrics_core.specs.KeyLaws.{label_eq_is}
use Rattle.metrics_core.proofs.ComparedLabels.{equal_in_order}
use Rattle.metrics_core.proofs.labels.compare_in_order.Goals as goal

pub returns-then-eq : goal.returns-then-eq
returns-then-eq c =
    let xs = c.args.labels.now in
    let ys = c.args.others.now in
    equal_in_order xs ys (ap (sorted_by label_cmp) ((pointwise_decides label_eq_is xs ys).0 (sym c.eq.ensures ∙ c.if-eq.true)))
