use Rattle.std.proofs.Common.{◌∙◌, sym, ap}
use Rattle.std.specs.Ordering.{is_eq}
use Rattle.metrics_core.specs.KeyLaws.{same_multiset-pointwise}
use Rattle.metrics_core.proofs.ComparedLabels.{equal_where_same}
use Rattle.metrics_core.proofs.labels.are_same.Goals as goal

pub returns-then-eq : goal.returns-then-eq
returns-then-eq c = c.if-eq.true ∙ sym (same_multiset-pointwise c.args.labels.now c.args.others.now (sym c.eq.ensures ∙ c.if-eq.true))

pub returns-then-may_be_same : goal.returns-then-may_be_same
returns-then-may_be_same c =
    c.is_eq.ensures
    ∙ ap is_eq c.compare_unlike.ensures
    ∙ equal_where_same c.args.labels.now c.args.others.now (c.may_be_same.ensures.len c.if-may_be_same.true)
