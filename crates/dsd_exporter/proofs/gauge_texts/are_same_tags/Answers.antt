use Rattle.std.proofs.Common.{◌≡◌, Bool, true, false, List, sym}
use Rattle.std.specs.Bool.{OnTrue}
use Rattle.std.specs.Cmp.Lexicographic.{pointwise, pointwise_decides}
use Rattle.metrics_core.specs.Keys.{LabelText, label_eq}
use Rattle.metrics_core.specs.KeyLaws.{label_eq_is}
use Rattle.dsd_exporter.proofs.gauge_texts.are_same_tags.Goals as goal

same : (xs ys : List LabelText) (b : Bool) → b ≡ pointwise label_eq xs ys → OnTrue b (xs ≡ ys)
same xs ys true is = (pointwise_decides label_eq_is xs ys).0 (sym is)
same xs ys false is = tt

pub returns : goal.returns
returns c = same c.args.tags.now c.args.others.now c.eq.result c.eq.ensures
