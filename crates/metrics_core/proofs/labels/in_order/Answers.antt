use Rattle.std.proofs.Common.{rules, ◌≡◌, map, Bor}
use Rattle.metrics_core.specs.Keys.{LabelText}
use Rattle.metrics_core.specs.KeyLaws.{label_cmp_total, label_cmp_ties, label_eq_is}
use Rattle.metrics_core.proofs.SortedLists.{sorted_is}
use Rattle.metrics_core.proofs.labels.in_order.Goals as goal

abbrev text : Bor LabelText → LabelText
text label = label.now

-- the references stand in the list's order before they are sorted
pub returns : goal.returns
returns c =
    let collected : map text c.in_ok-sorted.sorted.items ≡ c.args.labels.now = search rules in
    sorted_is label_cmp_total label_eq_is label_cmp_ties text c.in_ok-sorted.sorted.items c.sort_unstable.new.self.items c.args.labels.now collected c.sort_unstable.ensures.permutation c.sort_unstable.ensures.sorted
