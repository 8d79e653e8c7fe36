use Rattle.std.proofs.Common.{rules, ap}
use Rattle.prom_format.specs.LabelSets.{labels_of_lent}
use Rattle.prom_format.proofs.LabelSetLemmas.{labels_of_lent-insert}
use Rattle.prom_format.proofs.lent_labels.lend_label.Goals as goal

pub returns : goal.returns
returns c =
    let made = labels_of_lent-insert c.args.labels.now.entries c.args.key c.args.value in
    let entries = c.in_ok-insert.ensures.entries in
    search (rules, made, ap labels_of_lent entries)
