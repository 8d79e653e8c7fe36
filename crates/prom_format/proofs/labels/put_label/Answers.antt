use Rattle.std.proofs.Common.{rules, ap}
use Rattle.prom_format.specs.LabelSets.{labels_of}
use Rattle.prom_format.proofs.LabelSetLemmas.{labels_of-insert}
use Rattle.prom_format.proofs.labels.put_label.Goals as goal

pub returns : goal.returns
returns c =
    let made = labels_of-insert c.args.labels.now.entries c.in_ok-key.key c.in_ok-value.value in
    let entries = c.in_ok-insert.ensures.entries in
    search (rules, made, ap labels_of entries)
