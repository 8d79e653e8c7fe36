use Rattle.std.proofs.Common.{◌≡◌, [], fold}
use Rattle.std.specs.Slice.Iter.{iter_rest}
use Rattle.metrics_core.specs.Keys.{label_set, put_label}
use Rattle.prom_format.specs.LabelSets.{labels_of, labels_of_lent}
use Rattle.prom_format.proofs.lent_labels.lend_labels.Given as goal

abbrev pub invariant-loop-name : goal.invariant-loop-name
invariant-loop-name l =
    fold put_label (labels_of_lent l.labels.entries) (labels_of l.name-iterator) ≡ fold put_label [] (labels_of l.globals.entries)

abbrev pub invariant-loop-label : goal.invariant-loop-label
invariant-loop-label l =
    fold put_label (labels_of_lent l.labels.entries) (iter_rest l.label-iterator) ≡ label_set (labels_of l.globals.entries) l.key.labels
