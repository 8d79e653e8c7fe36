use Rattle.std.proofs.Common.{◌≡◌, [], fold}
use Rattle.std.specs.Slice.Iter.{iter_rest}
use Rattle.metrics_core.specs.Keys.{label_set, put_label}
use Rattle.prom_format.specs.LabelSets.{labels_of}
use Rattle.prom_format.proofs.labels.LabelSet.from_key_and_global.Given as goal

abbrev pub invariant-loop-name : goal.invariant-loop-name
invariant-loop-name l =
    fold put_label (labels_of l.labels.entries) (labels_of l.name-iterator) ≡ fold put_label [] (labels_of l.global.entries)

abbrev pub invariant-loop-label : goal.invariant-loop-label
invariant-loop-label l =
    fold put_label (labels_of l.labels.entries) (iter_rest l.label-iterator) ≡ label_set (labels_of l.global.entries) l.key.labels
