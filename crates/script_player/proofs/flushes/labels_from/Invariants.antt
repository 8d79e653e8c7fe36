use Rattle.std.proofs.Common.{◌≡◌, ◌++◌}
use Rattle.std.specs.Vec.Iter.{into_iter_items}
use Rattle.prom_format.specs.LabelSets.{labels_of}
use Rattle.script_player.proofs.flushes.labels_from.Given as goal

abbrev pub invariant-loop-key : goal.invariant-loop-key
invariant-loop-key l = l.labels.items ++ labels_of (into_iter_items l.key-iterator) ≡ labels_of l.fn.texts.items
