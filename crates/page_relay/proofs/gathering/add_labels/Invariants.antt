use Rattle.std.proofs.Common.{◌≡◌, ◌++◌, map, take}
use Rattle.page_relay.specs.Values.{label_of}
use Rattle.page_relay.proofs.gathering.add_labels.Given as goal

abbrev pub invariant-loop-label : goal.invariant-loop-label
invariant-loop-label l = map label_of l.labels.items ≡ map label_of l.fn.labels.items ++ map label_of (take l.label-index l.more)
