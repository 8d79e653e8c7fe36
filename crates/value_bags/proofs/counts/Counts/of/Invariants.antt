use Rattle.std.proofs.Common.{◌≡◌, map, take}
use Rattle.std.specs.Arc.{arc_value}
use Rattle.value_bags.specs.Bags.{counted}
use Rattle.value_bags.proofs.counts.Counts.of.Given as goal

abbrev pub invariant-loop-item : goal.invariant-loop-item
invariant-loop-item g l = l.counts ≡ counted g.V.PartialEq.eq (map arc_value (take l.item-index l.items))
