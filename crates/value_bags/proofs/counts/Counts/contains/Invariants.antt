use Rattle.std.proofs.Common.{◌≡◌, map, nat_lt}
use Rattle.std.specs.Arc.{arc_value}
use Rattle.std.specs.List.{list_any}
use Rattle.value_bags.specs.Bags.{counted_times}
use Rattle.value_bags.proofs.counts.Counts.contains.Given as goal

abbrev pub invariant-loop-other : goal.invariant-loop-other
invariant-loop-other g l = list_any (g.V.PartialEq.eq l.value) (map arc_value l.other-iterator) ≡ nat_lt 0 (counted_times g.V.PartialEq.eq l.self l.value)
