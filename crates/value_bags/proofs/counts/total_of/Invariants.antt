use Rattle.std.proofs.Common.{◌≡◌, ◌+◌, sum}
use Rattle.indexmap.specs.IndexMap.{values}
use Rattle.value_bags.proofs.counts.total_of.Given as goal

abbrev pub invariant-loop-count : goal.invariant-loop-count
invariant-loop-count g l = l.all + sum l.count-iterator ≡ sum (values l.counts)
