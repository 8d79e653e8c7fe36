use Rattle.std.proofs.Common.{◌≡◌, take, reverse}
use Rattle.evmap_core.proofs.random.reversed.Given as goal

abbrev pub invariant-loop-number : goal.invariant-loop-number
invariant-loop-number l = l.list ≡ reverse (take l.number-index l.numbers)
