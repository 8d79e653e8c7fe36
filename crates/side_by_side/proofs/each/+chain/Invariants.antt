use Rattle.std.proofs.Common.{ℕ, ◌+◌, ◌*◌, length}
use Rattle.side_by_side.proofs.each.+chain.Given as goal

abbrev pub decreases-call_from : goal.decreases-call_from
decreases-call_from g l = 3 * length l.items.now

abbrev pub decreases-call_both : goal.decreases-call_both
decreases-call_both g l = 3 * length l.others.now + 2

abbrev pub decreases-call_both-rest : goal.decreases-call_both-rest
decreases-call_both-rest g l = 3 * length l.others.now + 1
