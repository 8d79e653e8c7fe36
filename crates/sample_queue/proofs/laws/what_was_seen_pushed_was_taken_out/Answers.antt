use Rattle.sample_queue.proofs.TakenAll.{taken_all, holds_none}
use Rattle.sample_queue.proofs.laws.what_was_seen_pushed_was_taken_out.Goals as goal

pub returns : goal.returns
returns g c = λ v empty. (taken_all v empty, holds_none v empty)
