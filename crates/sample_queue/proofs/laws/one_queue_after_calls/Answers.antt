use Rattle.std.proofs.Common.{[], refl}
use Rattle.sample_queue.proofs.InOrder.{one_end}
use Rattle.sample_queue.proofs.laws.one_queue_after_calls.Goals as goal

pub returns : goal.returns
returns g c = λ cs items others a b. one_end [] [] cs items others refl a b
