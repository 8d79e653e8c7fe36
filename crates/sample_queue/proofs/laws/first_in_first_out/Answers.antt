use Rattle.std.proofs.Common.{[]}
use Rattle.sample_queue.proofs.InOrder.{in_order}
use Rattle.sample_queue.proofs.laws.first_in_first_out.Goals as goal

pub returns : goal.returns
returns g c = λ cs items r. in_order [] cs items r
