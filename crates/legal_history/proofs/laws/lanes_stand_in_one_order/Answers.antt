use Rattle.legal_history.proofs.Rounds.{grew}
use Rattle.legal_history.proofs.laws.lanes_stand_in_one_order.Goals as goal

pub returns : goal.returns
returns g c = λ v w news lists before after took is. grew v w news before after took lists is
