use Rattle.legal_history.proofs.Placed.{call_is_last}
use Rattle.legal_history.proofs.laws.a_call_stands_last.Goals as goal

pub returns : goal.returns
returns g c = call_is_last
