use Rattle.legal_history.proofs.Mapped.{grew-back}
use Rattle.legal_history.proofs.laws.a_mapped_history_grew_by_its_own_calls.Goals as goal

pub returns : goal.returns
returns g c = λ f lists before now once. grew-back f once lists before now
