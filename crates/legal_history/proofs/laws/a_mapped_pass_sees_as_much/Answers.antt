use Rattle.legal_history.proofs.Mapped.{sees-mapped}
use Rattle.legal_history.proofs.laws.a_mapped_pass_sees_as_much.Goals as goal

pub returns : goal.returns
returns g c = λ f v log. sees-mapped f v log
