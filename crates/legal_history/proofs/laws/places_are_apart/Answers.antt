use Rattle.legal_history.proofs.Placed.{same_place}
use Rattle.legal_history.proofs.laws.places_are_apart.Goals as goal

pub returns : goal.returns
returns g c = λ ns ms p log. same_place ns ms 0 p log
