use Rattle.legal_history.proofs.Placed.{all_places}
use Rattle.legal_history.proofs.laws.root_has_all_places.Goals as goal

pub returns : goal.returns
returns g c = all_places
