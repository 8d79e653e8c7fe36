use Rattle.legal_history.proofs.Placed.{given_back}
use Rattle.legal_history.proofs.laws.given_back_places_stay.Goals as goal

pub returns : goal.returns
returns g c = given_back
