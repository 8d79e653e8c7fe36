use Rattle.legal_history.proofs.Placed.{came_back}
use Rattle.legal_history.proofs.laws.what_came_back_was_seen.Goals as goal

pub returns : goal.returns
returns g c = came_back
