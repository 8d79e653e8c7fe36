use Rattle.evmap_core.proofs.Removals.{marked-go}
use Rattle.evmap_core.proofs.laws.marked_keys_go.Goals as goal

pub returns : goal.returns
returns g c = marked-go
