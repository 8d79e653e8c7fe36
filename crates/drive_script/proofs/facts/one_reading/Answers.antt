use Rattle.drive_script.proofs.Laws.{one_reading}
use Rattle.drive_script.proofs.facts.one_reading.Goals as goal

pub returns : goal.returns
returns c = one_reading
