use Rattle.drive_script.proofs.Laws.{beginnings}
use Rattle.drive_script.proofs.facts.beginnings.Goals as goal

pub returns : goal.returns
returns c = beginnings
