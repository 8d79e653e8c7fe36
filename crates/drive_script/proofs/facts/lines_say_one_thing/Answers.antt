use Rattle.drive_script.proofs.Forms.{one_reading}
use Rattle.drive_script.proofs.facts.lines_say_one_thing.Goals as goal

pub returns : goal.returns
returns c = one_reading
