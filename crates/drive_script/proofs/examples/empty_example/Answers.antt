use Rattle.drive_script.proofs.Scripts.{empty_script_of}
use Rattle.drive_script.proofs.examples.empty_example.Goals as goal

pub returns : goal.returns
returns c = empty_script_of
