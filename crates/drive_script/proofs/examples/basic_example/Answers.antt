use Rattle.drive_script.proofs.Scripts.{basic_script_of}
use Rattle.drive_script.proofs.examples.basic_example.Goals as goal

pub returns : goal.returns
returns c = basic_script_of
