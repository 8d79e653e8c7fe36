use Rattle.drive_script.proofs.Scripts.{unlimited_script_of}
use Rattle.drive_script.proofs.examples.unlimited_example.Goals as goal

pub returns : goal.returns
returns c = unlimited_script_of
