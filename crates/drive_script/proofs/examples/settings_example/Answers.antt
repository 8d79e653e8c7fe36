use Rattle.drive_script.proofs.Scripts.{settings_script_of}
use Rattle.drive_script.proofs.examples.settings_example.Goals as goal

pub returns : goal.returns
returns c = settings_script_of
