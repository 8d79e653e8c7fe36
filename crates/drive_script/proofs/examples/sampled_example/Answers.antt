use Rattle.drive_script.proofs.Scripts.{sampled_script_of}
use Rattle.drive_script.proofs.examples.sampled_example.Goals as goal

pub returns : goal.returns
returns c = sampled_script_of
