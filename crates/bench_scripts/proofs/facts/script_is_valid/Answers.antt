use Rattle.bench_scripts.proofs.Validity.{script_is_valid}
use Rattle.bench_scripts.proofs.facts.script_is_valid.Goals as goal

pub returns : goal.returns
returns c = script_is_valid
