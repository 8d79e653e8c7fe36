use Rattle.bench_scripts.proofs.Validity.{settings_are_allowed}
use Rattle.bench_scripts.proofs.facts.settings_are_allowed.Goals as goal

pub returns : goal.returns
returns c = settings_are_allowed
