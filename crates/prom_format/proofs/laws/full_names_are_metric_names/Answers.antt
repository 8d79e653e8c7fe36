use Rattle.prom_format.proofs.NameLaws.{full_name-is_name}
use Rattle.prom_format.proofs.laws.full_names_are_metric_names.Goals as goal

pub returns-clause-full : goal.returns-clause-full
returns-clause-full c = full_name-is_name
