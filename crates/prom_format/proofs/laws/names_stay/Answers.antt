use Rattle.prom_format.proofs.NameLaws.{sanitized_metric_name-of_name, sanitized_label_name-of_name}
use Rattle.prom_format.proofs.laws.names_stay.Goals as goal

pub returns-clause-metric : goal.returns-clause-metric
returns-clause-metric c = sanitized_metric_name-of_name

pub returns-clause-label : goal.returns-clause-label
returns-clause-label c = sanitized_label_name-of_name
