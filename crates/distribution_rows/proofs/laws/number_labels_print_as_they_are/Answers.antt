use Rattle.distribution_rows.proofs.Plain.{number-escaped}
use Rattle.distribution_rows.proofs.laws.number_labels_print_as_they_are.Goals as goal

pub returns : goal.returns
returns c = number-escaped
