use Rattle.std.proofs.Common.{ap, true, false}
use Rattle.prom_format.specs.Printed.{canonical_label_value, canonical_description, escaped_label_value, escaped_description}
use Rattle.prom_format.proofs.EscapeLaws.{escape_injective}
use Rattle.prom_format.proofs.laws.printed_alike_where_meant_alike.Goals as goal

pub returns-clause-label_values : goal.returns-clause-label_values
returns-clause-label_values c = λ x y. (escape_injective true (canonical_label_value x) (canonical_label_value y), λ e. ap escaped_label_value e)

pub returns-clause-descriptions : goal.returns-clause-descriptions
returns-clause-descriptions c = λ x y. (escape_injective false (canonical_description x) (canonical_description y), λ e. ap escaped_description e)
