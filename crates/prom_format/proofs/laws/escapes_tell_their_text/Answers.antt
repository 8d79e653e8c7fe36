use Rattle.std.proofs.Common.{true, false}
use Rattle.prom_format.proofs.EscapeLaws.{escape_injective}
use Rattle.prom_format.proofs.laws.escapes_tell_their_text.Goals as goal

pub returns-clause-label_values : goal.returns-clause-label_values
returns-clause-label_values c = escape_injective true

pub returns-clause-descriptions : goal.returns-clause-descriptions
returns-clause-descriptions c = escape_injective false
