use Rattle.metrics_core.proofs.Digits.{page_number-whole}
use Rattle.prom_format.proofs.numbers.push_count.Goals as goal

pub returns-clause-number : goal.returns-clause-number
returns-clause-number c = page_number-whole c.args.count
