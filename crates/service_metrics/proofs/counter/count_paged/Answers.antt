use Rattle.service_metrics.proofs.Parts.{if_any}
use Rattle.service_metrics.proofs.counter.count_paged.Goals as goal

pub returns-in-Some : goal.returns-in-Some
returns-in-Some c = if_any _ _ c.in-Some.is (record { cell = c.absolute.ensures.cell; made = c.absolute.ensures.call })
