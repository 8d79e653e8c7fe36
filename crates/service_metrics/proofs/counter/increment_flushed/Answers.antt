use Rattle.service_metrics.proofs.Parts.{if_any}
use Rattle.service_metrics.proofs.counter.increment_flushed.Goals as goal

pub returns-in-Some : goal.returns-in-Some
returns-in-Some g c = if_any _ _ c.in-Some.is c.increment.ensures
