use Rattle.service_metrics.proofs.Recorded.{recorded, refused}
use Rattle.service_metrics.proofs.histogram.record_paged.Goals as goal

pub returns-in-Some-clause-recorded : goal.returns-in-Some-clause-recorded
returns-in-Some-clause-recorded g c = recorded _ _ _ _ _ c.in-Some.is c.record.ensures.cell c.record.ensures.call

pub returns-in-Some-clause-refused : goal.returns-in-Some-clause-refused
returns-in-Some-clause-refused g c = refused _ _ _ _ _ c.in-Some.is c.record.ensures.cell c.record.ensures.call
