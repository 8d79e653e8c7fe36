use Rattle.std.proofs.Common.{ap}
use Rattle.service_metrics.proofs.Parts.{is_part, uncalled_counter}
use Rattle.service_metrics.proofs.metrics.Metrics.paged_counter.Goals as goal

pub returns : goal.returns
returns g c = is_part _ _ (ap (λ metrics. metrics.pages) c.self.view_is) c.in-Some.is (uncalled_counter c.in_ok-lent.lent c.into_handle.result c.in_ok-lent.ensures.answer c.into_handle.ensures)
