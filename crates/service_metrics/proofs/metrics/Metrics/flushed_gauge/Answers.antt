use Rattle.std.proofs.Common.{◌≡◌, [], ap, sym, subst}
use Rattle.service_metrics.proofs.Parts.{is_part}
use Rattle.service_metrics.proofs.metrics.Metrics.flushed_gauge.Goals as goal

pub returns : goal.returns
returns g c = is_part _ _ (ap (λ metrics. metrics.flushes) c.self.view_is) c.in-Some.is (subst (λ lease. lease.knows.mine ≡ []) (sym c.new.ensures) c.in_ok-lent.ensures.answer.2)
