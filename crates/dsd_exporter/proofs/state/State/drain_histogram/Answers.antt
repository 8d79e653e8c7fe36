use Rattle.std.proofs.Common.{refl}
use Rattle.std.proofs.lemmas.Result.{on_ok_weaker}
use Rattle.dsd_exporter.proofs.state.State.drain_histogram.Goals as goal

pub returns-clause-drains : goal.returns-clause-drains
returns-clause-drains g c = rw (← c.self.view_is) (c.histogram_at.result.now, c.drain.new.self, c.histogram_at.ensures.value, c.drain.ensures.drains, refl)

pub returns-clause-empty : goal.returns-clause-empty
returns-clause-empty g c =
    rw (← c.self.view_is) (on_ok_weaker c.drain.result (λ empty. (c.histogram_at.result.now, c.drain.new.self, c.histogram_at.ensures.value, (c.drain.ensures.drains, empty), refl)) c.drain.ensures.empty)
