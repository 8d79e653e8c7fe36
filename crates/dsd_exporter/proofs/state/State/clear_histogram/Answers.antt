use Rattle.std.proofs.Common.{refl}
use Rattle.dsd_exporter.proofs.state.State.clear_histogram.Goals as goal

pub returns-clause-cleared : goal.returns-clause-cleared
returns-clause-cleared c = rw (← c.self.view_is) (c.histogram_at.result.now, c.clear.new.self, c.histogram_at.ensures.value, c.clear.ensures, refl)
