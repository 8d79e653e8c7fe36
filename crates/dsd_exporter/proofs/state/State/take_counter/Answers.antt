use Rattle.std.proofs.Common.{refl}
use Rattle.dsd_exporter.proofs.state.State.take_counter.Goals as goal

pub returns-clause-taken : goal.returns-clause-taken
returns-clause-taken g c =
    let taken = c.take_delta.ensures in
    rw (← c.self.view_is) (taken.0, taken.1, (c.counter_at.result.now, c.take_delta.new.self, c.counter_at.ensures.value, taken.2, refl))
