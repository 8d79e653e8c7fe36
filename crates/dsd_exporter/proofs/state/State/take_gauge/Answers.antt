use Rattle.std.proofs.Common.{refl, sym, ◌∙◌}
use Rattle.dsd_exporter.proofs.GaugeKeys.{keys-with_cell_at}
use Rattle.dsd_exporter.proofs.state.State.take_gauge.Goals as goal

pub returns-clause-taken : goal.returns-clause-taken
returns-clause-taken g c =
    let taken = c.take_value.ensures in
    rw (← c.self.view_is) (taken.0, taken.1, (c.gauge_at.result.now, c.take_value.new.self, c.gauge_at.ensures.value, taken.2, refl))

pub invariant_of-self : goal.invariant_of-self
invariant_of-self g c = c.self.invariant ∙ sym (keys-with_cell_at c.self.inside.series.gauges c.args.place c.take_value.new.self)
