use Rattle.std.proofs.Common.{refl, sym, subst, inr, ◌∙◌}
use Rattle.dsd_exporter.specs.Lending.{LentGauge}
use Rattle.dsd_exporter.proofs.GaugeKeys.{keys-with_cell}
use Rattle.dsd_exporter.proofs.state.State.give_back_gauge.Goals as goal

pub take_pass-requires-clause-pass : goal.take_pass-requires-clause-pass
take_pass-requires-clause-pass c κs =
    let lent = subst (λ e. LentGauge e c.args.lent) (sym c.self.view_is) c.requires.lent in
    lent c.in-Some.gauge.now (sym c.in-Some.ensures.value)

pub returns-in-Some : goal.returns-in-Some
returns-in-Some c = record { taken = rw (← c.self.view_is) (inr (c.in-Some.gauge.now, c.take_pass.new.self, sym c.in-Some.ensures.value, c.take_pass.ensures, refl)) }

pub invariant_of-self : goal.invariant_of-self
invariant_of-self c = c.self.invariant ∙ sym (keys-with_cell _ c.self.inside.series.gauges _)
