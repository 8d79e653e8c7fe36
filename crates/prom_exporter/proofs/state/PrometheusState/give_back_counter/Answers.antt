use Rattle.std.proofs.Common.{refl, sym, subst, inr}
use Rattle.prom_exporter.specs.Lending.{LentCounter}
use Rattle.prom_exporter.proofs.KeptRows.{keys-with_cell, kept_same}
use Rattle.prom_exporter.proofs.state.PrometheusState.give_back_counter.Goals as goal

pub take_back-requires-after_bounds : goal.take_back-requires-after_bounds
take_back-requires-after_bounds c κs =
    let lent = subst (λ e. LentCounter e c.args.lent) (sym c.self.view_is) c.requires.lent in
    lent c.in-Some.counter.now (sym c.in-Some.ensures.value)

pub returns-in-Some : goal.returns-in-Some
returns-in-Some c = record { taken = rw (← c.self.view_is) (inr (c.in-Some.counter.now, c.take_back.new.self, sym c.in-Some.ensures.value, c.take_back.ensures, refl)) }

pub invariant_of-self : goal.invariant_of-self
invariant_of-self c = kept_same _ _ c.self.inside.series _ _ _ _ c.self.invariant (keys-with_cell _ c.self.inside.series.counters _) refl refl c.self.invariant.sampled
