use Rattle.std.proofs.Common.{refl, sym, ap, inr}
use Rattle.prom_exporter.specs.Sampled.{Sampled}
use Rattle.prom_exporter.proofs.Upkeep.{kept-with_cell}
use Rattle.prom_exporter.proofs.state.PrometheusState.give_back_histogram.Goals as goal

pub returns-in-Some : goal.returns-in-Some
returns-in-Some c = record { taken = rw (← c.self.view_is) (inr (c.in-Some.histogram.now, c.take_back.new.self, sym c.in-Some.ensures.value, c.take_back.ensures, refl)) }

pub invariant_of-self : goal.invariant_of-self
invariant_of-self c =
    kept-with_cell _ _ c.self.inside.series _ _ _ c.self.invariant _ c.in-Some.histogram.now c.take_back.new.self c.in-Some.ensures.numbered (sym c.in-Some.ensures.value)
    (ap (λ (s : Sampled). s.series.kind) c.take_back.ensures)
