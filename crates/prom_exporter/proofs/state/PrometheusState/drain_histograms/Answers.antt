use Rattle.std.proofs.Common.{ap, arith}
use Rattle.std.proofs.lemmas.Result.{err_from_is_err_and}
use Rattle.metrics_registry.specs.Places.{with_cell_at}
use Rattle.prom_exporter.specs.declared.state.PrometheusState.TheInside.{Inside}
use Rattle.prom_exporter.specs.Stepped.{DrainsInPart, DrainsWhole}
use Rattle.prom_exporter.proofs.Drained.{drained_to-many, drained_to-parts, drained_to-part, drained_to-next, drained_to-all}
use Rattle.prom_exporter.proofs.Upkeep.{with_histograms, upkeep_kept, upkeep_each}
use Rattle.prom_exporter.proofs.state.PrometheusState.drain_histograms.Goals as goal

pub histogram_at-requires : goal.histogram_at-requires
histogram_at-requires g c =
    (let many = drained_to-many c.loop-place.place c.self.inside.series.histograms c.loop-place.self-inside.series.histograms c.loop-place.invariant.drained in
    let within = c.loop-place-test.true in
    omega (arith, many, within, c.histogram_count-place-end.ensures))

pub invariant_of-self : goal.invariant_of-self
invariant_of-self g c = upkeep_kept c.self.inside c.loop-place.self-inside _ c.loop-place.invariant.others (drained_to-parts c.loop-place.place _ _ c.loop-place.invariant.drained) c.self.invariant

pub invariant_of-self-in_err-drain : goal.invariant_of-self-in_err-drain
invariant_of-self-in_err-drain g c =
    let live = c.loop-place.self-inside.series.histograms in
    upkeep_kept c.self.inside _ _ (ap (λ (i : Inside). with_histograms i (with_cell_at live c.loop-place.place c.drain.new.self)) c.loop-place.invariant.others)
    (drained_to-part c.loop-place.place _ live c.histogram_at.result.now c.drain.new.self c.loop-place.invariant.drained c.histogram_at.ensures.value c.in_err-drain.ensures.in_part) c.self.invariant

pub returns-in_err-drain-clause-refused : goal.returns-in_err-drain-clause-refused
returns-in_err-drain-clause-refused g c =
    let refusal = err_from_is_err_and c.from_residual.result c.from_residual.ensures.1 in
    let live = c.loop-place.self-inside.series.histograms in
    rw refusal.1 (upkeep_each DrainsInPart c.args.self.now c.self.inside _ _ c.self.view_is
    (ap (λ (i : Inside). with_histograms i (with_cell_at live c.loop-place.place c.drain.new.self)) c.loop-place.invariant.others)
    (drained_to-part c.loop-place.place _ live c.histogram_at.result.now c.drain.new.self c.loop-place.invariant.drained c.histogram_at.ensures.value c.in_err-drain.ensures.in_part))

pub loop-place-preserved : goal.loop-place-preserved
loop-place-preserved g c =
    let live = c.loop-place.self-inside.series.histograms in
    record {
      drained = drained_to-next c.loop-place.place _ live c.histogram_at.result.now c.drain.new.self c.loop-place.invariant.drained c.histogram_at.ensures.value c.in_ok-drain.ensures.whole;
      others = ap (λ (i : Inside). with_histograms i (with_cell_at live c.loop-place.place c.drain.new.self)) c.loop-place.invariant.others;
    }

pub returns-clause-drained : goal.returns-clause-drained
returns-clause-drained g c =
    (let past = c.loop-place-test.false in
    let most = c.loop-place.auto.place-end in
    upkeep_each DrainsWhole c.args.self.now c.self.inside c.loop-place.self-inside _ c.self.view_is c.loop-place.invariant.others
    (drained_to-all c.loop-place.place _ _ (omega (arith, past, most, c.histogram_count-place-end.ensures)) c.loop-place.invariant.drained))
