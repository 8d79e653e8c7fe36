use Rattle.std.proofs.Common.{◌≡◌, ◌<◌, length, ap, sym, subst, ◌∙◌}
use Rattle.flushed_cells.specs.declared.gauge_state.GaugeState.{GaugeState}
use Rattle.dsd_exporter.specs.Exporter.{Exporter}
use Rattle.dsd_exporter.specs.Flushing.{ChangesAt, TakesGauge}
use Rattle.dsd_exporter.proofs.Taken.{length-with}
use Rattle.dsd_exporter.proofs.Gauges.{flushed_gauge, gauge_room}
use Rattle.dsd_exporter.proofs.state.State.take_and_write_gauge.Goals as goal

pub write_gauge-written-requires-clause-here : goal.write_gauge-written-requires-clause-here
write_gauge-written-requires-clause-here g c =
    let taken = c.take_gauge-updates.ensures.taken in
    subst (λ (e : Exporter). c.args.place < length e.series.gauges) (sym c.keep_line.ensures)
    (subst (λ n. c.args.place < n) (sym (ap length taken.2.4 ∙ length-with c.args.self.now.series.gauges c.args.place taken.2.1)) c.requires)

pub write_gauge-written-requires-clause-room : goal.write_gauge-written-requires-clause-room
write_gauge-written-requires-clause-room g c =
    let old = c.args.self.now in
    let taken = c.take_gauge-updates.ensures.taken in
    gauge_room c.args.moment c.args.place old c.keep_line.new.self c.args.writer.now c.reserve_gauge.new.writer taken.2.1
    (ap (λ (e : Exporter). e.series.gauges) c.keep_line.ensures ∙ taken.2.4)
    (subst (λ (e : Exporter). e ≡ record old { series = record old.series { gauges = e.series.gauges } }) (sym c.keep_line.ensures) c.take_gauge-updates.ensures.others)
    c.in_ok-reserve_gauge.ensures.settings c.in_ok-reserve_gauge.ensures.room

pub returns-clause-flushed : goal.returns-clause-flushed
returns-clause-flushed g c =
    let old = c.args.self.now in
    let result = c.take_gauge-updates.result in
    let taken = subst (λ (e : Exporter). (found : GaugeState) × (result ≡ (found.value, found.updates)) × ChangesAt c.args.place (λ s t. TakesGauge s found t) old.series.gauges e.series.gauges)
    (sym c.keep_line.ensures) c.take_gauge-updates.ensures.taken in
    flushed_gauge old.settings c.args.moment c.args.place _ _ _ _ _ taken.0 result taken.1 taken.2 c.in_ok-reserve_gauge.ensures.settings c.in_ok-reserve_gauge.ensures.lines _ _
    c.write_gauge-written.result _ (ap (λ (e : Exporter). e.settings) (c.keep_line.ensures ∙ c.take_gauge-updates.ensures.others)) c.write_gauge-written.ensures c.count_number.ensures
