use Rattle.std.proofs.Common.{◌≡◌, Some, sym, ap, subst, ◌∙◌, rules}
use Rattle.std.proofs.lemmas.Option.{IfSome_then}
use Rattle.std.specs.Prelude.{option_map, slice_get}
use Rattle.metrics_registry.specs.Live.{LiveSeries}
use Rattle.dsd_exporter.specs.Exporter.{Exporter, GaugeThing}
use Rattle.dsd_exporter.proofs.Taken.{with-same}
use Rattle.dsd_exporter.proofs.state.State.resting_gauge.Goals as goal

pub returns : goal.returns
returns c =
    let live = c.args.self.now.series.gauges in
    let cell = c.in_ok-cell.field-0.now in
    let at : option_map (λ (s : LiveSeries GaugeThing). s.cell) (slice_get live c.args.place) ≡ Some cell =
    ap (λ l. option_map (λ (s : LiveSeries GaugeThing). s.cell) (slice_get l c.args.place)) (ap (λ (e : Exporter). e.series.gauges) (sym c.self.view_is) ∙ sym c.gauges-gauges.ensures) ∙ sym c.in_ok-cell.ensures in
    IfSome_then c.resting_value.result c.resting_value.ensures (λ value rests. (rests.0, rests.1, (cell, cell, at, rests.2, sym (with-same live c.args.place cell at))))
