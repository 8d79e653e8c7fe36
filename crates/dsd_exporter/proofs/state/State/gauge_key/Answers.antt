use Rattle.std.proofs.Common.{ap, ◌∙◌}
use Rattle.std.specs.Prelude.{slice_get}
use Rattle.std.proofs.lemmas.Option.{slice_get-map}
use Rattle.metrics_registry.specs.Live.{LiveSeries}
use Rattle.dsd_exporter.specs.Exporter.{GaugeThing}
use Rattle.dsd_exporter.proofs.state.State.gauge_key.Goals as goal

pub returns : goal.returns
returns c =
    rw (← c.self.view_is)
    (c.get.ensures
    ∙ ap (λ keys. slice_get keys c.args.place) c.self.invariant
    ∙ slice_get-map (λ (series : LiveSeries GaugeThing). series.key) c.self.inside.series.gauges c.args.place)
