use Rattle.std.proofs.Common.{length, sym, ap, ◌∙◌}
use Rattle.std.proofs.lemmas.Result.{IfOk-weaker}
use Rattle.prom_exporter.specs.Rows.{keys_named, keys_of}
use Rattle.prom_exporter.specs.Sampled.{calls_known}
use Rattle.prom_exporter.specs.Values.{seen_cell}
use Rattle.prom_exporter.proofs.NamedSeries.{series-many}
use Rattle.prom_exporter.proofs.Seen.{sampled_cell}
use Rattle.prom_exporter.proofs.state.PrometheusState.count_named.Goals as goal

pub returns-in-Counter-clause-count : goal.returns-in-Counter-clause-count
returns-in-Counter-clause-count c =
    rw (c.in-Counter.is, ← c.self.view_is) (IfOk-weaker c.count_named.result _ _
    (λ n is. is ∙ ap (λ live. length (keys_named c.args.name.now (keys_of live))) c.counters-series.ensures ∙ sym (series-many seen_cell c.args.name.now c.self.inside.series.counters)) c.count_named.ensures.named)

pub returns-in-Gauge-clause-count : goal.returns-in-Gauge-clause-count
returns-in-Gauge-clause-count c =
    rw (c.in-Gauge.is, ← c.self.view_is) (IfOk-weaker c.count_named-in-Gauge.result _ _
    (λ n is. is ∙ ap (λ live. length (keys_named c.args.name.now (keys_of live))) c.gauges-series.ensures ∙ sym (series-many seen_cell c.args.name.now c.self.inside.series.gauges)) c.count_named-in-Gauge.ensures.named)

pub returns-in-Histogram-clause-count : goal.returns-in-Histogram-clause-count
returns-in-Histogram-clause-count c =
    rw (c.in-Histogram.is, ← c.self.view_is) (IfOk-weaker c.count_named-in-Histogram.result _ _
    (λ n is. is ∙ ap (λ live. length (keys_named c.args.name.now (keys_of live))) c.histograms-series.ensures ∙ sym (series-many (sampled_cell calls_known) c.args.name.now c.self.inside.series.histograms)) c.count_named-in-Histogram.ensures.named)
