use Rattle.std.proofs.Common.{◌≡◌, List, [], refl}
use Rattle.std.proofs.lemmas.List.Elements.{All-nil}
use Rattle.metrics_core.specs.Keys.{LabelText}
use Rattle.metrics_registry.specs.Live.{LiveSeries}
use Rattle.prom_format.specs.LabelSets.{labels_of}
use Rattle.prom_exporter.specs.Kept.{KeepsFirst}
use Rattle.prom_exporter.specs.Rows.{RowsText}
use Rattle.prom_exporter.proofs.state.PrometheusState.new.Goals as goal

-- nothing is kept of no series
first_none : {X : Type 0} (globals : List LabelText) (live : List (LiveSeries X)) (rows : RowsText) → rows ≡ record { label_sets = []; families = [] } → KeepsFirst globals live rows
first_none globals live rows is = rw is refl

pub invariant_of-result : goal.invariant_of-result
invariant_of-result c = record {
  counters = first_none (labels_of c.args.globals.entries) c.in_ok-series.series.counters c.new.result c.new.ensures;
  gauges = first_none (labels_of c.args.globals.entries) c.in_ok-series.series.gauges c.new-2.result c.new-2.ensures;
  histograms = first_none (labels_of c.args.globals.entries) c.in_ok-series.series.histograms c.new-3.result c.new-3.ensures;
  kinds = c.in_ok-distributions.ensures;
  sampled = rw c.in_ok-series.ensures.empty (All-nil _);
}
