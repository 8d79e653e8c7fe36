use Rattle.std.proofs.Common.{◌≡◌, ◌+◌, [], ◌∷◌, ◌++◌, map, refl, sym, ap, ◌∙◌, inr}
use Rattle.std.proofs.lemmas.List.{map_push}
use Rattle.std.proofs.lemmas.Result.{err_from_is_err_and}
use Rattle.metrics_core.specs.declared.kinds.MetricKind.TheVariants.{Histogram}
use Rattle.prom_format.specs.LabelSets.{labels_of}
use Rattle.metrics_registry.specs.Live.{LiveSeries}
use Rattle.distributions.specs.Kinds.{DistributionKind}
use Rattle.prom_format.specs.Names.{sanitized_metric_name}
use Rattle.prom_exporter.specs.Families.{distribution_of}
use Rattle.prom_exporter.specs.Builder.{with_globals}
use Rattle.prom_exporter.specs.contracts.state.PrometheusState.{the_view}
use Rattle.prom_exporter.proofs.Upkeep.{made_by, kept-added}
use Rattle.prom_exporter.proofs.Home.{adds_histogram-home, histogram_added}
use Rattle.prom_exporter.specs.Values.{series_of, sampled_series, seen_registry, state_seen}
use Rattle.prom_exporter.specs.Sampled.{Sampled, calls_known, unsampled}
use Rattle.prom_exporter.proofs.Given.{histogram_absent}
use Rattle.prom_exporter.proofs.Seen.{id_of_key-sampled, is_numbered-seen}
use Rattle.prom_exporter.proofs.States.{with_series-live, id-live, number-new, with_series-new, put_rest}
use Rattle.prom_exporter.proofs.state.PrometheusState.put_histogram.Goals as goal

pub returns-in-Some-clause-registered : goal.returns-in-Some-clause-registered
returns-in-Some-clause-registered c =
    let series = c.self.inside.series in
    let found = id_of_key-sampled calls_known c.args.key series.histograms ∙ sym c.in-Some.ensures in
    rw (← c.self.view_is) (put_rest Histogram c.args.key (the_view c.self.inside) (state_seen series) (state_seen series) (sym (with_series-live Histogram c.args.key (seen_registry calls_known series) c.in-Some.id found)))

pub returns-in-Some-clause-id : goal.returns-in-Some-clause-id
returns-in-Some-clause-id c =
    let series = c.self.inside.series in
    let found = id_of_key-sampled calls_known c.args.key series.histograms ∙ sym c.in-Some.ensures in
    rw (← c.self.view_is) (id-live Histogram c.args.key (seen_registry calls_known series) series.made c.in-Some.id (is_numbered-seen calls_known series c.made-number.ensures.numbered).histograms.1 found)

pub returns-then-number-clause-id : goal.returns-then-number-clause-id
returns-then-number-clause-id c =
    let series = c.self.inside.series in
    let none = id_of_key-sampled calls_known c.args.key series.histograms ∙ sym c.in_default.ensures in
    rw (← c.self.view_is) (ap (λ n. record { kind = Histogram; number = n }) (c.made-number.ensures.made ∙ sym (number-new Histogram c.args.key (seen_registry calls_known series) none)))

pub returns-clause-registered : goal.returns-clause-registered
returns-clause-registered c =
    let series = c.self.inside.series in
    let key = c.args.key in
    let none = id_of_key-sampled calls_known key series.histograms ∙ sym c.in_default.ensures in
    let kind : DistributionKind = distribution_of (with_globals c.self.inside.settings (labels_of c.self.inside.globals.entries)) (sanitized_metric_name key.name) in
    let new : LiveSeries Sampled = record { id = record { kind = Histogram; number = series.made }; key = key; cell = unsampled kind c.in_ok-cell.cell.series.cell } in
    let fresh = made_by c.args.self.now (the_view c.self.inside) c.in_ok-cell.cell (sanitized_metric_name c.args.key.name) c.self.view_is c.in_ok-cell.ensures in
    let grown : state_seen c.add_histogram.new.self ≡ state_seen (record series { histograms = series.histograms ++ new ∷ []; made = series.made + 1 }) =
    ap state_seen (c.in-Ok.ensures.added ∙ (λ j. record series { histograms = series.histograms ++ record { id = c.in-Ok.ensures.id j; key = key; cell = fresh j } ∷ []; made = series.made + 1 })) in
    let pushed = ap (λ l. record (state_seen series) { histograms = l; made = series.made + 1 }) (ap (map series_of) (map_push (sampled_series calls_known) series.histograms new) ∙ map_push series_of (map (sampled_series calls_known) series.histograms) (sampled_series calls_known new)) in
    let room = with_series-new Histogram key (seen_registry calls_known series) none (λ full. c.if-number.false (c.made-number.ensures.made ∙ full)) in
    rw (← c.self.view_is) (put_rest Histogram key (the_view c.self.inside) (state_seen series) (state_seen c.add_histogram.new.self) (grown ∙ pushed ∙ sym room))

pub returns-clause-id : goal.returns-clause-id
returns-clause-id c =
    let series = c.self.inside.series in
    let none = id_of_key-sampled calls_known c.args.key series.histograms ∙ sym c.in_default.ensures in
    rw (← c.self.view_is) (c.in-Ok.ensures.id ∙ ap (λ n. record { kind = Histogram; number = n }) (sym (number-new Histogram c.args.key (seen_registry calls_known series) none)))

pub returns-clause-cells : goal.returns-clause-cells
returns-clause-cells c = rw (← c.self.view_is) (inr (histogram_added (the_view c.self.inside) c.add_histogram.new.self c.args.key c.in-Ok.id c.in_ok-cell.cell c.in-Ok.ensures.added c.in-Ok.ensures.id (made_by c.args.self.now (the_view c.self.inside) c.in_ok-cell.cell (sanitized_metric_name c.args.key.name) c.self.view_is c.in_ok-cell.ensures)))

pub returns-clause-home : goal.returns-clause-home
returns-clause-home c = rw (← c.self.view_is) (adds_histogram-home c.args.key (the_view c.self.inside) (record (the_view c.self.inside) { series = c.add_histogram.new.self }) (histogram_added (the_view c.self.inside) c.add_histogram.new.self c.args.key c.in-Ok.id c.in_ok-cell.cell c.in-Ok.ensures.added c.in-Ok.ensures.id (made_by c.args.self.now (the_view c.self.inside) c.in_ok-cell.cell (sanitized_metric_name c.args.key.name) c.self.view_is c.in_ok-cell.ensures)))

pub returns-in_default-add_histogram-clause-home : goal.returns-in_default-add_histogram-clause-home
returns-in_default-add_histogram-clause-home c = rw (c.in_default-add_histogram.ensures.refused, ← c.self.view_is) (λ home. home)

pub invariant_of-self : goal.invariant_of-self
invariant_of-self c = rw c.in_default-add_histogram.ensures.refused c.self.invariant

pub invariant_of-self-2 : goal.invariant_of-self-2
invariant_of-self-2 c =
    kept-added _ _ c.self.inside.series _ _ _ c.self.invariant c.add_histogram.new.self c.in-Ok.id c.args.key c.in_ok-cell.cell c.in-Ok.ensures.added (ap (λ (s : Sampled). s.series.kind) (made_by c.args.self.now (the_view c.self.inside) c.in_ok-cell.cell (sanitized_metric_name c.args.key.name) c.self.view_is c.in_ok-cell.ensures))

pub returns-in_err-cell-clause-absent : goal.returns-in_err-cell-clause-absent
returns-in_err-cell-clause-absent c =
    let refusal = err_from_is_err_and c.from_residual.result c.from_residual.ensures.1 in
    rw (refusal.1, ← c.self.view_is) (histogram_absent c.args.key c.self.inside.series (sym c.in_default.ensures))

pub returns-in_default-add_histogram-clause-absent : goal.returns-in_default-add_histogram-clause-absent
returns-in_default-add_histogram-clause-absent c =
    rw (← c.self.view_is) (histogram_absent c.args.key c.self.inside.series (sym c.in_default.ensures))
