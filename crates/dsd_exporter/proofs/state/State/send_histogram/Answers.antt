use Rattle.std.proofs.Common.{sym, ap, ◌∙◌}
use Rattle.std.specs.Prelude.{option_map, slice_get}
use Rattle.std.proofs.lemmas.Result.{on_ok_weaker}
use Rattle.metrics_registry.specs.Live.{LiveSeries}
use Rattle.dsd_exporter.specs.Exporter.{Queued}
use Rattle.dsd_exporter.proofs.state.State.send_histogram.Goals as goal

pub returns-clause-sent : goal.returns-clause-sent
returns-clause-sent g c =
    rw (← c.self.view_is) (on_ok_weaker c.send_samples.result (λ sent. record {
      cell = c.in-Some-cell.histogram.now;
      here = sym (c.in-Some-cell.ensures ∙ ap (λ l. option_map (λ (s : LiveSeries Queued). s.cell) (slice_get l c.args.place)) c.histograms-series.ensures);
      key = c.in-Some.key.now;
      at = sym (c.in-Some.ensures ∙ ap (λ l. option_map (λ (s : LiveSeries Queued). s.key) (slice_get l c.args.place)) c.histograms-series.ensures);
      words = sent.0;
      draws = sent.1;
      sends = sent.2;
    }) c.send_samples.ensures.sent)
