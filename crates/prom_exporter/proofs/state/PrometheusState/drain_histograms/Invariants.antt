use Rattle.std.proofs.Common.{◌≡◌}
use Rattle.prom_exporter.proofs.Drained.{DrainedTo}
use Rattle.prom_exporter.proofs.state.PrometheusState.drain_histograms.Given as goal

-- the first so many were drained whole, and nothing else changed
abbrev pub invariant-loop-place : goal.invariant-loop-place
invariant-loop-place g l = record {
  drained : DrainedTo l.place l.initial.self-inside.series.histograms l.self-inside.series.histograms;
  others : l.self-inside ≡ record l.initial.self-inside { series = record l.initial.self-inside.series { histograms = l.self-inside.series.histograms } };
}
