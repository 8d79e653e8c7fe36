use Rattle.std.proofs.Common.{◌≡◌, map, take}
use Rattle.metrics_registry.specs.Quantiles.{clamped}
use Rattle.prom_exporter.specs.Builder.{billionths_of}
use Rattle.prom_exporter.proofs.settings.clamped_quantiles.Given as goal

-- those so far
abbrev pub invariant-loop-value : goal.invariant-loop-value
invariant-loop-value l = l.quantiles.items ≡ map clamped (billionths_of (take l.value-index l.values))
