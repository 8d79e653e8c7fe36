use Rattle.metrics_core.specs.declared.kinds.MetricKind.TheVariants as kinds
use Rattle.prom_exporter.specs.Lending.{LendsCounter, LendsGauge, LendsHistogram}
use Rattle.prom_recorder.proofs.Agreeing.{handed_agree}
use Rattle.prom_recorder.proofs.laws.equal_keys_are_one_series.Goals as goal

pub returns-clause-counters : goal.returns-clause-counters
returns-clause-counters c = handed_agree c.numbers_are_keys.ensures.equal kinds.Counter LendsCounter

pub returns-clause-gauges : goal.returns-clause-gauges
returns-clause-gauges c = handed_agree c.numbers_are_keys.ensures.equal kinds.Gauge LendsGauge

pub returns-clause-histograms : goal.returns-clause-histograms
returns-clause-histograms c = handed_agree c.numbers_are_keys.ensures.equal kinds.Histogram LendsHistogram
