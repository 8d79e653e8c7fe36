use Rattle.std.proofs.Common.{take}
use Rattle.metrics_registry.specs.Reservoirs.{empty_reservoir}
use Rattle.dsd_exporter.specs.Samples.{samples_in}
use Rattle.dsd_exporter.specs.Flushing.{Offers}
use Rattle.dsd_exporter.proofs.queued.QueuedSamples.sample.Given as goal

-- the samples so far were handed over
abbrev pub invariant-loop-entry : goal.invariant-loop-entry
invariant-loop-entry g l = Offers (empty_reservoir l.size, g.W.Words.to_come l.fn.words) (samples_in (take l.entry-index l.entries)) (l.sample, g.W.Words.to_come l.words)
