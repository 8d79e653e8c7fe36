use Rattle.std.proofs.Common.{◌<◌, length, subst}
use Rattle.dsd_exporter.specs.Samples.{samples_in}
use Rattle.dsd_exporter.proofs.Draining.{some_samples}
use Rattle.dsd_exporter.proofs.queued.QueuedSamples.has_samples.Goals as goal

pub returns-then-entry-gt0-clause-some : goal.returns-then-entry-gt0-clause-some
returns-then-entry-gt0-clause-some c =
    rw (← c.self.view_is) (subst (λ es. 0 < length (samples_in es)) c.as_slice-entries.ensures.value (some_samples c.as_slice-entries.result.now c.loop-entry.entry-index _ c.loop-entry-test.true c.if-entry-gt0.true))
