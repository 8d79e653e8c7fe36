use Rattle.std.proofs.Common.{◌≡◌, take}
use Rattle.dsd_exporter.specs.Samples.{samples_in}
use Rattle.dsd_exporter.proofs.queued.QueuedSamples.samples.Given as goal

-- the samples so far
abbrev pub invariant-loop-entry : goal.invariant-loop-entry
invariant-loop-entry l = l.samples.items ≡ samples_in (take l.entry-index l.entries)
