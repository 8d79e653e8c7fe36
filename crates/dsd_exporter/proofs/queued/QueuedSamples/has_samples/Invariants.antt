use Rattle.std.proofs.Common.{◌≡◌, [], take}
use Rattle.dsd_exporter.specs.Samples.{samples_in}
use Rattle.dsd_exporter.proofs.queued.QueuedSamples.has_samples.Given as goal

-- no sample so far
abbrev pub invariant-loop-entry : goal.invariant-loop-entry
invariant-loop-entry l = samples_in (take l.entry-index l.entries) ≡ []
