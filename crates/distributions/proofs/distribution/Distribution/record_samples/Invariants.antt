use Rattle.std.proofs.Common.{take}
use Rattle.std.specs.List.{FoldsTo}
use Rattle.distributions.specs.Recording.{Records, StandsForMore, samples_of}
use Rattle.distributions.proofs.distribution.Distribution.record_samples.Given as goal

-- the samples so far are recorded, and stood for
abbrev pub invariant-loop-done : goal.invariant-loop-done
invariant-loop-done l =
    FoldsTo Records l.fn.self (samples_of (take l.done l.samples)) l.self × StandsForMore l.fn.self (samples_of (take l.done l.samples)) l.self
