use Rattle.std.proofs.Common.{take}
use Rattle.metrics_registry.specs.KeyRuns.{RanksRise, AreUpTo}
use Rattle.metrics_registry.proofs.key_runs.greatest_of_rising.Given as goal

-- the keys so far rise up to the last
abbrev pub invariant-loop-key : goal.invariant-loop-key
invariant-loop-key l = record {
  rise : RanksRise (take l.key-index l.keys);
  all : AreUpTo l.last (take l.key-index l.keys);
}
