use Rattle.std.proofs.Common.{◌≡◌, ◌-◌, ◌<◌, length, take}
use Rattle.metrics_registry.proofs.numbered_keys.NumberedKeys.truncate.Given as goal

-- as many keys as turns so far are gone from the end; there is no turn where there are fewer keys
abbrev pub invariant-loop : goal.invariant-loop
invariant-loop l = (l.self.keys ≡ take (length l.initial.self.keys - (l.counter - l.count)) l.initial.self.keys) × (l.end < l.count → l.counter ≡ l.count)
