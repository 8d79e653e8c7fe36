use Rattle.std.proofs.Common.{◌≡◌, take}
use Rattle.distributions.specs.Rules.{rules_of}
use Rattle.prom_exporter.proofs.settings.copied_native_rules.Given as goal

-- those so far
abbrev pub invariant-loop-matcher : goal.invariant-loop-matcher
invariant-loop-matcher l = rules_of l.copied.items ≡ rules_of (take l.matcher-index l.rules)
