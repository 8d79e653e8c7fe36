use Rattle.std.proofs.Common.{◌≡◌, map, take}
use Rattle.prom_exporter.specs.Builder.{rule_text}
use Rattle.prom_exporter.proofs.settings.copied_rules.Given as goal

-- those so far
abbrev pub invariant-loop-matcher : goal.invariant-loop-matcher
invariant-loop-matcher l = map rule_text l.copied.items ≡ map rule_text (take l.matcher-index l.rules)
