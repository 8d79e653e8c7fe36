use Rattle.std.proofs.Common.{◌≡◌, drop, map}
use Rattle.std.specs.List.{list_any}
use Rattle.drive_script.specs.Settings.{rule_has_none, rule_of}
use Rattle.drive_script.proofs.settings.any_bare.Given as goal

-- those that are left tell as much as all
abbrev pub invariant-loop-rule : goal.invariant-loop-rule
invariant-loop-rule l = list_any rule_has_none (map rule_of (drop l.rule-index l.rules)) ≡ list_any rule_has_none (map rule_of l.rules)
