use Rattle.std.proofs.Common.{◌≡◌, length, map, take}
use Rattle.page_relay.specs.Values.{families_of}
use Rattle.rule_eval.specs.Evaluating.{AllGoOn, fired_from}
use Rattle.rule_eval.specs.Firing.{firing_text}
use Rattle.rule_eval.specs.Rules.{rule_text}
use Rattle.rule_eval.proofs.evaluator.hold_all.Given as goal

abbrev pub invariant-loop-rule : goal.invariant-loop-rule
invariant-loop-rule l =
    (l.number ≡ l.rule-index)
    × (length l.runs.items ≡ l.rule-index)
    × AllGoOn (map rule_text (take l.rule-index l.rules)) l.before (families_of l.page) l.runs.items
    × (map firing_text l.firings.items ≡ fired_from 0 (map rule_text (take l.rule-index l.rules)) l.before (families_of l.page))
