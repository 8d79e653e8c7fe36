use Rattle.std.proofs.Common.{◌≡◌, ◌≤◌, map, take, length}
use Rattle.page_relay.specs.Values.{families_of}
use Rattle.rule_eval.specs.FiringText.{count_fired, evaluated_text}
use Rattle.rule_eval.specs.Rules.{rule_text}
use Rattle.rule_eval.proofs.stream.lines_fired.Given as goal

abbrev pub invariant-loop-page : goal.invariant-loop-page
invariant-loop-page l =
    (l.evaluator ≡ record { rules = map rule_text l.fn.rules.items; pages = map families_of (take l.page-index l.pages) })
    × (l.text.items ≡ evaluated_text (map rule_text l.fn.rules.items) (map families_of (take l.page-index l.pages)))
    × (l.fired ≡ count_fired (map rule_text l.fn.rules.items) (map families_of (take l.page-index l.pages)))
    × (l.fired ≤ length l.text.items)
    × (l.number ≡ l.page-index)
