use Rattle.std.proofs.Common.{◌≡◌, ◌+◌, [], ◌∷◌, ◌++◌, map, subst, sym, ap, ◌∙◌, rules, arith}
use Rattle.std.specs.Prelude.{codes}
use Rattle.std.proofs.lemmas.List.{map_push}
use Rattle.rule_eval.specs.Rules.{rule_text, AreRules}
use Rattle.rule_eval.proofs.RulesSoFar.{RulesSoFar, none_read, one_more_rule, rules_end, bad_line, no_line, behind_within, behind_last, rest_within, place_within}
use Rattle.rule_eval.proofs.rules.read_rules.Goals as goal

pub loop-text-init : goal.loop-text-init
loop-text-init c = subst (λ rules. RulesSoFar c.args.bytes.now (map rule_text rules) c.args.bytes.now 1) (sym c.new-rules.ensures.items) (none_read c.args.bytes.now)

pub overflow_sub-result : goal.overflow_sub-result
overflow_sub-result c =
    let rest = c.loop-text.rest.now in
    behind_within rest c.in-Some.text.now c.in-Some.behind.now c.args.bytes.now c.in-Some.ensures.0 (rest_within c.args.bytes.now (map rule_text c.loop-text.rules.items) rest c.loop-text.line c.loop-text.invariant)

pub returns-then-eq-clause-rules : goal.returns-then-eq-clause-rules
returns-then-eq-clause-rules c =
    let bytes = c.args.bytes.now in
    let rules_read = map rule_text c.loop-text.rules.items in
    let rest = c.loop-text.rest.now in
    let behind = c.in-Some.behind.now in
    let last : c.in-Some.text.now ≡ codes "pages" = search rules in
    subst (AreRules bytes rules_read) (sym (behind_last bytes rules_read rest c.loop-text.line c.in-Some.text.now behind c.loop-text.invariant c.in-Some.ensures.0))
    (rules_end bytes rules_read rest c.loop-text.line c.in-Some.text.now behind c.loop-text.invariant c.in-Some.ensures.0 last)

pub returns-in_default-2-clause-refused : goal.returns-in_default-2-clause-refused
returns-in_default-2-clause-refused c =
    let other : ¬ (c.in-Some.text.now ≡ codes "pages") = search rules in
    bad_line c.args.bytes.now (map rule_text c.loop-text.rules.items) c.loop-text.rest.now c.loop-text.line c.in-Some.text.now c.in-Some.behind.now c.loop-text.invariant c.in-Some.ensures.0 c.in-Some.ensures.1 other
    (rw c.in_default-2.is at c.in_ok-rule.ensures)

pub overflow_add-line : goal.overflow_add-line
overflow_add-line c =
    let within = place_within c.args.bytes.now (map rule_text c.loop-text.rules.items) c.loop-text.rest.now c.loop-text.line c.loop-text.invariant in
    omega (arith, within)

pub loop-text-preserved : goal.loop-text-preserved
loop-text-preserved c =
    let done = map rule_text c.loop-text.rules.items in
    let pushed : map rule_text c.push.new.self.items ≡ done ++ rule_text c.in-Some-2.rule ∷ [] = ap (map rule_text) c.in_ok-push.ensures.items ∙ map_push rule_text c.loop-text.rules.items c.in-Some-2.rule in
    subst (λ read. RulesSoFar c.args.bytes.now read c.in-Some.behind.now (c.loop-text.line + 1)) (sym pushed)
    (one_more_rule c.args.bytes.now done c.loop-text.rest.now c.loop-text.line c.in-Some.text.now c.in-Some.behind.now (rule_text c.in-Some-2.rule) c.loop-text.invariant c.in-Some.ensures.0
    (rw c.in-Some-2.is at c.in_ok-rule.ensures))

pub returns-clause-refused : goal.returns-clause-refused
returns-clause-refused c = no_line c.args.bytes.now (map rule_text c.loop-text.rules.items) c.loop-text.rest.now c.loop-text.line c.loop-text.invariant c.in_default.ensures
