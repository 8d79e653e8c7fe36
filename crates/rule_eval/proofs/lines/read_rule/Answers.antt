use Rattle.std.proofs.Common.{◌≡◌, Some, None, rules}
use Rattle.rule_eval.specs.Rules.{rule_text}
use Rattle.rule_eval.specs.Reading.{rule_at}
use Rattle.rule_eval.proofs.RuleForm.{rule_takes, no_rule}
use Rattle.rule_eval.proofs.lines.read_rule.Goals as goal

pub returns-then-is_none : goal.returns-then-is_none
unfolding rule_at
returns-then-is_none c = let none : rule_at c.args.text.now ≡ None = search rules in no_rule c.args.text.now none

pub returns-in_default : goal.returns-in_default
unfolding rule_at
returns-in_default c = let none : rule_at c.args.text.now ≡ None = search rules in no_rule c.args.text.now none

pub returns-in_default-2 : goal.returns-in_default-2
unfolding rule_at
returns-in_default-2 c = let none : rule_at c.args.text.now ≡ None = search rules in no_rule c.args.text.now none

pub returns-in_default-3 : goal.returns-in_default-3
unfolding rule_at
returns-in_default-3 c = let none : rule_at c.args.text.now ≡ None = search rules in no_rule c.args.text.now none

pub returns-in_default-condition : goal.returns-in_default-condition
unfolding rule_at
returns-in_default-condition c = let none : rule_at c.args.text.now ≡ None = search rules in no_rule c.args.text.now none

pub returns-then-is_none-2 : goal.returns-then-is_none-2
unfolding rule_at
returns-then-is_none-2 c = let none : rule_at c.args.text.now ≡ None = search rules in no_rule c.args.text.now none

pub returns : goal.returns
unfolding rule_at
returns c =
    let rule = rule_text (record { title = c.in_ok-into_owned.field-0; name = c.in-Some-2.name; keys = c.in-Some-3.keys; over = c.in-Some-condition.over; bound = c.in-Some-condition.bound; pages = c.in-Some-condition.pages }) in
    let read : rule_at c.args.text.now ≡ Some rule = search rules in
    rule_takes c.args.text.now rule read
