use Rattle.rule_eval.proofs.OneReading.{bad_rules_same, bad_rule_refuses}
use Rattle.rule_eval.proofs.laws.one_first_bad_rule.Goals as goal

pub returns : goal.returns
returns c = record { same = bad_rules_same; no_rules = bad_rule_refuses }
