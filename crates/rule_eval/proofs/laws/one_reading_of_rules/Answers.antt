use Rattle.rule_eval.proofs.OneReading.{rules_same}
use Rattle.rule_eval.proofs.laws.one_reading_of_rules.Goals as goal

pub returns : goal.returns
returns c = rules_same
