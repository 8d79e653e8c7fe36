use Rattle.std.proofs.Common.{length, map}
use Rattle.rule_eval.specs.Rules.{rule_text}
use Rattle.rule_eval.proofs.RulesSoFar.{RulesSoFar}
use Rattle.rule_eval.proofs.rules.read_rules.Given as goal

abbrev pub invariant-loop-text : goal.invariant-loop-text
invariant-loop-text l = RulesSoFar l.bytes (map rule_text l.rules.items) l.rest l.line

abbrev pub decreases-loop-text : goal.decreases-loop-text
decreases-loop-text l = length l.rest
