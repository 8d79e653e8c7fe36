use Rattle.std.proofs.Common.{◌≡◌, map, take, string_bytes}
use Rattle.rule_eval.specs.Evaluating.{group_text}
use Rattle.rule_eval.proofs.evaluator.copy_of.Given as goal

abbrev pub invariant-loop-value : goal.invariant-loop-value
invariant-loop-value l = group_text l.copy ≡ map string_bytes (take l.value-index l.value-items)
