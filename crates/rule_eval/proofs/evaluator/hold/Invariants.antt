use Rattle.std.proofs.Common.{map, option_copied}
use Rattle.rule_eval.specs.Evaluating.{runs_text}
use Rattle.rule_eval.specs.Firing.{firing_text}
use Rattle.rule_eval.specs.Rules.{rule_text}
use Rattle.rule_eval.proofs.Held.{SoFar}
use Rattle.rule_eval.proofs.evaluator.hold.Given as goal

abbrev pub invariant-loop-group : goal.invariant-loop-group
invariant-loop-group l =
    SoFar (rule_text l.rule) (runs_text (option_copied l.before)) l.number (map firing_text l.fn.firings.items)
    (map firing_text l.firings.items) l.fn.sums.entries l.group-iterator l.runs.entries
