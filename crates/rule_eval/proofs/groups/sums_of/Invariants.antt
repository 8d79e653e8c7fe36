use Rattle.std.proofs.Common.{◌≡◌, take}
use Rattle.rule_eval.specs.Evaluating.{entries_text, rows_at, sums_of}
use Rattle.rule_eval.specs.Rules.{rule_text}
use Rattle.rule_eval.proofs.groups.sums_of.Given as goal

abbrev pub invariant-loop-row : goal.invariant-loop-row
invariant-loop-row l = entries_text l.sums.entries ≡ sums_of (rule_text l.rule) (rows_at (take l.row-index l.rows))
