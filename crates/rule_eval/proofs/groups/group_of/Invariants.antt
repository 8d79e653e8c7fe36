use Rattle.std.proofs.Common.{◌≡◌, map, take, string_bytes}
use Rattle.rule_eval.specs.Evaluating.{group_text}
use Rattle.rule_eval.specs.Firing.{value_at}
use Rattle.page_relay.specs.Values.{row_of}
use Rattle.rule_eval.proofs.groups.group_of.Given as goal

abbrev pub invariant-loop-key : goal.invariant-loop-key
invariant-loop-key l = group_text l.group ≡ map (λ key. value_at (string_bytes key) (row_of l.row).labels) (take l.key-index l.keys)
