use Rattle.std.proofs.Common.{◌≡◌, ℕ, List, map, take}
use Rattle.page_relay.specs.Values.{family_of}
use Rattle.rule_eval.specs.Evaluating.{rows_named, rows_with}
use Rattle.rule_eval.proofs.groups.rows_by_name.Given as goal

abbrev pub invariant-loop-family : goal.invariant-loop-family
invariant-loop-family l = (name : List ℕ) → rows_named l.rows name ≡ rows_with name (map family_of (take l.family-index l.family-items))
