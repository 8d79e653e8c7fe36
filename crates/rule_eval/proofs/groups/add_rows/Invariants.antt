use Rattle.std.proofs.Common.{◌≡◌, ℕ, List, ◌++◌, map, take}
use Rattle.page_relay.specs.Values.{row_of}
use Rattle.rule_eval.specs.Evaluating.{named, rows_named}
use Rattle.rule_eval.proofs.groups.add_rows.Given as goal

abbrev pub invariant-loop-row : goal.invariant-loop-row
invariant-loop-row l = (name : List ℕ) → rows_named l.rows name ≡ rows_named l.fn.rows name ++ named name (map row_of (take l.row-index l.more))
