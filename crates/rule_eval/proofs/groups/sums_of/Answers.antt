use Rattle.std.proofs.Common.{◌≡◌, map, take, pos, string_bytes, unwrap_or, ap, sym, ◌∙◌}
use Rattle.page_relay.specs.Values.{row_of}
use Rattle.rule_eval.specs.Evaluating.{group_text, rows_at, sums_of}
use Rattle.rule_eval.specs.Firing.{group_of, value_at}
use Rattle.rule_eval.specs.Rules.{rule_text}
use Rattle.rule_eval.proofs.Rows.{mapped_twice, rows_at_more}
use Rattle.rule_eval.proofs.Sums.{sums_step}
use Rattle.rule_eval.proofs.groups.sums_of.Goals as goal

pub loop-row-preserved : goal.loop-row-preserved
loop-row-preserved c =
    let rule = rule_text c.args.rule.now in
    let rows = c.args.rows.now in
    let i = c.loop-row.row-index in
    let row = row_of c.row-item.result.now in
    let group : group_text c.in_ok-group.group ≡ group_of rule row =
    c.in_ok-group.ensures
    ∙ ap (map (λ key. value_at (string_bytes key) row.labels)) c.as_slice.ensures.value
    ∙ mapped_twice (λ key. value_at key row.labels) string_bytes c.args.rule.now.keys.items in
    let found = c.unwrap_or-sum.ensures ∙ ap (λ o. unwrap_or o (pos 0)) (c.copied.ensures ∙ c.get.ensures.value) in
    sums_step rule (rows_at (take i rows)) row c.loop-row.sums.entries c.insert.new.self.entries c.in_ok-group.group c.unwrap_or-sum.result
    c.loop-row.invariant group found c.in_ok-insert.ensures.entries
    ∙ ap (sums_of rule) (sym (rows_at_more rows i c.row-item.result c.loop-row-test.true c.row-item.is))
