use Rattle.std.proofs.Common.{map, take, sym, ap, ◌++◌, ◌∙◌}
use Rattle.page_relay.specs.Values.{family_of, row_of}
use Rattle.rule_eval.specs.Evaluating.{named, rows_with}
use Rattle.rule_eval.proofs.Rows.{named_family}
use Rattle.rule_eval.proofs.groups.rows_by_name.Goals as goal

pub loop-family-preserved : goal.loop-family-preserved
loop-family-preserved c = λ name.
    let families = c.deref-family-items.result.now in
    let i = c.loop-family.family-index in
    let family = c.family-item.result in
    c.in_ok-add_rows.ensures name
    ∙ ap (λ l. l ++ named name (map row_of c.as_slice.result.now)) (c.loop-family.invariant name)
    ∙ ap (λ rows. rows_with name (map family_of (take i families)) ++ named name (map row_of rows)) c.as_slice.ensures.value
    ∙ sym (named_family families i family name c.loop-family-test.true c.family-item.is)
