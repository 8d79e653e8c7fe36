use Rattle.std.proofs.Common.{refl}
use Rattle.rule_eval.specs.Evaluating.{rows_named}
use Rattle.rule_eval.proofs.Rows.{named_more}
use Rattle.rule_eval.proofs.groups.add_rows.Goals as goal

pub loop-row-preserved : goal.loop-row-preserved
loop-row-preserved c = λ name.
    named_more c.loop-row.rows c.add_row.new.rows c.args.more.now c.loop-row.row-index c.row-item.result _ (rows_named c.args.rows.now name) name
    c.loop-row-test.true c.row-item.is refl (c.loop-row.invariant name) (c.in_ok-add_row.ensures name)
