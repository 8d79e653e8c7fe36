use Rattle.std.proofs.Common.{rules, ◌≡◌, true, false, map, take, sym, subst}
use Rattle.page_relay.specs.Gathering.{TakesRow, TakesRows}
use Rattle.page_relay.specs.Merge.{numbered_rows}
use Rattle.page_relay.specs.Values.{row_of}
use Rattle.page_relay.proofs.Gathered.{rows_more, rows_refused}
use Rattle.page_relay.proofs.Numbering.{rows_split, rows_next}
use Rattle.page_relay.proofs.gathering.GatheredRows.add_all.Goals as goal

pub returns-then-not-branch : goal.returns-then-not-branch
returns-then-not-branch c =
    let shape = c.args.shape in
    let page = c.args.page in
    let rows = c.args.rows.now in
    let i = c.loop-row.row-index in
    let item = c.row-item.result in
    let new = c.add.new.self in
    let split = rows_split row_of page rows i item c.loop-row-test.true c.row-item.is in
    let unfit : c.in_ok-add.field-0 ≡ false = search rules in
    subst (λ l. TakesRows shape c.args.self.now new l false) (sym split.1)
    (rows_refused shape c.args.self.now c.loop-row.self new new (numbered_rows page (map row_of (take i rows))) split.0 (record { page = page; row = row_of item }) c.loop-row.invariant
    (subst (TakesRow shape c.loop-row.self new (record { page = page; row = row_of item })) unfit c.in_ok-add.ensures))

pub loop-row-preserved : goal.loop-row-preserved
loop-row-preserved c =
    let shape = c.args.shape in
    let page = c.args.page in
    let rows = c.args.rows.now in
    let i = c.loop-row.row-index in
    let item = c.row-item.result in
    let new = c.add.new.self in
    let fits : c.in_ok-add.field-0 ≡ true = search rules in
    subst (λ l. TakesRows shape c.args.self.now new l true) (sym (rows_next row_of page rows i item c.loop-row-test.true c.row-item.is))
    (rows_more shape c.args.self.now c.loop-row.self new (numbered_rows page (map row_of (take i rows))) (record { page = page; row = row_of item }) c.loop-row.invariant
    (subst (TakesRow shape c.loop-row.self new (record { page = page; row = row_of item })) fits c.in_ok-add.ensures))
