use Rattle.std.proofs.Common.{rules, ◌≡◌, map, refl, subst}
use Rattle.std.specs.Prelude.{IfOk}
use Rattle.page_relay.specs.Gathering.{TakesRows, TakesMember}
use Rattle.page_relay.specs.Merge.{numbered_rows, rows_of}
use Rattle.page_relay.specs.Values.{family_of, row_of}
use Rattle.page_relay.proofs.Gathered.{member_step, ok_map}
use Rattle.page_relay.proofs.gathering.Gathered.add.Goals as goal

pub returns : goal.returns
returns c =
    let old = c.args.self.now in
    let type : c.args.family.now.shape ≡ old.shape = search rules in
    let taken = subst (λ l. IfOk c.add_all.result (TakesRows old.shape old.rows c.add_all.new.self (numbered_rows c.args.page (map row_of l)))) c.as_slice.ensures.value c.add_all.ensures in
    ok_map c.add_all.result
    (TakesRows old.shape old.rows c.add_all.new.self (rows_of (record { page = c.args.page; family = family_of c.args.family.now })))
    (TakesMember old (record { help = c.take_help.new.help; name = old.name; shape = old.shape; rows = c.add_all.new.self }) (record { page = c.args.page; family = family_of c.args.family.now }))
    (member_step old (record { help = c.take_help.new.help; name = old.name; shape = old.shape; rows = c.add_all.new.self }) (record { page = c.args.page; family = family_of c.args.family.now }) type refl refl c.in_ok-take_help.ensures)
    taken
