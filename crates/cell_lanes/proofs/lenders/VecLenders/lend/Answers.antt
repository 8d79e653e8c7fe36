use Rattle.atomic_table.proofs.Lists.{at_index, at_map}
use Rattle.std.specs.Prelude.{Result, Ok, Err, IfOk, OnOk}
use Rattle.std.proofs.lemmas.Result.{IfOk-weaker, on_err_weaker}
use Rattle.std.proofs.lemmas.List.{map-set}
use Rattle.cell_lanes.proofs.Rows.{thing, below, thing_is, set_same}
use Rattle.cell_lanes.proofs.lenders.VecLenders.lend.Goals as goal

pub lend-requires : goal.lend-requires
lend-requires g c =
    let items = c.args.self.now.items in
    let at = at_index items c.args.index c.index_mut.result.now (below g.S.Lender.root g.S.Lender.fixed items c.args.index c.requires.here) c.index_mut.ensures.value in
    c.requires.root (thing g.S.Lender.root g.S.Lender.fixed c.index_mut.result.now) (at_map (thing g.S.Lender.root g.S.Lender.fixed) items c.args.index c.index_mut.result.now at)

ok_all : {T E : Type 0} (r : Result T E) (P : T → Type 0) (Q R : Type 0) → IfOk r P → OnOk r Q → OnOk r R → IfOk r (λ x. P x × (Q × R))
ok_all (Ok x) P Q R p q r = (p, (q, r))
ok_all (Err e) P Q R p q r = tt

pub returns-clause-lent : goal.returns-clause-lent
returns-clause-lent g c =
    let items = c.args.self.now.items in
    let q = c.index_mut.result.now in
    let s = c.lend.new.self in
    let at = at_index items c.args.index q (below g.S.Lender.root g.S.Lender.fixed items c.args.index c.requires.here) c.index_mut.ensures.value in
    IfOk-weaker c.lend.result _ _ (λ new all t e. rw (← thing_is g.S.Lender.root g.S.Lender.fixed items c.args.index q t at e)
    (thing g.S.Lender.root g.S.Lender.fixed s, all.1.0, all.1.1, all.0.0, all.0.1, map-set (thing g.S.Lender.root g.S.Lender.fixed) items c.args.index s))
    (ok_all c.lend.result _ _ _ c.lend.ensures.lent c.lend.ensures.root c.lend.ensures.lasts)

pub returns-clause-refused : goal.returns-clause-refused
returns-clause-refused g c =
    let items = c.args.self.now.items in
    let q = c.index_mut.result.now in
    let at = at_index items c.args.index q (below g.S.Lender.root g.S.Lender.fixed items c.args.index c.requires.here) c.index_mut.ensures.value in
    on_err_weaker c.lend.result (λ same. set_same g.S.Lender.root g.S.Lender.fixed items c.args.index q c.lend.new.self at same.0 same.1) c.lend.ensures.refused
