use Rattle.std.proofs.Common.{◌≡◌, refl, sym, ap, subst}
use Rattle.atomic_table.proofs.Lists.{at_index, at_map}
use Rattle.std.proofs.lemmas.List.{map-set}
use Rattle.legal_history.specs.declared.history.View.{View}
use Rattle.cell_lanes.specs.Things.{TookBack}
use Rattle.cell_lanes.proofs.Rows.{thing, below, thing_is}
use Rattle.legal_history.specs.History.{taker, longer}
use mathlib.Core.List.{IsPrefix}
use Rattle.legal_history.proofs.Prefixes.{prefix_self}
use Rattle.cell_lanes.proofs.lenders.VecLenders.take_back.Goals as goal

pub take_back-requires-clause-root : goal.take_back-requires-clause-root
take_back-requires-clause-root g c =
    let items = c.args.self.now.items in
    let at = at_index items c.args.index c.index_mut.result.now (below g.S.Lender.root g.S.Lender.fixed items c.args.index c.requires.here) c.index_mut.ensures.value in
    c.requires.root (thing g.S.Lender.root g.S.Lender.fixed c.index_mut.result.now) (at_map (thing g.S.Lender.root g.S.Lender.fixed) items c.args.index c.index_mut.result.now at)

pub take_back-requires-clause-lent : goal.take_back-requires-clause-lent
take_back-requires-clause-lent g c =
    let items = c.args.self.now.items in
    let at = at_index items c.args.index c.index_mut.result.now (below g.S.Lender.root g.S.Lender.fixed items c.args.index c.requires.here) c.index_mut.ensures.value in
    c.requires.lent (thing g.S.Lender.root g.S.Lender.fixed c.index_mut.result.now) (at_map (thing g.S.Lender.root g.S.Lender.fixed) items c.args.index c.index_mut.result.now at)

-- a root that took a pass back, and no more
took : {M : Type 0} (v known w : View M) → w ≡ taker v known → TookBack v known w
took v known w is = record {
  number = ap (λ (x : View _). x.number) is;
  mine = ap (λ (x : View _). x.mine) is;
  joined = ap (λ (x : View _). x.joined) is;
  seen = subst (λ (x : View _). IsPrefix (longer v.seen known.seen) x.seen) (sym is) (prefix_self (longer v.seen known.seen));
  out = ap (λ (x : View _). x.out) is;
}

pub returns : goal.returns
returns g c =
    let items = c.args.self.now.items in
    let q = c.index_mut.result.now in
    let at = at_index items c.args.index q (below g.S.Lender.root g.S.Lender.fixed items c.args.index c.requires.here) c.index_mut.ensures.value in
    record {
      frame = refl;
      taken = λ t e. rw (← thing_is g.S.Lender.root g.S.Lender.fixed items c.args.index q t at e) (
        thing g.S.Lender.root g.S.Lender.fixed c.take_back.new.self,
        took (g.S.Lender.root q) (g.S.Lender.knows c.args.lent) (g.S.Lender.root c.take_back.new.self) c.take_back.ensures.root,
        c.take_back.ensures.fixed,
        map-set (thing g.S.Lender.root g.S.Lender.fixed) items c.args.index c.take_back.new.self,
      );
    }
