use Rattle.std.proofs.Common.{refl, subst}
use Rattle.atomic_table.proofs.Lists.{at_index, at_map}
use Rattle.legal_history.specs.History.{Settled}
use Rattle.cell_lanes.specs.Things.{Thing}
use Rattle.cell_lanes.proofs.Rows.{thing, below, thing_is, set_same}
use Rattle.cell_lanes.proofs.lenders.VecLenders.settle.Goals as goal

pub settle-requires : goal.settle-requires
settle-requires g c =
    let items = c.args.self.now.items in
    let q = c.index_mut.result.now in
    let at = at_index items c.args.index q (below g.S.Lender.root g.S.Lender.fixed items c.args.index c.requires.here) c.index_mut.ensures.value in
    c.requires.home (thing g.S.Lender.root g.S.Lender.fixed q) (at_map (thing g.S.Lender.root g.S.Lender.fixed) items c.args.index q at)

pub returns : goal.returns
returns g c =
    let items = c.args.self.now.items in
    let q = c.index_mut.result.now in
    let at = at_index items c.args.index q (below g.S.Lender.root g.S.Lender.fixed items c.args.index c.requires.here) c.index_mut.ensures.value in
    let s = c.settle.ensures in
    record {
      frame = refl;
      same = set_same g.S.Lender.root g.S.Lender.fixed items c.args.index q c.settle.new.self at s.root.0 s.fixed;
      settled = λ t e. subst (λ (x : Thing _ _). Settled x.root) (thing_is g.S.Lender.root g.S.Lender.fixed items c.args.index q t at e) s.root.1;
    }
