use Rattle.std.proofs.Common.{◌≡◌, true, false, take, [], ◌∷◌, ◌++◌, sym, ap, ◌∙◌, subst, ⊎_elim, refl}
use Rattle.std.proofs.lemmas.List.{take_more}
use mathlib.Core.Option.{some}
use lib.ListN.{get_elem?}
use Rattle.atomic_table.proofs.Lists.{at_snoc, at_index}
use Rattle.cell_lanes.specs.Lines.{LaneText}
use Rattle.cell_lanes.specs.Lanes.{Fit, AllFit, InOrder, AllInOrder}
use Rattle.cell_lanes.proofs.Lists.{take_whole}
use Rattle.cell_lanes.proofs.fit.lanes_fit.Goals as goal

pub returns-then-not-lane_fits-clause-in_order : goal.returns-then-not-lane_fits-clause-in_order
returns-then-not-lane_fits-clause-in_order g c =
    let y = c.lane-item.result in
    let at = at_index c.args.lanes.now c.loop-lane.lane-index y c.loop-lane-test.true c.lane-item.is in
    let no = c.if-not-lane_fits.true in
    ((λ (e : false ≡ true). absurd (cc)), λ all. let yes = c.lane_fits.ensures.in_order.1 (all c.loop-lane.lane-index y at) in sym no ∙ yes)

pub loop-lane-preserved : goal.loop-lane-preserved
loop-lane-preserved g c =
    let y = c.lane-item.result in
    let more = take_more c.args.lanes.now c.loop-lane.lane-index y c.loop-lane-test.true ∙ ap (λ z. take c.loop-lane.lane-index c.args.lanes.now ++ z ∷ []) (sym c.lane-item.is) in
    let e = c.lane_fits.ensures in
    let yes = c.if-not-lane_fits.false in
    let i = c.loop-lane.invariant in
    record {
      fit = λ l x at. ⊎_elim (i.fit l x) (λ (q : y ≡ x). subst (λ (z : LaneText _). Fit c.args.count z) q (e.fit yes))
          (at_snoc (take c.loop-lane.lane-index c.args.lanes.now) y x l (subst (λ ls. get_elem? ls l ≡ some x) more at));
      in_order = λ l x at. ⊎_elim (i.in_order l x) (λ (q : y ≡ x). subst (λ (z : LaneText _). InOrder c.args.count z) q (e.in_order.0 yes))
          (at_snoc (take c.loop-lane.lane-index c.args.lanes.now) y x l (subst (λ ls. get_elem? ls l ≡ some x) more at));
    }

pub returns : goal.returns
returns g c =
    let whole = take_whole c.args.lanes.now c.loop-lane.lane-index c.loop-lane-test.false in
    let i = c.loop-lane.invariant in
    record {
      in_order = (λ _. subst (AllInOrder c.args.count) whole i.in_order, λ _. refl);
      fit = λ _. subst (AllFit c.args.count) whole i.fit;
    }
