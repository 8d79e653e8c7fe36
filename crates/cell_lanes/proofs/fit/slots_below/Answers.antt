use Rattle.std.proofs.Common.{◌≡◌, true, false, take, [], ◌∷◌, ◌++◌, sym, ap, ◌∙◌, subst, ⊎_elim, refl}
use Rattle.std.proofs.lemmas.List.{take_more}
use mathlib.Core.Option.{some}
use lib.ListN.{get_elem?}
use Rattle.atomic_table.proofs.Lists.{at_index, at_snoc}
use Rattle.cell_lanes.specs.declared.lane.Line.{Line}
use Rattle.cell_lanes.specs.Lanes.{HasSlot, LineFit}
use Rattle.cell_lanes.proofs.Lists.{take_whole}
use Rattle.cell_lanes.proofs.fit.slots_below.Goals as goal

pub returns-then-not-has_slot : goal.returns-then-not-has_slot
returns-then-not-has_slot g c =
    let y = c.line-item.result in
    let at = at_index c.args.lines.now c.loop-line.line-index y c.loop-line-test.true c.line-item.is in
    ((λ (e : false ≡ true). absurd (cc)), λ all. let yes = c.has_slot.ensures.1 (all c.loop-line.line-index y at) in sym c.if-not-has_slot.true ∙ yes)

pub loop-line-preserved : goal.loop-line-preserved
loop-line-preserved g c =
    let y = c.line-item.result in
    let more = take_more c.args.lines.now c.loop-line.line-index y c.loop-line-test.true ∙ ap (λ z. take c.loop-line.line-index c.args.lines.now ++ z ∷ []) (sym c.line-item.is) in
    let h = c.has_slot.ensures.0 c.if-not-has_slot.false in
    λ k x e. ⊎_elim (c.loop-line.invariant k x) (λ (q : y ≡ x). subst (λ (z : Line _). HasSlot c.args.count z) q h)
    (at_snoc (take c.loop-line.line-index c.args.lines.now) y x k (subst (λ l. get_elem? l k ≡ some x) more e))

pub returns : goal.returns
returns g c = ((λ _. subst (LineFit c.args.count) (take_whole c.args.lines.now c.loop-line.line-index c.loop-line-test.false) c.loop-line.invariant), λ _. refl)
