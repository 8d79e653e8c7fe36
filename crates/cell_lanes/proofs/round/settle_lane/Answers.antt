use Rattle.std.proofs.Common.{◌≡◌, ◌<◌, length, refl, sym, ◌∙◌, subst, arith}
use Rattle.std.specs.Prelude.{slice_index_or}
use mathlib.Core.Option.{some}
use mathlib.Core.Logic.{dite}
use native.Mathlib.Decide.{ℕ_discrete}
use lib.ListN.{get_elem?}
use Rattle.legal_history.proofs.Steps.{some_below, one_at}
use Rattle.cell_lanes.specs.Lanes.{SettledAt}
use Rattle.cell_lanes.specs.Things.{root_of}
use Rattle.cell_lanes.proofs.Lists.{at_or}
use Rattle.cell_lanes.proofs.round.settle_lane.Goals as goal

pub loop-cell-init : goal.loop-cell-init
loop-cell-init g c = record { same = refl; frame = refl; settled = λ s j lt e. absurd (omega (arith, lt)) }

pub settle-requires-clause-here : goal.settle-requires-clause-here
settle-requires-clause-here g c =
    let t = slice_index_or c.args.named.now c.loop-cell.cell-index 0 in
    subst (λ things. t < length things) (sym c.loop-cell.invariant.same) (c.requires.named c.loop-cell.cell-index t (at_or c.args.named.now c.loop-cell.cell-index 0 c.loop-cell-test.true))

pub settle-requires-clause-home : goal.settle-requires-clause-home
settle-requires-clause-home g c =
    let t = slice_index_or c.args.named.now c.loop-cell.cell-index 0 in
    λ x e.
    let here = subst (λ things. get_elem? things t ≡ some x) c.loop-cell.invariant.same e in
    (c.requires.home.0 t x here, c.requires.home.1 t x here)

pub loop-cell-preserved : goal.loop-cell-preserved
loop-cell-preserved g c =
    let i = c.loop-cell.invariant in
    let t = slice_index_or c.args.named.now c.loop-cell.cell-index 0 in
    let at = at_or c.args.named.now c.loop-cell.cell-index 0 c.loop-cell-test.true in
    let things = g.S.Lenders.things c.args.shared.now in
    record {
      same = c.settle.ensures.same ∙ i.same;
      frame = c.settle.ensures.frame ∙ i.frame;
      settled = λ s j lt e. dite (ℕ_discrete s c.loop-cell.cell-index)
          (λ (here : s ≡ c.loop-cell.cell-index).
          let is : t ≡ j = one_at c.args.named.now c.loop-cell.cell-index t j at (subst (λ n. get_elem? c.args.named.now n ≡ some j) here e) in
          subst (SettledAt root_of things) is (subst (λ ts. SettledAt root_of ts t) i.same c.settle.ensures.settled))
          (λ (ne : ¬ (s ≡ c.loop-cell.cell-index)). i.settled s j (omega arith) e);
    }

pub returns-clause-settled : goal.returns-clause-settled
returns-clause-settled g c = λ s j e. c.loop-cell.invariant.settled s j (let b = some_below c.args.named.now s j e in let f = c.loop-cell-test.false in omega arith) e
