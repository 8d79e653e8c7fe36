use Rattle.std.proofs.Common.{◌≡◌, ◌<◌, length, refl, sym, ap, ◌∙◌, subst, arith}
use mathlib.Core.Option.{some}
use mathlib.Core.Logic.{dite}
use native.Mathlib.Decide.{ℕ_discrete}
use lib.ListN.{get_elem?}
use Rattle.atomic_table.proofs.Lists.{at_index}
use Rattle.legal_history.proofs.Steps.{some_below, one_at}
use Rattle.cell_lanes.specs.Lines.{LaneText}
use Rattle.cell_lanes.specs.Lanes.{Home, Roots, SettledAt}
use Rattle.cell_lanes.specs.Things.{root_of}
use Rattle.cell_lanes.proofs.round.settle_named.Goals as goal

pub loop-lane-init : goal.loop-lane-init
loop-lane-init g c = record { same = refl; frame = refl; settled = λ i s j a lt e f. absurd (omega (arith, lt)) }

pub settle_lane-requires-clause-home : goal.settle_lane-requires-clause-home
settle_lane-requires-clause-home g c κs within = subst (λ things. Roots root_of things × Home root_of things) (sym c.loop-lane.invariant.same) c.requires.home

pub settle_lane-requires-clause-named : goal.settle_lane-requires-clause-named
settle_lane-requires-clause-named g c κs within =
    let a = c.lane-item.result in
    let at = at_index c.args.lanes.now c.loop-lane.lane-index a c.loop-lane-test.true c.lane-item.is in
    λ s j e. subst (λ things. j < length things) (sym c.loop-lane.invariant.same) ((c.requires.fit c.loop-lane.lane-index a at).cells s j (subst (λ l. get_elem? l s ≡ some j) c.cells.ensures e))

pub loop-lane-preserved : goal.loop-lane-preserved
loop-lane-preserved g c =
    let i = c.loop-lane.invariant in
    let x = c.lane-item.result in
    let at = at_index c.args.lanes.now c.loop-lane.lane-index x c.loop-lane-test.true c.lane-item.is in
    let lane = c.settle_lane.ensures in
    record {
      same = lane.same ∙ i.same;
      frame = lane.frame ∙ i.frame;
      settled = λ l s j a lt e f. dite (ℕ_discrete l c.loop-lane.lane-index)
          (λ (here : l ≡ c.loop-lane.lane-index).
          let is : x ≡ a = one_at c.args.lanes.now c.loop-lane.lane-index x a at (subst (λ n. get_elem? c.args.lanes.now n ≡ some a) here e) in
          let its = subst (λ cells. get_elem? cells s ≡ some j) (ap (λ (b : LaneText _). b.cells) (sym is) ∙ sym c.cells.ensures) f in
          subst (λ things. SettledAt root_of things j) i.same (lane.settled s j its))
          (λ (ne : ¬ (l ≡ c.loop-lane.lane-index)). i.settled l s j a (omega arith) e f);
    }

pub returns-clause-settled : goal.returns-clause-settled
returns-clause-settled g c = λ j n.
    c.loop-lane.invariant.settled n.0 n.3.0 j n.1 (let b = some_below c.args.lanes.now n.0 n.1 n.2 in let f = c.loop-lane-test.false in omega arith) n.2 n.3.1
