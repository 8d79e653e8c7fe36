use Rattle.std.proofs.Common.{◌≡◌, ℕ, suc, ◌+◌, ◌<◌, ◌≤◌, List, ◌∷◌, take, drop, length, refl, sym, ap, ◌∙◌, subst, arith, ⊎_elim}
use Rattle.std.specs.Prelude.{slice_index_or}
use Rattle.std.proofs.Math.Seq.{drop-cons}
use Rattle.std.proofs.lemmas.List.{take_more, drop_all}
use Rattle.legal_history.specs.History.{In, Distinct}
use Rattle.legal_history.specs.Places.{Ascend}
use Rattle.legal_history.proofs.Steps.{distinct_last, in_snoc}
use Rattle.cell_lanes.proofs.Lists.{take_whole}
use Rattle.cell_lanes.proofs.Jobs.{in_at}
use Rattle.cell_lanes.proofs.fit.ascend_below.Goals as goal

-- the indices from place i on begin with the one there
from_place : (cells : List ℕ) (i : ℕ) → i < length cells → drop i cells ≡ slice_index_or cells i 0 ∷ drop (i + 1) cells
from_place cells i lt = let more : i + 1 ≡ suc i = omega arith in drop-cons cells i 0 lt ∙ ap (λ n. slice_index_or cells i 0 ∷ drop n cells) (sym more)

pub loop-cell-preserved : goal.loop-cell-preserved
loop-cell-preserved c =
    let i = c.loop-cell.invariant in
    let t = slice_index_or c.args.cells.now c.loop-cell.cell-index 0 in
    let front = take c.loop-cell.cell-index c.args.cells.now in
    let more = take_more c.args.cells.now c.loop-cell.cell-index 0 c.loop-cell-test.true in
    let here = from_place c.args.cells.now c.loop-cell.cell-index c.loop-cell-test.true in
    let low : c.loop-cell.next ≤ t = c.if-cell-next.false in
    let high : t < c.args.count = c.if-cell-count.false in
    record {
      rest = (λ a. i.rest.0 (subst (Ascend c.loop-cell.next c.args.count) (sym here) (low, high, a)), λ a. (subst (Ascend c.loop-cell.next c.args.count) here (i.rest.1 a)).2);
      once = subst Distinct (sym more) (distinct_last front t (λ q. let b = i.below t q in absurd (omega arith)) i.once);
      below = λ u q. ⊎_elim (λ (r : In u front). let b = i.below u r in omega arith) (λ (e : u ≡ t). omega arith) (in_snoc u front t (subst (In u) more q));
      next = omega arith;
    }

pub returns : goal.returns
returns c =
    let i = c.loop-cell.invariant in
    let whole = take_whole c.args.cells.now c.loop-cell.cell-index c.loop-cell-test.false in
    record {
      ascend = (λ _. i.rest.0 (subst (Ascend c.loop-cell.next c.args.count) (sym (drop_all c.loop-cell.cell-index c.args.cells.now c.loop-cell-test.false)) tt), λ _. refl);
      once = λ _. (subst Distinct whole i.once, λ s j e. let b = i.below j (subst (In j) (sym whole) (in_at c.args.cells.now s j e)) in omega (arith, i.next));
    }
