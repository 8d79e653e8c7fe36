use Rattle.std.proofs.Common.{suc, ◌≡◌, ◌+◌, take, drop, length, refl, sym, ap, ◌∙◌, subst, arith}
use Rattle.cell_lanes.specs.Lanes.{HasSlot, SlotsMade}
use Rattle.cell_lanes.proofs.Lists.{next_at, next_take, next_drop, next_below, none_left}
use Rattle.cell_lanes.proofs.Running.{kept_none, kept_then, taken_still, made_none}
use Rattle.cell_lanes.proofs.round.run_slots.Goals as goal

pub loop-line-init : goal.loop-line-init
loop-line-init g c = record {
  kept = kept_none g.S.Lenders.owns c.args.slots.now;
  made = made_none g.S.Lenders.knows g.S.Lenders.stands_as (take 0 c.args.lane.now.lines) c.args.slots.now refl c.requires.fresh;
  left = c.walk-walk.ensures.whole ∙ c.lines-lines.ensures;
  most = omega arith;
}

pub make_line-outcome-requires-clause-slot : goal.make_line-outcome-requires-clause-slot
make_line-outcome-requires-clause-slot g c κs within =
    let i = c.loop-line.invariant in
    let x = c.in-Some.line in
    let at = next_at c.args.lane.now.lines c.loop-line.done x (g.L.LaneLines.left c.lines-lines.result.now c.next.new.walk) (sym i.left ∙ c.in-Some.ensures) in
    subst (λ n. HasSlot n x) (sym i.kept.0) (c.requires.lines c.loop-line.done x at)

pub make_line-outcome-requires-clause-taken : goal.make_line-outcome-requires-clause-taken
make_line-outcome-requires-clause-taken g c κs within =
    let i = c.loop-line.invariant in
    let x = c.in-Some.line in
    let at = next_at c.args.lane.now.lines c.loop-line.done x (g.L.LaneLines.left c.lines-lines.result.now c.next.new.walk) (sym i.left ∙ c.in-Some.ensures) in
    taken_still g.S.Lenders.owns g.S.Lenders.takes c.args.slots.now c.loop-line.slots x i.kept (c.requires.taken c.loop-line.done x at)

pub returns-in-Err-clause-kept : goal.returns-in-Err-clause-kept
returns-in-Err-clause-kept g c = kept_then g.S.Lenders.owns c.args.slots.now c.loop-line.slots _ c.loop-line.invariant.kept c.make_line-outcome.ensures.kept

pub returns-in-Err-clause-made : goal.returns-in-Err-clause-made
returns-in-Err-clause-made g c = c.in-Err.ensures.refused (take c.loop-line.done c.args.lane.now.lines) c.loop-line.invariant.made

pub returns-in-Err-clause-done : goal.returns-in-Err-clause-done
returns-in-Err-clause-done g c =
    let below = next_below c.args.lane.now.lines c.loop-line.done c.in-Some.line (g.L.LaneLines.left c.lines-lines.result.now c.next.new.walk) (sym c.loop-line.invariant.left ∙ c.in-Some.ensures) in
    record { most = omega arith; all = λ e. absurd (cc); some_left = λ _. below }

pub loop-line-preserved : goal.loop-line-preserved
loop-line-preserved g c =
    let i = c.loop-line.invariant in
    let x = c.in-Some.line in
    let next = sym i.left ∙ c.in-Some.ensures in
    let rest = g.L.LaneLines.left c.lines-lines.result.now c.next.new.walk in
    let below = next_below c.args.lane.now.lines c.loop-line.done x rest next in
    let more : c.loop-line.done + 1 ≡ suc c.loop-line.done = omega arith in
    record {
      kept = kept_then g.S.Lenders.owns c.args.slots.now c.loop-line.slots _ i.kept c.make_line-outcome.ensures.kept;
      made = subst (λ l. SlotsMade g.S.Lenders.knows g.S.Lenders.stands_as l c.make_line-outcome.new.slots) (sym (ap (λ n. take n c.args.lane.now.lines) more ∙ next_take c.args.lane.now.lines c.loop-line.done x rest next))
          (c.in-Ok.ensures.made (take c.loop-line.done c.args.lane.now.lines) i.made);
      left = sym (ap (λ n. drop n c.args.lane.now.lines) more ∙ next_drop c.args.lane.now.lines c.loop-line.done x rest next);
      most = omega arith;
    }

pub loop-line-smaller : goal.loop-line-smaller
loop-line-smaller g c = let n = ap length c.in-Some.ensures in omega arith

pub returns-clause-done : goal.returns-clause-done
returns-clause-done g c =
    let most = none_left c.args.lane.now.lines c.loop-line.done (sym c.loop-line.invariant.left ∙ c.in_default.ensures.0) in
    record { most = c.loop-line.invariant.most; all = λ _. omega (arith, c.loop-line.invariant.most); some_left = λ e. absurd (cc) }
