use Rattle.std.proofs.Common.{◌≡◌, ◌∷◌, [], length, ap, sym, subst, ◌∙◌, arith, length-append}
use Rattle.std.specs.Prelude.{All}
use Rattle.std.proofs.lemmas.List.Elements.{All-append, All-cons, All-nil}
use Rattle.script_player.specs.declared.lanes.LaneSeries.{LaneSeries}
use Rattle.script_player.specs.LaneCalls.{lane_cells, lane_its}
use Rattle.script_player.proofs.lanes.empty_series.Goals as goal

abbrev IsEmpty : LaneSeries → Type 0
IsEmpty series = (lane_cells series ≡ []) × (lane_its series ≡ [])

pub loop-preserved : goal.loop-preserved
loop-preserved c =
    let all = c.loop.all.items in
    let new = c.in_ok-new.field-0 in
    let pushed = c.in_ok-push.ensures.items in
    record {
      many = (let long = ap length pushed ∙ length-append all (new ∷ []) in let many = c.loop.invariant.many in omega (arith, long, many));
      most = (let less = c.loop-test.true in omega (arith, less));
      empty = subst (All IsEmpty) (sym pushed) (All-append IsEmpty all (new ∷ []) c.loop.invariant.empty (All-cons IsEmpty new [] (c.in_ok-new.ensures.cells, c.in_ok-new.ensures.calls) (All-nil IsEmpty)));
    }
