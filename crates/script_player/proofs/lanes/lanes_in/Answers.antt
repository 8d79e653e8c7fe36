use Rattle.std.proofs.Common.{◌<◌, ◌≤◌, ◌+◌, ℕ, sym, subst, take, arith}
use Rattle.std.specs.Prelude.{All, slice_index_or}
use Rattle.std.proofs.lemmas.List.{take_more}
use Rattle.cell_lanes.proofs.Lists.{take_whole}
use Rattle.drive_script.specs.declared.script.CallLine.{CallLine}
use Rattle.drive_script.specs.declared.script.Act.TheVariants as acts
use Rattle.script_player.proofs.LaneTables.{all_below}
use Rattle.script_player.proofs.lanes.lanes_in.Goals.{then-lane-lanes, else-lane-lanes}
use Rattle.script_player.proofs.lanes.lanes_in.Goals as goal

default : CallLine
default = record { lane = 0; handle = 0; act = acts.Inc 0 }

pub loop-line-preserved : goal.loop-line-preserved
unfolding default
loop-line-preserved c =
    let i = c.loop-line.line-index in
    let calls = c.args.calls.now in
    let lanes = c.loop-line.lanes in
    let line : CallLine = slice_index_or calls i default in
    let all : (m : ℕ) → lanes ≤ m → line.lane < m → All (λ (line : CallLine). line.lane < m) (take (i + 1) calls)
    = λ m most own. subst (All (λ (line : CallLine). line.lane < m)) (sym (take_more calls i default c.loop-line-test.true)) (all_below lanes m (take i calls) line most own c.loop-line.invariant) in
    elim c.if-lane-lanes.branch [
      | then-lane-lanes w ↦
          subst (λ m. All (λ (line : CallLine). line.lane < m) (take (i + 1) calls)) (sym w.lanes-is)
          (all (c.from-lane.result + 1) (omega (arith, w.if-lane-lanes.true)) (omega (arith, c.from-lane.ensures)))
      | else-lane-lanes w ↦
          subst (λ m. All (λ (line : CallLine). line.lane < m) (take (i + 1) calls)) (sym w.lanes-is)
          (all lanes (omega arith) (omega (arith, c.from-lane.ensures, w.if-lane-lanes.false)))
    ]

pub returns : goal.returns
returns c =
    subst (All (λ (line : CallLine). line.lane < c.loop-line.lanes)) (take_whole c.args.calls.now c.loop-line.line-index c.loop-line-test.false) c.loop-line.invariant
