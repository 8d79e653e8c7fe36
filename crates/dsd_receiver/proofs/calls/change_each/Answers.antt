use Rattle.std.proofs.Common.{get_or, map, subst, take}
use Rattle.series_cells.specs.Pass.{Follows}
use Rattle.dsd_receiver.specs.Passes.{MakesCalls}
use Rattle.dsd_receiver.proofs.Loops.{changes_more, made_more}
use Rattle.dsd_receiver.proofs.calls.change_each.Goals as goal

pub loop-change-preserved : goal.loop-change-preserved
loop-change-preserved g c =
    let call = g.C.GaugeChange.call in
    let made = subst (λ change. Follows c.loop-change.pass (call change) c.make.new.pass) c.change-item.is c.make.ensures.made in
    record {
      held = c.make.ensures.held;
      calls = subst (λ calls. MakesCalls c.args.pass.now calls c.make.new.pass)
          (changes_more call c.args.changes.now c.loop-change.change-index c.change-item.result c.loop-change-test.true)
          (made_more c.args.pass.now c.loop-change.pass c.make.new.pass (map call (take c.loop-change.change-index c.args.changes.now)) (call (get_or c.args.changes.now c.loop-change.change-index c.change-item.result)) c.loop-change.invariant.calls made);
    }
