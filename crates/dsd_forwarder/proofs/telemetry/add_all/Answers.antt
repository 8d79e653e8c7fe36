use Rattle.std.proofs.Common.{subst, sym, add-one, arith}
use Rattle.std.specs.Prelude.{slice_set}
use Rattle.dsd_forwarder.proofs.Added.{SoFar, one_more, all_of_them}
use Rattle.dsd_forwarder.proofs.telemetry.add_all.Goals as goal

pub loop-count-preserved : goal.loop-count-preserved
loop-count-preserved g c =
    let u = c.args.update.now in
    let i = c.loop-count.count-index in
    let new = c.add.new.self in
    subst (λ n. SoFar u n c.args.counts.now (slice_set c.loop-count.counts i new)) (sym (add-one i))
    (one_more u i c.args.counts.now c.loop-count.counts c.count-item.result new c.loop-count-test.true c.loop-count.invariant
    c.add.ensures)

pub returns : goal.returns
returns g c =
    let end = c.loop-count-test.false in
    all_of_them c.args.update.now c.loop-count.count-index c.args.counts.now c.loop-count.counts (omega (arith, end)) c.loop-count.invariant
