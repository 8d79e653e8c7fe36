use Rattle.std.proofs.Common.{subst}
use Rattle.metrics_core.specs.Calls.{Increment}
use Rattle.dsd_receiver.specs.Passes.{MakesCalls}
use Rattle.dsd_receiver.proofs.Loops.{counter_stands, increments_more, made_more}
use Rattle.dsd_receiver.proofs.calls.increment_all.Goals as goal

pub loop-count-preserved : goal.loop-count-preserved
loop-count-preserved c =
    let stands = counter_stands c.args.counter.now c.loop-count.pass c.increment.new.pass (Increment c.scaled.result) c.loop-count.invariant.held c.increment.ensures in
    let within = c.loop-count-test.true in
    record {
      held = stands.0;
      calls = subst (λ cs. MakesCalls c.args.pass.now cs c.increment.new.pass) (increments_more c.args.rate c.args.counts.now c.loop-count.count-index 0 c.scaled.result within c.scaled.ensures)
          (made_more c.args.pass.now c.loop-count.pass c.increment.new.pass _ (Increment c.scaled.result) c.loop-count.invariant.calls stands.1);
    }
