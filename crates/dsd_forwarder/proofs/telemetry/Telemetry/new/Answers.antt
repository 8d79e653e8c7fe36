use Rattle.std.proofs.Common.{◌+◌, [], ◌∷◌, ◌++◌, subst, sym}
use Rattle.dsd_forwarder.specs.declared.own_counters.OwnCounter.TheVariants as own
use Rattle.dsd_forwarder.specs.Telemetry.{Registers}
use Rattle.dsd_forwarder.proofs.Given.{on_err}
use Rattle.dsd_forwarder.proofs.Registered.{Registered, one_more, some, some_next}
use Rattle.dsd_forwarder.proofs.telemetry.Telemetry.new.Goals as goal

pub returns-in_err-register_own-clause-refused : goal.returns-in_err-register_own-clause-refused
returns-in_err-register_own-clause-refused c =
    on_err c.from_residual-in_err-register_own.result _
    (some_next c.args.transport.now c.loop-counter.counter-index c.args.state.now c.loop-counter.state c.register_own.new.state c.loop-counter.counts.items own.Metrics
    c.loop-counter-test.true c.loop-counter.invariant c.in_err-register_own.ensures.refused)

pub returns-in_err-push-clause-refused : goal.returns-in_err-push-clause-refused
returns-in_err-push-clause-refused c =
    let made = c.in_ok-register_own in
    let more = one_more (Registers c.args.transport.now) c.loop-counter.counter-index c.args.state.now c.loop-counter.state c.register_own.new.state c.loop-counter.counts.items made.field-0 own.Metrics
    c.loop-counter-test.true c.loop-counter.invariant made.ensures.counter made.ensures.registered in
    on_err c.from_residual-in_err-push.result _ (some c.args.transport.now (c.loop-counter.counter-index + 1) c.args.state.now c.register_own.new.state (c.loop-counter.counts.items ++ made.field-0 ∷ []) more)

pub loop-counter-preserved : goal.loop-counter-preserved
loop-counter-preserved c =
    let made = c.in_ok-register_own in
    subst (λ xs. Registered (Registers c.args.transport.now) (c.loop-counter.counter-index + 1) c.args.state.now xs c.register_own.new.state) (sym c.in_ok-push.ensures.items)
    (one_more (Registers c.args.transport.now) c.loop-counter.counter-index c.args.state.now c.loop-counter.state c.register_own.new.state c.loop-counter.counts.items made.field-0 own.Metrics
    c.loop-counter-test.true c.loop-counter.invariant made.ensures.counter made.ensures.registered)
