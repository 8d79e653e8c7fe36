use Rattle.std.proofs.Common.{◌+◌, [], ◌∷◌, ◌++◌, subst, sym, ◌∙◌}
use Rattle.shared_turns.specs.Passes.{view_of}
use Rattle.dsd_forwarder.specs.declared.own_counters.OwnCounter.TheVariants as own
use Rattle.dsd_forwarder.specs.Telemetry.{RegistersSeen}
use Rattle.dsd_forwarder.proofs.Given.{on_err}
use Rattle.dsd_forwarder.proofs.Registered.{Registered, one_more, some_seen, some_next_seen}
use Rattle.dsd_forwarder.proofs.telemetry.Telemetry.seen.Goals as goal

pub returns-in_err-register_own_seen-clause-refused : goal.returns-in_err-register_own_seen-clause-refused
returns-in_err-register_own_seen-clause-refused g c =
    on_err c.from_residual-in_err-register_own_seen.result _
    (some_next_seen c.args.transport.now c.loop-counter.counter-index (view_of c.args.own.now.pass) (view_of c.loop-counter.own.pass) (view_of c.register_own_seen.new.own.pass) c.loop-counter.counts.items own.Metrics
    c.loop-counter-test.true c.loop-counter.invariant.registered c.in_err-register_own_seen.ensures.refused)

pub returns-in_err-push-clause-refused : goal.returns-in_err-push-clause-refused
returns-in_err-push-clause-refused g c =
    let made = c.in_ok-register_own_seen in
    let w = view_of c.register_own_seen.new.own.pass in
    let more = one_more (RegistersSeen c.args.transport.now) c.loop-counter.counter-index (view_of c.args.own.now.pass) (view_of c.loop-counter.own.pass) w c.loop-counter.counts.items made.field-0 own.Metrics
    c.loop-counter-test.true c.loop-counter.invariant.registered made.ensures.counter made.ensures.registered in
    on_err c.from_residual-in_err-push.result _ (some_seen c.args.transport.now (c.loop-counter.counter-index + 1) (view_of c.args.own.now.pass) w (c.loop-counter.counts.items ++ made.field-0 ∷ []) more)

pub loop-counter-preserved : goal.loop-counter-preserved
loop-counter-preserved g c =
    let made = c.in_ok-register_own_seen in
    let before = c.loop-counter.invariant in
    let v = view_of c.args.own.now.pass in
    let w = view_of c.register_own_seen.new.own.pass in
    record {
      registered = subst (λ xs. Registered (RegistersSeen c.args.transport.now) (c.loop-counter.counter-index + 1) v xs w) (sym c.in_ok-push.ensures.items)
          (one_more (RegistersSeen c.args.transport.now) c.loop-counter.counter-index v (view_of c.loop-counter.own.pass) w c.loop-counter.counts.items made.field-0 own.Metrics
          c.loop-counter-test.true before.registered made.ensures.counter made.ensures.registered);
      state = c.register_own_seen.ensures.state ∙ before.state;
      number = c.register_own_seen.ensures.number ∙ before.number;
    }
