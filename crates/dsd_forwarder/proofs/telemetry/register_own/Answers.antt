use Rattle.std.proofs.Common.{subst, ap, ◌∙◌}
use Rattle.dsd_forwarder.specs.OwnCounters.{own_key}
use Rattle.dsd_forwarder.specs.Registering.{RegistersCounter, counter_id}
use Rattle.dsd_forwarder.specs.Telemetry.{Holds}
use Rattle.dsd_forwarder.proofs.Given.{on_err, counter_unlent}
use Rattle.dsd_forwarder.proofs.telemetry.register_own.Goals as goal

pub returns-in_err-held-clause-refused : goal.returns-in_err-held-clause-refused
returns-in_err-held-clause-refused c =
    let made = c.in_ok-id.ensures in
    let between = c.register_owned_counter.new.self in
    let registers = subst (λ k. RegistersCounter k c.args.state.now between) c.in_ok-key.ensures (record { registered = made.registered; cells = made.cells; home = made.home }) in
    on_err c.from_residual-in_err-held.result _ (counter_unlent (own_key c.args.transport.now c.args.counter) c.args.state.now between c.lend_held.new.state registers c.in_err-held.ensures.refused)

pub returns-clause-registered : goal.returns-clause-registered
returns-clause-registered c =
    let made = c.in_ok-id.ensures in
    let between = c.register_owned_counter.new.self in
    record {
      between = between;
      registers = subst (λ k. RegistersCounter k c.args.state.now between) c.in_ok-key.ensures (record { registered = made.registered; cells = made.cells; home = made.home });
      holds = subst (λ i. Holds i c.in_ok-held.held between c.lend_held.new.state) (made.id ∙ ap (λ k. counter_id k c.args.state.now) c.in_ok-key.ensures) c.in_ok-held.ensures.held;
    }
