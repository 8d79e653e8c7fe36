use Rattle.std.proofs.Common.{subst, inr}
use Rattle.std.proofs.lemmas.Result.{IfOk-weaker}
use Rattle.metrics_core.specs.declared.kinds.MetricKind.TheVariants as kinds
use Rattle.shared_turns.specs.Passes.{view_of}
use Rattle.shared_flushes.specs.Stands.{During}
use Rattle.dsd_exporter.specs.Lending.{LendsCounter}
use Rattle.dsd_forwarder.specs.Registering.{IsLoneCounter}
use Rattle.dsd_forwarder.proofs.Given.{on_err, during_waits, full, given, lone, counter_handed, counter_id_is, counter_lone}
use Rattle.dsd_forwarder.proofs.registering.register_counter.Goals as goal

pub returns-in-Some-clause-handed : goal.returns-in-Some-clause-handed
returns-in-Some-clause-handed g c =
    let id = c.in_ok-id.id in
    let lent = subst (λ l. During (LendsCounter id l) (view_of c.register.new.pass) (view_of c.lend_counter.new.pass)) c.in-Some.is c.in_ok-lent.ensures.lent in
    counter_handed id c.in-Some.lent lent.1 lent.2 c.in_ok-id.ensures.registered.0 lent.5

pub returns-in-Some-clause-given : goal.returns-in-Some-clause-given
returns-in-Some-clause-given g c =
    let id = c.in_ok-id.id in
    let u = view_of c.register.new.pass in
    let w = view_of c.lend_counter.new.pass in
    let lent = subst (λ l. During (LendsCounter id l) u w) c.in-Some.is c.in_ok-lent.ensures.lent in
    given kinds.Counter LendsCounter IsLoneCounter c.args.key.now c.in-Some.lent id (view_of c.args.pass.now) u w (counter_id_is id c.in-Some.lent lent.1 lent.2 lent.5) c.in_ok-id.ensures.registered.1 lent

pub returns-in-None-clause-handed : goal.returns-in-None-clause-handed
returns-in-None-clause-handed g c = IfOk-weaker c.lone_counter.result _ _ (λ lent is. counter_lone c.in_ok-id.id lent c.in_ok-id.ensures.registered.0 is) c.lone_counter.ensures

pub returns-in-None-clause-given : goal.returns-in-None-clause-given
returns-in-None-clause-given g c =
    let id = c.in_ok-id.id in
    let v = view_of c.args.pass.now in
    let u = view_of c.register.new.pass in
    let w = view_of c.lend_counter.new.pass in
    let made = c.in_ok-id.ensures.registered in
    let lent = subst (λ l. During (LendsCounter id l) u w) c.in-None.is c.in_ok-lent.ensures.lent in
    let none = full kinds.Counter c.args.key.now id v u made.0 made.1 (λ own. c.in_ok-lent.ensures.own own c.in-None.is) in
    IfOk-weaker c.lone_counter.result _ _ (λ series is. lone kinds.Counter LendsCounter IsLoneCounter c.args.key.now series id v u w is.id_is made.1 none lent is) c.lone_counter.ensures

pub returns-in-None-clause-refused : goal.returns-in-None-clause-refused
returns-in-None-clause-refused g c =
    let u = view_of c.register.new.pass in
    let w = view_of c.lend_counter.new.pass in
    on_err c.lone_counter.result _ (inr (c.in_ok-id.id.number, u, c.in_ok-id.ensures.registered.1, during_waits _ u w c.in_ok-lent.ensures.lent))

pub returns-in_err-lent-clause-refused : goal.returns-in_err-lent-clause-refused
returns-in_err-lent-clause-refused g c =
    on_err c.from_residual-in_err-lent.result _ (inr (c.in_ok-id.id.number, view_of c.register.new.pass, c.in_ok-id.ensures.registered.1, c.in_err-lent.ensures.refused))
