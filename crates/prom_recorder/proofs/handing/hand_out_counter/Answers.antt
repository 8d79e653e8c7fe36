use Rattle.std.proofs.Common.{ap, inl, inr, subst, ◌∙◌}
use Rattle.std.specs.Prelude.{Some}
use Rattle.std.proofs.lemmas.Result.{IfOk-weaker}
use Rattle.metrics_core.specs.declared.kinds.SeriesId.{SeriesId}
use Rattle.metrics_core.specs.declared.kinds.MetricKind.TheVariants as kinds
use Rattle.prom_exporter.specs.Lending.{LendsCounter}
use Rattle.shared_turns.specs.Passes.{view_of}
use Rattle.shared_recorder.specs.Lending.{Lends}
use Rattle.prom_recorder.specs.Handing.{IsNewCounter}
use Rattle.prom_recorder.proofs.Handed.{hands_series, hands_spare, is_own, lends_waits, lent_counter, new_counter, on_any_err}
use Rattle.prom_recorder.proofs.handing.hand_out_counter.Goals as goal

pub returns-in_err-lent-clause-refused : goal.returns-in_err-lent-clause-refused
returns-in_err-lent-clause-refused g c =
    on_any_err c.from_residual-in_err-lent.result (inr (c.in_ok-id.id.number, view_of c.register_counter.new.pass, c.in_ok-id.ensures.registered.1, c.in_err-lent.ensures.refused))

pub returns-in-Some-clause-handed : goal.returns-in-Some-clause-handed
returns-in-Some-clause-handed g c =
    let v = view_of c.args.pass.now in
    let between = view_of c.register_counter.new.pass in
    let w = view_of c.lend_counter.new.pass in
    let id = c.in_ok-id.id in
    let lent = subst (λ o. Lends (LendsCounter id o) between w) c.in-Some.is c.in_ok-lent.ensures.lent in
    inl (hands_series kinds.Counter LendsCounter c.args.key.now v between w id c.in_ok-lent.field-0 c.in-Some.lent (lent.5.3.0.id_is) c.in_ok-id.ensures.registered.1 c.in_ok-lent.ensures.lent c.in-Some.is)

pub returns-in-Some-clause-own : goal.returns-in-Some-clause-own
returns-in-Some-clause-own g c = λ built knows never few.
    let v = view_of c.args.pass.now in
    let between = view_of c.register_counter.new.pass in
    let w = view_of c.lend_counter.new.pass in
    let id = c.in_ok-id.id in
    let lent = subst (λ o. Lends (LendsCounter id o) between w) c.in-Some.is c.in_ok-lent.ensures.lent in
    hands_series kinds.Counter LendsCounter c.args.key.now v between w id c.in_ok-lent.field-0 c.in-Some.lent (lent.5.3.0.id_is) c.in_ok-id.ensures.registered.1 c.in_ok-lent.ensures.lent c.in-Some.is

pub returns-in-Some-clause-lent : goal.returns-in-Some-clause-lent
returns-in-Some-clause-lent g c =
    let id = c.in_ok-id.id in
    let lent = subst (λ o. Lends (LendsCounter id o) (view_of c.register_counter.new.pass) (view_of c.lend_counter.new.pass)) c.in-Some.is c.in_ok-lent.ensures.lent in
    lent_counter id c.in-Some.lent lent.1 lent.2 c.in_ok-id.ensures.registered.0 lent.5

pub returns-in-None-clause-handed : goal.returns-in-None-clause-handed
returns-in-None-clause-handed g c =
    IfOk-weaker c.new_counter.result _ _ (λ lent it. inr (hands_spare kinds.Counter LendsCounter c.args.key.now (view_of c.args.pass.now) (view_of c.register_counter.new.pass) (view_of c.lend_counter.new.pass) c.in_ok-id.id IsNewCounter c.in_ok-lent.field-0 lent it.id_is
    c.in_ok-id.ensures.registered.1 c.in_ok-lent.ensures.lent c.in-None.is it)) c.new_counter.ensures

pub returns-in-None-clause-own : goal.returns-in-None-clause-own
returns-in-None-clause-own g c =
    IfOk-weaker c.new_counter.result _ _ (λ lent it. λ built knows never few.
    absurd (c.in_ok-lent.ensures.own
    (is_own kinds.Counter c.args.key.now c.in_ok-id.id (view_of c.args.pass.now) (view_of c.register_counter.new.pass) built c.in_ok-id.ensures.registered.0 c.in_ok-id.ensures.registered.1 knows never
    (λ many. few (ap (λ (i : SeriesId). i.number) it.id_is ∙ many)))
    c.in-None.is)) c.new_counter.ensures

pub returns-in-None-clause-lent : goal.returns-in-None-clause-lent
returns-in-None-clause-lent g c =
    IfOk-weaker c.new_counter.result _ _ (λ lent. new_counter c.in_ok-id.id lent c.in_ok-id.ensures.registered.0) c.new_counter.ensures

pub returns-in-None-clause-refused : goal.returns-in-None-clause-refused
returns-in-None-clause-refused g c =
    on_any_err c.new_counter.result (inr (
      c.in_ok-id.id.number,
      view_of c.register_counter.new.pass,
      c.in_ok-id.ensures.registered.1,
      lends_waits (LendsCounter c.in_ok-id.id c.in_ok-lent.field-0) (view_of c.register_counter.new.pass) (view_of c.lend_counter.new.pass) c.in_ok-lent.ensures.lent,
    ))
