use Rattle.std.proofs.Common.{refl, sym, ap, subst, ◌∙◌, inl, inr}
use Rattle.std.specs.Prelude.{Err, OnOk, OnErr}
use Rattle.std.proofs.lemmas.Result.{err_from_is_err_and, on_ok_weaker, on_err_weaker}
use Rattle.metrics_core.specs.Outside.{GrewBy, GrewByPrefix}
use Rattle.metrics_core.proofs.Grown.{grew_none}
use Rattle.prom_exporter.specs.Exporter.{Exporter, AllHome, AreTimely, state_of, written_body}
use Rattle.prom_exporter.specs.Stepped.{Steps}
use Rattle.prom_exporter.proofs.Stepping.{drains_home, drains_state, drains_timely, steps_home, steps_state, steps_timely, steps_page}
use Rattle.prom_exporter.proofs.state.PrometheusState.render_to_write.Goals as goal

-- ---- where memory was refused in the step

pub returns-in_err-step-clause-steps : goal.returns-in_err-step-clause-steps
returns-in_err-step-clause-steps g c =
    let refusal = err_from_is_err_and c.from_residual.result c.from_residual.ensures.1 in
    inr (refusal.1 ∙ ap Err refusal.2, c.in_err-step.ensures.refused, refl)

pub returns-in_err-step-clause-home : goal.returns-in_err-step-clause-home
returns-in_err-step-clause-home g c = λ home. drains_home c.args.self.now c.step.new.self home c.in_err-step.ensures.refused

pub returns-in_err-step-clause-stepped : goal.returns-in_err-step-clause-stepped
returns-in_err-step-clause-stepped g c = λ home.
    let refusal = err_from_is_err_and c.from_residual.result c.from_residual.ensures.1 in
    inr (refusal.1 ∙ ap Err refusal.2, drains_state c.args.self.now c.step.new.self home c.in_err-step.ensures.refused)

pub returns-in_err-step-clause-timely : goal.returns-in_err-step-clause-timely
returns-in_err-step-clause-timely g c = λ t home. drains_timely c.args.self.now c.step.new.self home c.in_err-step.ensures.refused t

pub returns-in_err-step-clause-prefix : goal.returns-in_err-step-clause-prefix
returns-in_err-step-clause-prefix g c =
    let refusal = err_from_is_err_and c.from_residual.result c.from_residual.ensures.1 in
    rw refusal.1 (grew_none _ _)

pub returns-in_err-step-clause-page_prefix : goal.returns-in_err-step-clause-page_prefix
returns-in_err-step-clause-page_prefix g c =
    let refusal = err_from_is_err_and c.from_residual.result c.from_residual.ensures.1 in
    rw refusal.1 (λ home. grew_none _ _)

-- ---- where the step was made

pub returns-clause-steps : goal.returns-clause-steps
returns-clause-steps g c = inl (subst (Steps c.args.moment c.args.self.now) (sym c.write_body.ensures.same) c.in_ok-step.ensures.steps)

pub returns-clause-home : goal.returns-clause-home
returns-clause-home g c = λ home. subst AllHome (sym c.write_body.ensures.same) (steps_home c.args.moment c.args.self.now c.step.new.self home c.in_ok-step.ensures.steps)

pub returns-clause-stepped : goal.returns-clause-stepped
returns-clause-stepped g c = λ home. inl (ap state_of c.write_body.ensures.same ∙ steps_state c.args.moment c.args.self.now c.step.new.self home c.in_ok-step.ensures.steps)

pub returns-clause-timely : goal.returns-clause-timely
returns-clause-timely g c = λ t home timely.
    subst (AreTimely t) (sym c.write_body.ensures.same) (steps_timely c.args.moment c.args.self.now c.step.new.self home c.in_ok-step.ensures.steps t timely)

pub returns-clause-body : goal.returns-clause-body
returns-clause-body g c =
    let told = g.K.Sink.written in
    subst (λ (e : Exporter). OnOk c.write_body.result (GrewBy (told c.args.sink.now) (told c.write_body.new.sink) (written_body c.args.moment e))) (sym c.write_body.ensures.same) c.write_body.ensures.body

pub returns-clause-prefix : goal.returns-clause-prefix
returns-clause-prefix g c =
    let told = g.K.Sink.written in
    subst (λ (e : Exporter). OnErr c.write_body.result (GrewByPrefix (told c.args.sink.now) (told c.write_body.new.sink) (written_body c.args.moment e))) (sym c.write_body.ensures.same) c.write_body.ensures.prefix

pub returns-clause-page : goal.returns-clause-page
returns-clause-page g c =
    let told = g.K.Sink.written in
    on_ok_weaker c.write_body.result (λ grew home.
    subst (GrewBy (told c.args.sink.now) (told c.write_body.new.sink)) (steps_page c.args.moment c.args.self.now c.step.new.self home c.in_ok-step.ensures.steps) grew) c.write_body.ensures.body

pub returns-clause-page_prefix : goal.returns-clause-page_prefix
returns-clause-page_prefix g c =
    let told = g.K.Sink.written in
    on_err_weaker c.write_body.result (λ grew home.
    subst (GrewByPrefix (told c.args.sink.now) (told c.write_body.new.sink)) (steps_page c.args.moment c.args.self.now c.step.new.self home c.in_ok-step.ensures.steps) grew) c.write_body.ensures.prefix
