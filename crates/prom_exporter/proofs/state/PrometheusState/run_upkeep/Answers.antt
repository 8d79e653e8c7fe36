use Rattle.std.proofs.Common.{sym, ap, subst, ◌∙◌}
use Rattle.std.proofs.lemmas.Result.{err_from_is_err_and, on_ok_weaker, on_err_weaker}
use Rattle.metric_descriptions.specs.Descriptions.{publish}
use Rattle.prom_exporter.specs.contracts.state.PrometheusState.{the_view}
use Rattle.prom_exporter.specs.Exporter.{Exporter, AllHome, AreTimely, state_of}
use Rattle.prom_exporter.specs.Stepped.{DrainsEach, DrainsInPart}
use Rattle.prom_exporter.proofs.Stepping.{drains_home, drains_state, drains_timely, drains_less, keeps_made, keeps_state}
use Rattle.prom_exporter.proofs.state.PrometheusState.run_upkeep.Goals as goal

pub returns-in_err-drain_histograms-clause-home : goal.returns-in_err-drain_histograms-clause-home
returns-in_err-drain_histograms-clause-home g c = λ home. drains_home c.args.self.now c.drain_histograms.new.self home c.in_err-drain_histograms.ensures.refused

pub returns-in_err-drain_histograms-clause-same : goal.returns-in_err-drain_histograms-clause-same
returns-in_err-drain_histograms-clause-same g c =
    let refusal = err_from_is_err_and c.from_residual.result c.from_residual.ensures.1 in
    rw refusal.1 (λ home. drains_state c.args.self.now c.drain_histograms.new.self home c.in_err-drain_histograms.ensures.refused)

pub returns-in_err-drain_histograms-clause-timely : goal.returns-in_err-drain_histograms-clause-timely
returns-in_err-drain_histograms-clause-timely g c = λ t home. drains_timely c.args.self.now c.drain_histograms.new.self home c.in_err-drain_histograms.ensures.refused t

pub returns-clause-refused : goal.returns-clause-refused
returns-clause-refused g c =
    let drained = drains_less c.args.self.now c.drain_histograms.new.self c.in_ok-drain_histograms.ensures.drained in
    on_err_weaker c.publish.result
    (λ same. subst (DrainsEach DrainsInPart c.args.self.now) (sym (ap (λ d. the_view (record c.self.inside { descriptions = d })) same ∙ c.self.view_is)) drained) c.publish.ensures.refused

pub returns-clause-home : goal.returns-clause-home
returns-clause-home g c = λ home.
    subst AllHome (sym c.self.view_is) (drains_home c.args.self.now c.drain_histograms.new.self home (drains_less c.args.self.now c.drain_histograms.new.self c.in_ok-drain_histograms.ensures.drained))

pub returns-clause-published : goal.returns-clause-published
returns-clause-published g c =
    on_ok_weaker c.publish.result
    (λ is home. keeps_state c.args.self.now _ home
    (keeps_made c.args.self.now c.drain_histograms.new.self (the_view (record c.self.inside { descriptions = c.publish.new.self })) c.publish.new.self c.in_ok-drain_histograms.ensures.drained
    (ap (λ (e : Exporter). record e { said = c.publish.new.self }) c.self.view_is) (is ∙ ap (λ (e : Exporter). publish e.said) c.self.view_is))) c.publish.ensures.published

pub returns-clause-same : goal.returns-clause-same
returns-clause-same g c =
    let drained = drains_less c.args.self.now c.drain_histograms.new.self c.in_ok-drain_histograms.ensures.drained in
    on_err_weaker c.publish.result
    (λ same home. ap state_of (ap (λ d. the_view (record c.self.inside { descriptions = d })) same ∙ c.self.view_is) ∙ drains_state c.args.self.now c.drain_histograms.new.self home drained) c.publish.ensures.refused

pub returns-clause-timely : goal.returns-clause-timely
returns-clause-timely g c = λ t home timely.
    subst (AreTimely t) (sym c.self.view_is) (drains_timely c.args.self.now c.drain_histograms.new.self home (drains_less c.args.self.now c.drain_histograms.new.self c.in_ok-drain_histograms.ensures.drained) t timely)
