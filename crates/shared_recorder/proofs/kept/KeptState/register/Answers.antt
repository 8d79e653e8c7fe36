use Rattle.std.proofs.Common.{◌≡◌, IfOk, sym, ap, ◌∙◌, subst}
use Rattle.metrics_core.specs.declared.kinds.MetricKind.TheVariants as kinds
use Rattle.metrics_core.specs.declared.kinds.SeriesId.{SeriesId}
use Rattle.prom_exporter.specs.State.{number_given}
use Rattle.prom_exporter.specs.Exporter.{Exporter, state_of}
use Rattle.shared_recorder.proofs.kept.KeptState.register.Goals as goal

pub returns-in-Counter-clause-id : goal.returns-in-Counter-clause-id
returns-in-Counter-clause-id c =
    let own : IfOk c.register_counter.result (λ (id : SeriesId). id ≡ record { kind = kinds.Counter; number = number_given kinds.Counter c.args.key.now (state_of c.args.self.now) })
    = subst (λ (e : Exporter). IfOk c.register_counter.result (λ (id : SeriesId). id ≡ record { kind = kinds.Counter; number = number_given kinds.Counter c.args.key.now (state_of e) })) (c.deref_mut.ensures.value ∙ c.self.view_is) c.register_counter.ensures.id in
    subst (λ kind. IfOk c.register_counter.result (λ (id : SeriesId). id ≡ record { kind = kind; number = number_given kind c.args.key.now (state_of c.args.self.now) })) (sym c.in-Counter.is) own

pub returns-in-Gauge-clause-id : goal.returns-in-Gauge-clause-id
returns-in-Gauge-clause-id c =
    let own : IfOk c.register_gauge.result (λ (id : SeriesId). id ≡ record { kind = kinds.Gauge; number = number_given kinds.Gauge c.args.key.now (state_of c.args.self.now) })
    = subst (λ (e : Exporter). IfOk c.register_gauge.result (λ (id : SeriesId). id ≡ record { kind = kinds.Gauge; number = number_given kinds.Gauge c.args.key.now (state_of e) })) (c.deref_mut-in-Gauge.ensures.value ∙ c.self.view_is) c.register_gauge.ensures.id in
    subst (λ kind. IfOk c.register_gauge.result (λ (id : SeriesId). id ≡ record { kind = kind; number = number_given kind c.args.key.now (state_of c.args.self.now) })) (sym c.in-Gauge.is) own

pub returns-in-Histogram-clause-id : goal.returns-in-Histogram-clause-id
returns-in-Histogram-clause-id c =
    let own : IfOk c.register_histogram.result (λ (id : SeriesId). id ≡ record { kind = kinds.Histogram; number = number_given kinds.Histogram c.args.key.now (state_of c.args.self.now) })
    = subst (λ (e : Exporter). IfOk c.register_histogram.result (λ (id : SeriesId). id ≡ record { kind = kinds.Histogram; number = number_given kinds.Histogram c.args.key.now (state_of e) })) (c.deref_mut-in-Histogram.ensures.value ∙ c.self.view_is) c.register_histogram.ensures.id in
    subst (λ kind. IfOk c.register_histogram.result (λ (id : SeriesId). id ≡ record { kind = kind; number = number_given kind c.args.key.now (state_of c.args.self.now) })) (sym c.in-Histogram.is) own
