use Rattle.std.proofs.Common.{◌≡◌, ◌⊎◌, sym, subst}
use Rattle.std.specs.Prelude.{OnOk, IfOk}
use Rattle.std.proofs.lemmas.Result.{err_from_is_err_and}
use Rattle.metrics_core.specs.Keys.{KeyText}
use Rattle.metrics_core.specs.declared.kinds.MetricKind.TheVariants.{Counter}
use Rattle.prom_exporter.specs.State.{key_given, number_given}
use Rattle.prom_exporter.specs.Exporter.{AddsCounter, state_of}
use Rattle.prom_exporter.specs.contracts.state.PrometheusState.{the_view}
use Rattle.prom_exporter.proofs.Given.{counter_absent, counter_found}
use Rattle.prom_exporter.proofs.state.PrometheusState.register_counter.Goals as goal

pub returns-in-Some-clause-registered : goal.returns-in-Some-clause-registered
returns-in-Some-clause-registered c =
    rw (← c.self.view_is) (counter_found (the_view c.self.inside) c.args.key.now c.in-Some.id c.made-made.ensures.numbered (sym c.in-Some.ensures)).registered

pub returns-in-Some-clause-id : goal.returns-in-Some-clause-id
returns-in-Some-clause-id c =
    rw (← c.self.view_is) (counter_found (the_view c.self.inside) c.args.key.now c.in-Some.id c.made-made.ensures.numbered (sym c.in-Some.ensures)).id_is

pub returns-clause-cells : goal.returns-clause-cells
returns-clause-cells c =
    let old = c.args.self.now in
    let new = c.register_owned_counter.new.self in
    subst (λ (key : KeyText). OnOk c.register_owned_counter.result ((new.series ≡ old.series) ⊎ AddsCounter (key_given Counter key (state_of old)) old new)) c.in_ok-clone.ensures.same c.register_owned_counter.ensures.cells

pub returns-in_err-clone-clause-absent : goal.returns-in_err-clone-clause-absent
returns-in_err-clone-clause-absent c =
    let refusal = err_from_is_err_and c.from_residual.result c.from_residual.ensures.1 in
    rw (refusal.1, ← c.self.view_is) (counter_absent c.args.key.now c.self.inside.series (sym c.in_default.ensures))

pub returns-clause-id : goal.returns-clause-id
returns-clause-id c =
    let old = c.args.self.now in
    subst (λ (key : KeyText). IfOk c.register_owned_counter.result (λ id. id ≡ record { kind = Counter; number = number_given Counter key (state_of old) })) c.in_ok-clone.ensures.same c.register_owned_counter.ensures.id
