use Rattle.std.proofs.Common.{◌≡◌, ◌⊎◌, sym, subst}
use Rattle.std.specs.Prelude.{OnOk}
use Rattle.metrics_core.specs.Keys.{KeyText}
use Rattle.metrics_core.specs.declared.kinds.MetricKind.TheVariants.{Counter}
use Rattle.dsd_exporter.specs.Exporter.{AddsCounter}
use Rattle.dsd_exporter.proofs.Registered.{register-there, id-there}
use Rattle.dsd_exporter.proofs.state.State.register_counter.Goals as goal

pub returns-in-Some-clause-registered : goal.returns-in-Some-clause-registered
returns-in-Some-clause-registered c = rw (← c.self.view_is) (register-there Counter c.args.key.now c.self.inside.series c.in-Some.id (sym c.in-Some.ensures))

pub returns-in-Some-clause-id : goal.returns-in-Some-clause-id
returns-in-Some-clause-id c =
    let series = c.self.inside.series in
    rw (← c.self.view_is) (id-there Counter c.args.key.now series series.made series.counters c.in-Some.id c.made-made.ensures.numbered.counters.1 (sym c.in-Some.ensures) (sym c.in-Some.ensures))

pub returns-clause-cells : goal.returns-clause-cells
returns-clause-cells c =
    let old = c.args.self.now in
    let new = c.register_owned_counter.new.self in
    subst (λ (key : KeyText). OnOk c.register_owned_counter.result ((new ≡ old) ⊎ AddsCounter key old new)) c.in_ok-clone.ensures.same c.register_owned_counter.ensures.cells
