use Rattle.std.proofs.Common.{subst, inr}
use Rattle.std.specs.Prelude.{Some, None}
use Rattle.metrics_core.specs.declared.kinds.MetricKind.TheVariants as kinds
use Rattle.metrics_core.specs.Keys.{KeyText}
use Rattle.metrics_core.specs.declared.kinds.SeriesId.{SeriesId}
use Rattle.shared_turns.specs.Passes.{view_of}
use Rattle.shared_flushes.specs.declared.entries.StateEntry.TheVariants.{Register}
use Rattle.shared_flushes.specs.Stands.{During, Makes}
use Rattle.dsd_exporter.specs.Lending.{LendsCounter}
use Rattle.dsd_forwarder.specs.Telemetry.{Holds}
use Rattle.dsd_forwarder.proofs.Given.{on_err, during_map, held_given, id_is}
use Rattle.dsd_forwarder.proofs.telemetry.register_own_seen.Goals as goal

pub returns-in_err-lent-clause-refused : goal.returns-in_err-lent-clause-refused
returns-in_err-lent-clause-refused g c =
    let v = view_of c.args.own.now.pass in
    let u = view_of c.register.new.pass in
    let number = c.in_ok-id.id.number in
    let made = subst (λ (k : KeyText). Makes (Register kinds.Counter k number) v u) c.in_ok-key.ensures c.in_ok-id.ensures.registered.1 in
    on_err c.from_residual-in_err-lent.result _ (inr (inr (number, u, made, c.in_err-lent.ensures.refused)))

pub returns-in-Some-clause-registered : goal.returns-in-Some-clause-registered
returns-in-Some-clause-registered g c =
    let v = view_of c.args.own.now.pass in
    let u = view_of c.register.new.pass in
    let w = view_of c.lend_counter.new.pass in
    let id = c.in_ok-id.id in
    let registered = c.in_ok-id.ensures.registered in
    let own : SeriesId = record { kind = kinds.Counter; number = id.number } in
    let lent = subst (λ l. During (LendsCounter id l) u w) c.in-Some.is c.in_ok-lent.ensures.lent in
    record {
      number = id.number;
      between = u;
      makes = subst (λ (k : KeyText). Makes (Register kinds.Counter k id.number) v u) c.in_ok-key.ensures registered.1;
      holds = during_map (LendsCounter own (Some c.in-Some.lent)) (Holds own (Some c.new.result)) u w (λ x y lends. held_given own c.in-Some.lent c.new.result x y lends c.new.ensures)
          (subst (λ i. During (LendsCounter i (Some c.in-Some.lent)) u w) (id_is kinds.Counter id registered.0) lent);
    }

pub returns-clause-registered : goal.returns-clause-registered
returns-clause-registered g c =
    let v = view_of c.args.own.now.pass in
    let u = view_of c.register.new.pass in
    let w = view_of c.lend_counter.new.pass in
    let id = c.in_ok-id.id in
    let registered = c.in_ok-id.ensures.registered in
    let lent = subst (λ l. During (LendsCounter id l) u w) c.in-None.is c.in_ok-lent.ensures.lent in
    record {
      number = id.number;
      between = u;
      makes = subst (λ (k : KeyText). Makes (Register kinds.Counter k id.number) v u) c.in_ok-key.ensures registered.1;
      holds = subst (λ i. During (LendsCounter i None) u w) (id_is kinds.Counter id registered.0) lent;
    }
