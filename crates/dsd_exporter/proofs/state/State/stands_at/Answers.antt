use Rattle.std.proofs.Common.{◌≡◌, true, nat_eq, sym, ap, ◌∙◌, Some}
use Rattle.std.specs.Prelude.{◌&&◌}
use Rattle.metrics_registry.specs.Live.{id_eq}
use Rattle.metrics_registry.proofs.StoredSeries.{same_kind}
use Rattle.metrics_registry.proofs.IdTests.{id_eq-same}
use Rattle.dsd_exporter.specs.LanePasses.{ids_of}
use Rattle.dsd_exporter.proofs.LaneThings.{at_got}
use Rattle.dsd_exporter.proofs.state.State.stands_at.Goals as goal

pub returns-in-Some : goal.returns-in-Some
returns-in-Some c = λ same.
    let own : id_eq c.in-Some.own c.args.id ≡ true =
    ap (λ b. b && nat_eq c.in-Some.own.number c.args.id.number) (sym (same_kind c.in-Some.own.kind c.args.id.kind)) ∙ sym c.eq.ensures ∙ same in
    at_got (ids_of c.args.self.now) c.args.index c.args.id (sym c.id_at.ensures ∙ c.in-Some.is ∙ ap Some (id_eq-same c.in-Some.own c.args.id own))
