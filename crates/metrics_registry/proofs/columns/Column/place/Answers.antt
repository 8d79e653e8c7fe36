use Rattle.std.proofs.Common.{◌≡◌, ◌-◌, ◌<◌, true, nat_eq, length, sym, ap, ◌∙◌, arith}
use Rattle.std.specs.Prelude.{◌&&◌}
use Rattle.metrics_registry.specs.Live.{id_eq}
use Rattle.metrics_registry.proofs.StoredSeries.{place-hit, same_kind}
use Rattle.metrics_registry.proofs.columns.Column.place.Goals as goal

pub returns-then-eq : goal.returns-then-eq
returns-then-eq g c = λ ks stored.
    let items = c.args.self.now.items in
    let own : id_eq c.index.result.now.id c.args.id ≡ true =
    ap (λ b. b && nat_eq c.index.result.now.id.number c.args.id.number) (sym (same_kind c.index.result.now.id.kind c.args.id.kind)) ∙ sym c.eq.ensures ∙ c.if-eq.true in
    let within : c.len-count.result - 1 < length items.items = omega (arith, c.if-count-gt0.true, c.len-count.ensures, items.ok.0) in
    place-hit ks items.items c.args.id (c.len-count.result - 1) c.index.result.now stored.beside within c.index.ensures own
