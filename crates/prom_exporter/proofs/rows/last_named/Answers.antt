use Rattle.std.proofs.Common.{◌≡◌, ◌∙◌, true, sym, subst}
use Rattle.std.specs.Prelude.{bytes_eq}
use Rattle.prom_exporter.proofs.rows.last_named.Goals as goal

pub returns-then-eq-clause-named : goal.returns-then-eq-clause-named
returns-then-eq-clause-named c =
    ((c.in_ok-own.own.now, c.in_ok-own.field-0-1.now), sym c.in_ok-own.ensures.entry, subst (λ own. bytes_eq c.args.name.now own ≡ true) c.as_str.ensures.value (sym c.eq.ensures ∙ c.if-eq.true))
