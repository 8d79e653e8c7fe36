use Rattle.std.proofs.Common.{◌≡◌, ◌⊎◌, List, sym, ap, subst, ◌∙◌}
use Rattle.std.specs.Prelude.{string_bytes}
use Rattle.metrics_core.specs.Keys.{KeyText}
use Rattle.name_counts.specs.Counts.{Counts, raised}
use Rattle.prom_exporter.specs.State.{overflow_key, with_raised, with_series}
use Rattle.prom_exporter.specs.Exporter.{Exporter, AddsSeries, AllHome, state_of}
use Rattle.prom_exporter.specs.contracts.state.PrometheusState.{the_view}
use Rattle.prom_exporter.proofs.Redirected.{redirected-registered, redirected-cells}
use Rattle.prom_exporter.proofs.state.PrometheusState.redirect.Goals as goal

pub returns-in-Err-clause-home : goal.returns-in-Err-clause-home
returns-in-Err-clause-home c = λ home. subst AllHome (sym c.self-2.view_is) (c.in-Err.ensures.home (subst AllHome (sym c.self.view_is) home))

pub returns-clause-registered : goal.returns-clause-registered
returns-clause-registered c =
    let old = the_view c.self.inside in
    let kind = c.args.kind in
    let name = string_bytes c.args.name in
    let key : c.in_ok-overflow.overflow ≡ overflow_key name = c.in_ok-overflow.ensures ∙ ap overflow_key c.as_str.ensures.value in
    let before = ap (λ (counts : Counts). counts.entries) c.replace-redirections.ensures.value ∙ c.in_ok-reserve.ensures.same in
    let counted = c.in_ok-counted.ensures.raised ∙ (λ j. raised kind (c.as_str-3.ensures.value j) (before j)) in
    rw (← c.self.view_is)
    (redirected-registered kind c.in_ok-overflow.overflow old (the_view c.self-2.inside) c.replace-redirections.new.dest.entries c.add-counted.new.self.entries name
    (ap state_of c.self-2.view_is ∙ c.in-Ok.ensures.registered) counted
    ∙ ap (λ (k : KeyText). with_series kind k (with_raised kind name (state_of old))) key)

pub returns-clause-cells : goal.returns-clause-cells
returns-clause-cells c =
    let old = the_view c.self.inside in
    let kind = c.args.kind in
    let aside : Exporter = record old { redirected = c.replace-redirections.new.dest.entries } in
    let now : Exporter = record (the_view c.self-2.inside) { redirected = c.add-counted.new.self.entries } in
    let key : c.in_ok-overflow.overflow ≡ overflow_key (string_bytes c.args.name) = c.in_ok-overflow.ensures ∙ ap overflow_key c.as_str.ensures.value in
    let cells = subst (λ (e : Exporter). (e.series ≡ old.series) ⊎ AddsSeries kind c.in_ok-overflow.overflow aside e) (sym c.self-2.view_is) c.in-Ok.ensures.cells in
    rw (← c.self.view_is)
    (subst (λ (k : KeyText). (now.series ≡ old.series) ⊎ AddsSeries kind k old now) key
    (redirected-cells kind c.in_ok-overflow.overflow old (the_view c.self-2.inside) c.replace-redirections.new.dest.entries c.add-counted.new.self.entries cells))

pub returns-clause-home : goal.returns-clause-home
returns-clause-home c = λ home. subst AllHome (sym c.self-2.view_is) (c.in-Ok.ensures.home (subst AllHome (sym c.self.view_is) home))
