use Rattle.std.proofs.Common.{◌≡◌, ◌⊎◌, sym, ap, subst, ◌∙◌, arith}
use Rattle.std.proofs.lemmas.Result.{IfOk-weaker, on_err_weaker}
use Rattle.metrics_core.specs.declared.kinds.MetricKind.TheVariants.{Gauge}
use Rattle.metrics_registry.specs.Live.{IsNumbered}
use Rattle.metrics_registry.proofs.Registered.{either_way}
use Rattle.dsd_exporter.specs.Exporter.{AddsGauge, AllHome, Exporter}
use Rattle.dsd_exporter.proofs.Registered.{gauge_adds, gauge_given, gauge_home, id-there, number-none}
use Rattle.dsd_exporter.proofs.state.State.register_owned_gauge.Goals as goal

pub returns-then-number-lt18446744073709551615-clause-registered : goal.returns-then-number-lt18446744073709551615-clause-registered
returns-then-number-lt18446744073709551615-clause-registered c =
    let old = c.args.self.now.series in
    let made = c.made-number.ensures.made ∙ ap (λ (e : Exporter). e.series.made) c.self.view_is in
    let numbered = subst (λ (e : Exporter). IsNumbered e.series) c.self.view_is c.made-number.ensures.numbered in
    IfOk-weaker c.add_gauge.result _ _
    (λ id r. (gauge_given _ c.args.key id old c.add_gauge.new.self.series (λ cell is. is) (λ full. absurd (omega (arith, c.if-number-lt18446744073709551615.true, made, full))) numbered.gauges.1 r).registered) c.add_gauge.ensures.registered

pub returns-then-number-lt18446744073709551615-clause-cells : goal.returns-then-number-lt18446744073709551615-clause-cells
returns-then-number-lt18446744073709551615-clause-cells c =
    let old = c.args.self.now in
    let made = c.made-number.ensures.made ∙ ap (λ (e : Exporter). e.series.made) c.self.view_is in
    let numbered = subst (λ (e : Exporter). IsNumbered e.series) c.self.view_is c.made-number.ensures.numbered in
    IfOk-weaker c.add_gauge.result _ _
    (λ id r. subst (λ (e : Exporter). (e ≡ old) ⊎ AddsGauge c.args.key old e) (sym c.add_gauge.ensures.others) (gauge_adds c.args.key id old c.add_gauge.new.self.series
    (gauge_given _ c.args.key id old.series c.add_gauge.new.self.series (λ cell is. is) (λ full. absurd (omega (arith, c.if-number-lt18446744073709551615.true, made, full))) numbered.gauges.1 r))) c.add_gauge.ensures.registered

pub returns-then-number-lt18446744073709551615-clause-home : goal.returns-then-number-lt18446744073709551615-clause-home
returns-then-number-lt18446744073709551615-clause-home c =
    let old = c.args.self.now in
    let made = c.made-number.ensures.made ∙ ap (λ (e : Exporter). e.series.made) c.self.view_is in
    let numbered = subst (λ (e : Exporter). IsNumbered e.series) c.self.view_is c.made-number.ensures.numbered in
    either_way _ _ _ c.add_gauge.result c.add_gauge.ensures.registered c.add_gauge.ensures.refused
    (λ id r home. subst AllHome (sym c.add_gauge.ensures.others) (gauge_home c.args.key id old c.add_gauge.new.self.series
    (gauge_given _ c.args.key id old.series c.add_gauge.new.self.series (λ cell is. is) (λ full. absurd (omega (arith, c.if-number-lt18446744073709551615.true, made, full))) numbered.gauges.1 r) home))
    (λ same home. subst AllHome (sym same) home)

pub returns-then-number-lt18446744073709551615-clause-id : goal.returns-then-number-lt18446744073709551615-clause-id
returns-then-number-lt18446744073709551615-clause-id c =
    let old = c.args.self.now.series in
    let made = c.made-number.ensures.made ∙ ap (λ (e : Exporter). e.series.made) c.self.view_is in
    let numbered = subst (λ (e : Exporter). IsNumbered e.series) c.self.view_is c.made-number.ensures.numbered in
    IfOk-weaker c.add_gauge.result _ _
    (λ id r. (gauge_given _ c.args.key id old c.add_gauge.new.self.series (λ cell is. is) (λ full. absurd (omega (arith, c.if-number-lt18446744073709551615.true, made, full))) numbered.gauges.1 r).id_is) c.add_gauge.ensures.registered

pub returns-in-Some-clause-id : goal.returns-in-Some-clause-id
returns-in-Some-clause-id c =
    let series = c.self.inside.series in
    rw (← c.self.view_is) (id-there Gauge c.args.key series series.made series.gauges c.in-Some.id c.made-number.ensures.numbered.gauges.1 (sym c.in-Some.ensures) (sym c.in-Some.ensures))

pub returns-then-number-lt18446744073709551615-clause-absent : goal.returns-then-number-lt18446744073709551615-clause-absent
returns-then-number-lt18446744073709551615-clause-absent c =
    on_err_weaker c.add_gauge.result (number-none Gauge c.args.key c.args.self.now.series) c.add_gauge.ensures.absent
