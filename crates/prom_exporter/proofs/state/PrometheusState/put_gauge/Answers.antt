use Rattle.std.proofs.Common.{rules, ap, subst, sym, ◌∙◌, arith}
use Rattle.std.proofs.lemmas.Result.{IfOk-weaker, on_err_weaker}
use Rattle.metrics_core.specs.declared.kinds.MetricKind.TheVariants.{Gauge}
use Rattle.metrics_registry.proofs.Registered.{either_way}
use Rattle.prom_exporter.specs.contracts.state.PrometheusState.{the_view}
use Rattle.prom_exporter.specs.Exporter.{AllHome, Cells}
use Rattle.prom_exporter.specs.Sampled.{calls_known}
use Rattle.prom_exporter.specs.Values.{seen_registry}
use Rattle.prom_exporter.proofs.Given.{gauge_absent, gauge_given, gauge_home}
use Rattle.prom_exporter.proofs.Seen.{id_of_key-seen, is_numbered-seen}
use Rattle.prom_exporter.proofs.States.{id-live, number-new}
use Rattle.prom_exporter.proofs.state.PrometheusState.put_gauge.Goals as goal

pub returns-then-number-lt18446744073709551615-clause-registered : goal.returns-then-number-lt18446744073709551615-clause-registered
returns-then-number-lt18446744073709551615-clause-registered c =
    rw (← c.self.view_is) (IfOk-weaker c.register_gauge.result _ _
    (λ id r. (gauge_given _ c.args.key id (the_view c.self.inside) c.self.inside.series c.register_gauge.new.self (λ cell made. search rules) (λ full. absurd (omega (arith, c.if-number-lt18446744073709551615.true, c.made-number.ensures.made, full))) c.made-number.ensures.numbered r).registered) c.register_gauge.ensures.registered)

pub returns-then-number-lt18446744073709551615-clause-cells : goal.returns-then-number-lt18446744073709551615-clause-cells
returns-then-number-lt18446744073709551615-clause-cells c =
    rw (← c.self.view_is) (IfOk-weaker c.register_gauge.result _ _
    (λ id r. (gauge_given _ c.args.key id (the_view c.self.inside) c.self.inside.series c.register_gauge.new.self (λ cell made. search rules) (λ full. absurd (omega (arith, c.if-number-lt18446744073709551615.true, c.made-number.ensures.made, full))) c.made-number.ensures.numbered r).cells) c.register_gauge.ensures.registered)

pub returns-then-number-lt18446744073709551615-clause-home : goal.returns-then-number-lt18446744073709551615-clause-home
returns-then-number-lt18446744073709551615-clause-home c =
    rw (← c.self.view_is) (either_way _ _ _ c.register_gauge.result c.register_gauge.ensures.registered c.register_gauge.ensures.refused
    (λ id r. gauge_home c.args.key id (the_view c.self.inside) (the_view c.self.inside) c.register_gauge.new.self
    (gauge_given _ c.args.key id (the_view c.self.inside) c.self.inside.series c.register_gauge.new.self (λ cell made. search rules) (λ full. absurd (omega (arith, c.if-number-lt18446744073709551615.true, c.made-number.ensures.made, full))) c.made-number.ensures.numbered r))
    (λ same. subst (λ (cells : Cells). AllHome (record (the_view c.self.inside) { series = cells })) (sym same)))

pub returns-then-number-lt18446744073709551615-clause-id : goal.returns-then-number-lt18446744073709551615-clause-id
returns-then-number-lt18446744073709551615-clause-id c =
    rw (← c.self.view_is) (IfOk-weaker c.register_gauge.result _ _
    (λ id r. (gauge_given _ c.args.key id (the_view c.self.inside) c.self.inside.series c.register_gauge.new.self (λ cell made. search rules) (λ full. absurd (omega (arith, c.if-number-lt18446744073709551615.true, c.made-number.ensures.made, full))) c.made-number.ensures.numbered r).id_is) c.register_gauge.ensures.registered)

pub returns-in-Some-clause-id : goal.returns-in-Some-clause-id
returns-in-Some-clause-id c =
    let series = c.self.inside.series in
    let found = id_of_key-seen c.args.key series.gauges ∙ sym c.in-Some.ensures in
    rw (← c.self.view_is) (id-live Gauge c.args.key (seen_registry calls_known series) series.made c.in-Some.id (is_numbered-seen calls_known series c.made-number.ensures.numbered).gauges.1 found)

pub returns-clause-id : goal.returns-clause-id
returns-clause-id c =
    let series = c.self.inside.series in
    let none = id_of_key-seen c.args.key series.gauges ∙ sym c.in-None.ensures in
    rw (← c.self.view_is) (ap (λ n. record { kind = Gauge; number = n }) (c.made-number.ensures.made ∙ sym (number-new Gauge c.args.key (seen_registry calls_known series) none)))

pub returns-then-number-lt18446744073709551615-clause-absent : goal.returns-then-number-lt18446744073709551615-clause-absent
returns-then-number-lt18446744073709551615-clause-absent c =
    rw (← c.self.view_is) (on_err_weaker c.register_gauge.result (gauge_absent c.args.key c.self.inside.series) c.register_gauge.ensures.absent)
