use Rattle.std.proofs.Common.{rules, sym, arith, ap, ◌∙◌}
use Rattle.std.proofs.lemmas.Result.{IfOk-weaker, on_err_weaker}
use Rattle.metrics_core.specs.declared.kinds.MetricKind.TheVariants.{Counter}
use Rattle.metrics_registry.proofs.Registered.{either_way}
use Rattle.dsd_exporter.specs.Exporter.{Cells, Exporter, keys_of, settings_of}
use Rattle.dsd_exporter.proofs.Registered.{counter_adds, counter_given, counter_home, id-there, number-none}
use Rattle.dsd_exporter.proofs.GaugeKeys.{counter_leaves_gauges}
use Rattle.dsd_exporter.proofs.state.State.register_owned_counter.Goals as goal
use Rattle.dsd_exporter.proofs.state.State.register_owned_counter.Goals.{After-register_counter}

abbrev exporter : After-register_counter → Exporter
exporter c = record { settings = settings_of c.self.inside.configuration; series = c.self.inside.series }

pub returns-then-number-lt18446744073709551615-clause-registered : goal.returns-then-number-lt18446744073709551615-clause-registered
returns-then-number-lt18446744073709551615-clause-registered c =
    rw (← c.self.view_is) (IfOk-weaker c.register_counter.result _ _
    (λ id r. (counter_given _ c.args.key id c.self.inside.series c.register_counter.new.self (λ cell made. search rules) (λ full. absurd (omega (arith, c.if-number-lt18446744073709551615.true, c.made-number.ensures.made, full))) c.made-number.ensures.numbered.counters.1 r).registered) c.register_counter.ensures.registered)

pub returns-then-number-lt18446744073709551615-clause-cells : goal.returns-then-number-lt18446744073709551615-clause-cells
returns-then-number-lt18446744073709551615-clause-cells c =
    rw (← c.self.view_is) (IfOk-weaker c.register_counter.result _ _
    (λ id r. counter_adds c.args.key id (exporter c) c.register_counter.new.self
    (counter_given _ c.args.key id c.self.inside.series c.register_counter.new.self (λ cell made. search rules) (λ full. absurd (omega (arith, c.if-number-lt18446744073709551615.true, c.made-number.ensures.made, full))) c.made-number.ensures.numbered.counters.1 r)) c.register_counter.ensures.registered)

pub returns-then-number-lt18446744073709551615-clause-home : goal.returns-then-number-lt18446744073709551615-clause-home
returns-then-number-lt18446744073709551615-clause-home c =
    rw (← c.self.view_is) (either_way _ _ _ c.register_counter.result c.register_counter.ensures.registered c.register_counter.ensures.refused
    (λ id r. counter_home c.args.key id (exporter c) c.register_counter.new.self
    (counter_given _ c.args.key id c.self.inside.series c.register_counter.new.self (λ cell made. search rules) (λ full. absurd (omega (arith, c.if-number-lt18446744073709551615.true, c.made-number.ensures.made, full))) c.made-number.ensures.numbered.counters.1 r))
    (λ same. rw same (λ home. home)))

pub returns-then-number-lt18446744073709551615-clause-id : goal.returns-then-number-lt18446744073709551615-clause-id
returns-then-number-lt18446744073709551615-clause-id c =
    rw (← c.self.view_is) (IfOk-weaker c.register_counter.result _ _
    (λ id r. (counter_given _ c.args.key id c.self.inside.series c.register_counter.new.self (λ cell made. search rules) (λ full. absurd (omega (arith, c.if-number-lt18446744073709551615.true, c.made-number.ensures.made, full))) c.made-number.ensures.numbered.counters.1 r).id_is) c.register_counter.ensures.registered)

pub returns-in-Some-clause-id : goal.returns-in-Some-clause-id
returns-in-Some-clause-id c =
    let series = c.self.inside.series in
    rw (← c.self.view_is) (id-there Counter c.args.key series series.made series.counters c.in-Some.id c.made-number.ensures.numbered.counters.1 (sym c.in-Some.ensures) (sym c.in-Some.ensures))

pub returns-then-number-lt18446744073709551615-clause-absent : goal.returns-then-number-lt18446744073709551615-clause-absent
returns-then-number-lt18446744073709551615-clause-absent c =
    rw (← c.self.view_is) (on_err_weaker c.register_counter.result (number-none Counter c.args.key c.self.inside.series) c.register_counter.ensures.absent)

pub invariant_of-self : goal.invariant_of-self
invariant_of-self c =
    either_way _ _ _ c.register_counter.result c.register_counter.ensures.registered c.register_counter.ensures.refused
    (λ id r. c.self.invariant ∙ ap keys_of (sym (counter_leaves_gauges c.args.key id c.self.inside.series c.register_counter.new.self _ r)))
    (λ same. c.self.invariant ∙ ap (λ (s : Cells). keys_of s.gauges) (sym same))
