use Rattle.std.proofs.Common.{map, sym, ap, subst, ◌∙◌}
use Rattle.metrics_core.specs.declared.kinds.MetricKind.TheVariants as kinds
use Rattle.metrics_registry.specs.Live.{IsNumbered}
use Rattle.prom_exporter.specs.Exporter.{AllHome, Exporter, state_of}
use Rattle.prom_exporter.specs.Lending.{LendsGauge}
use Rattle.dsd_receiver.specs.Received.{after_calls}
use Rattle.dsd_receiver.specs.Passes.{IsSettled}
use Rattle.dsd_receiver.proofs.Changing.{gauge_called, gauge_held, gauge_home, gauge_lent, gauge_none}
use Rattle.dsd_receiver.proofs.calls.call_gauge.Goals as goal

pub returns-in_default-clause-called : goal.returns-in_default-clause-called
returns-in_default-clause-called g c =
    let same = c.settle.ensures.same in
    let numbered = subst (λ (e : Exporter). IsNumbered e.series) (sym same) c.settle.ensures.numbered in
    let none = subst (λ o. LendsGauge c.args.id o c.settle.new.state c.lend_gauge.new.self) c.in_default.is c.in_ok-lent.ensures.lent in
    ap state_of none.1 ∙ gauge_none c.settle.new.state c.args.id numbered (map g.C.GaugeChange.call c.args.changes.now) c.requires.kind none.0
    ∙ ap (λ e. after_calls kinds.Gauge c.args.id.number (map g.C.GaugeChange.call c.args.changes.now) (state_of e)) same

pub change_each-requires : goal.change_each-requires
change_each-requires g c =
    let numbered = subst (λ (e : Exporter). IsNumbered e.series) (sym c.settle.ensures.same) c.settle.ensures.numbered in
    let lends = subst (λ o. LendsGauge c.args.id o c.settle.new.state c.lend_gauge.new.self) c.in-Some.is c.in_ok-lent.ensures.lent in
    record { held = gauge_held c.settle.new.state c.args.id numbered c.in-Some.lent c.lend_gauge.new.self lends }

pub give_back_gauge-requires : goal.give_back_gauge-requires
give_back_gauge-requires g c =
    let numbered = subst (λ (e : Exporter). IsNumbered e.series) (sym c.settle.ensures.same) c.settle.ensures.numbered in
    let lends = subst (λ o. LendsGauge c.args.id o c.settle.new.state c.lend_gauge.new.self) c.in-Some.is c.in_ok-lent.ensures.lent in
    record { lent = gauge_lent c.settle.new.state c.args.id numbered c.in-Some.lent c.lend_gauge.new.self lends c.change_each.new.pass c.change_each.ensures.held }

pub returns-clause-home : goal.returns-clause-home
returns-clause-home g c =
    let same = c.settle.ensures.same in
    let numbered = subst (λ (e : Exporter). IsNumbered e.series) (sym same) c.settle.ensures.numbered in
    let lends = subst (λ o. LendsGauge c.args.id o c.settle.new.state c.lend_gauge.new.self) c.in-Some.is c.in_ok-lent.ensures.lent in
    gauge_home c.settle.new.state c.args.id numbered c.in-Some.lent c.lend_gauge.new.self lends c.change_each.new.pass c.give_back_gauge.new.self c.requires.kind
    (subst AllHome (sym same) c.requires.home) (subst (IsSettled c.args.id) (sym same) c.settle.ensures.settled) (map g.C.GaugeChange.call c.args.changes.now) c.change_each.ensures.calls c.give_back_gauge.ensures.taken

pub returns-clause-called : goal.returns-clause-called
returns-clause-called g c =
    let same = c.settle.ensures.same in
    let numbered = subst (λ (e : Exporter). IsNumbered e.series) (sym same) c.settle.ensures.numbered in
    let lends = subst (λ o. LendsGauge c.args.id o c.settle.new.state c.lend_gauge.new.self) c.in-Some.is c.in_ok-lent.ensures.lent in
    gauge_called c.settle.new.state c.args.id numbered c.in-Some.lent c.lend_gauge.new.self lends c.change_each.new.pass c.give_back_gauge.new.self c.requires.kind
    (subst AllHome (sym same) c.requires.home) (subst (IsSettled c.args.id) (sym same) c.settle.ensures.settled) (map g.C.GaugeChange.call c.args.changes.now) c.change_each.ensures.calls c.give_back_gauge.ensures.taken
    ∙ ap (λ e. after_calls kinds.Gauge c.args.id.number (map g.C.GaugeChange.call c.args.changes.now) (state_of e)) same
