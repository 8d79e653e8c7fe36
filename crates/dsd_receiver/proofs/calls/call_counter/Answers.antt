use Rattle.std.proofs.Common.{sym, ap, subst, ◌∙◌}
use Rattle.metrics_core.specs.declared.kinds.MetricKind.TheVariants as kinds
use Rattle.metrics_registry.specs.Live.{IsNumbered}
use Rattle.prom_exporter.specs.Exporter.{AllHome, Exporter, state_of}
use Rattle.prom_exporter.specs.Lending.{LendsCounter}
use Rattle.dsd_receiver.specs.Received.{after_calls, increments}
use Rattle.dsd_receiver.specs.Passes.{IsSettled}
use Rattle.dsd_receiver.proofs.Changing.{counter_called, counter_held, counter_home, counter_lent, counter_none}
use Rattle.dsd_receiver.proofs.calls.call_counter.Goals as goal

pub returns-in_default-clause-called : goal.returns-in_default-clause-called
returns-in_default-clause-called g c =
    let same = c.settle.ensures.same in
    let numbered = subst (λ (e : Exporter). IsNumbered e.series) (sym same) c.settle.ensures.numbered in
    let none = subst (λ o. LendsCounter c.args.id o c.settle.new.state c.lend_counter.new.self) c.in_default.is c.in_ok-lent.ensures.lent in
    ap state_of none.1 ∙ counter_none c.settle.new.state c.args.id numbered (increments c.args.rate c.args.counts.now) c.requires.kind none.0
    ∙ ap (λ e. after_calls kinds.Counter c.args.id.number (increments c.args.rate c.args.counts.now) (state_of e)) same

pub increment_all-requires-clause-held : goal.increment_all-requires-clause-held
increment_all-requires-clause-held g c =
    let numbered = subst (λ (e : Exporter). IsNumbered e.series) (sym c.settle.ensures.same) c.settle.ensures.numbered in
    let lends = subst (λ o. LendsCounter c.args.id o c.settle.new.state c.lend_counter.new.self) c.in-Some.is c.in_ok-lent.ensures.lent in
    counter_held c.settle.new.state c.args.id numbered c.in-Some.lent c.lend_counter.new.self lends

pub give_back_counter-requires : goal.give_back_counter-requires
give_back_counter-requires g c =
    let numbered = subst (λ (e : Exporter). IsNumbered e.series) (sym c.settle.ensures.same) c.settle.ensures.numbered in
    let lends = subst (λ o. LendsCounter c.args.id o c.settle.new.state c.lend_counter.new.self) c.in-Some.is c.in_ok-lent.ensures.lent in
    record { lent = counter_lent c.settle.new.state c.args.id numbered c.in-Some.lent c.lend_counter.new.self lends c.increment_all.new.pass c.increment_all.ensures.held }

pub returns-clause-home : goal.returns-clause-home
returns-clause-home g c =
    let same = c.settle.ensures.same in
    let numbered = subst (λ (e : Exporter). IsNumbered e.series) (sym same) c.settle.ensures.numbered in
    let lends = subst (λ o. LendsCounter c.args.id o c.settle.new.state c.lend_counter.new.self) c.in-Some.is c.in_ok-lent.ensures.lent in
    counter_home c.settle.new.state c.args.id numbered c.in-Some.lent c.lend_counter.new.self lends c.increment_all.new.pass c.give_back_counter.new.self c.requires.kind
    (subst AllHome (sym same) c.requires.home) (subst (IsSettled c.args.id) (sym same) c.settle.ensures.settled) (increments c.args.rate c.args.counts.now) c.increment_all.ensures.calls c.give_back_counter.ensures.taken

pub returns-clause-called : goal.returns-clause-called
returns-clause-called g c =
    let same = c.settle.ensures.same in
    let numbered = subst (λ (e : Exporter). IsNumbered e.series) (sym same) c.settle.ensures.numbered in
    let lends = subst (λ o. LendsCounter c.args.id o c.settle.new.state c.lend_counter.new.self) c.in-Some.is c.in_ok-lent.ensures.lent in
    counter_called c.settle.new.state c.args.id numbered c.in-Some.lent c.lend_counter.new.self lends c.increment_all.new.pass c.give_back_counter.new.self c.requires.kind
    (subst AllHome (sym same) c.requires.home) (subst (IsSettled c.args.id) (sym same) c.settle.ensures.settled) (increments c.args.rate c.args.counts.now) c.increment_all.ensures.calls c.give_back_counter.ensures.taken
    ∙ ap (λ e. after_calls kinds.Counter c.args.id.number (increments c.args.rate c.args.counts.now) (state_of e)) same
