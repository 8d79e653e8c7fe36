use Rattle.std.proofs.Common.{length, take, sym, ap, subst, ◌∙◌}
use Rattle.metrics_core.specs.declared.kinds.MetricKind.TheVariants as kinds
use Rattle.metrics_registry.specs.Live.{IsNumbered}
use Rattle.dsd_lines.specs.Texts.{numbers_of}
use Rattle.prom_exporter.specs.Exporter.{AllHome, Exporter, state_of}
use Rattle.prom_exporter.specs.Lending.{LendsHistogram}
use Rattle.dsd_receiver.specs.Received.{after_calls, records}
use Rattle.dsd_receiver.specs.Passes.{IsSettled}
use Rattle.dsd_receiver.proofs.Changing.{histogram_called, histogram_home, histogram_id, histogram_lent, histogram_none}
use Rattle.dsd_receiver.proofs.calls.call_histogram.Goals as goal

pub returns-in-Ok-None-clause-called : goal.returns-in-Ok-None-clause-called
returns-in-Ok-None-clause-called g c =
    let same = c.settle.ensures.same in
    let numbered = subst (λ (e : Exporter). IsNumbered e.series) (sym same) c.settle.ensures.numbered in
    let none = subst (λ o. LendsHistogram c.args.id o c.settle.new.state c.lend_histogram.new.self) c.in-Ok-None.field-0-is c.in-Ok-None.ensures.lent in
    let calls = take (length c.args.values.now) (records c.args.moment c.args.times (numbers_of c.args.values.now)) in
    ap state_of none.1 ∙ histogram_none c.settle.new.state c.args.id numbered calls c.requires.kind none.0
    ∙ ap (λ e. after_calls kinds.Histogram c.args.id.number calls (state_of e)) same

pub give_back_histogram-requires : goal.give_back_histogram-requires
give_back_histogram-requires g c =
    let numbered = subst (λ (e : Exporter). IsNumbered e.series) (sym c.settle.ensures.same) c.settle.ensures.numbered in
    let lends = subst (λ o. LendsHistogram c.args.id o c.settle.new.state c.lend_histogram.new.self) c.in-Ok-Some.field-0-is c.in-Ok-Some.ensures.lent in
    record { lent = histogram_lent c.settle.new.state c.args.id numbered c.in-Ok-Some.lent c.lend_histogram.new.self lends c.record_each-done.new.pass c.record_each-done.ensures.held }

pub settle-requires-2 : goal.settle-requires-2
settle-requires-2 g c =
    let same = c.settle.ensures.same in
    let numbered = subst (λ (e : Exporter). IsNumbered e.series) (sym same) c.settle.ensures.numbered in
    let lends = subst (λ o. LendsHistogram c.args.id o c.settle.new.state c.lend_histogram.new.self) c.in-Ok-Some.field-0-is c.in-Ok-Some.ensures.lent in
    record {
      home = histogram_home c.settle.new.state c.args.id numbered c.in-Ok-Some.lent c.lend_histogram.new.self lends c.record_each-done.new.pass c.give_back_histogram.new.self
          c.give_back_histogram.ensures.taken c.requires.kind (subst AllHome (sym same) c.requires.home);
    }

pub returns-clause-home : goal.returns-clause-home
returns-clause-home g c =
    let same = c.settle.ensures.same in
    let numbered = subst (λ (e : Exporter). IsNumbered e.series) (sym same) c.settle.ensures.numbered in
    let lends = subst (λ o. LendsHistogram c.args.id o c.settle.new.state c.lend_histogram.new.self) c.in-Ok-Some.field-0-is c.in-Ok-Some.ensures.lent in
    subst AllHome (sym c.settle-2.ensures.same)
    (histogram_home c.settle.new.state c.args.id numbered c.in-Ok-Some.lent c.lend_histogram.new.self lends c.record_each-done.new.pass c.give_back_histogram.new.self
    c.give_back_histogram.ensures.taken c.requires.kind (subst AllHome (sym same) c.requires.home))

pub returns-clause-called : goal.returns-clause-called
returns-clause-called g c =
    let same = c.settle.ensures.same in
    let numbered = subst (λ (e : Exporter). IsNumbered e.series) (sym same) c.settle.ensures.numbered in
    let lends = subst (λ o. LendsHistogram c.args.id o c.settle.new.state c.lend_histogram.new.self) c.in-Ok-Some.field-0-is c.in-Ok-Some.ensures.lent in
    let calls = take c.record_each-done.result (records c.args.moment c.args.times (numbers_of c.args.values.now)) in
    let id = histogram_id c.settle.new.state c.args.id numbered c.in-Ok-Some.lent c.lend_histogram.new.self lends in
    ap state_of c.settle-2.ensures.same
    ∙ histogram_called c.settle.new.state c.args.id numbered c.in-Ok-Some.lent c.lend_histogram.new.self lends c.record_each-done.new.pass c.give_back_histogram.new.self
    c.give_back_histogram.ensures.taken c.requires.kind (subst AllHome (sym same) c.requires.home)
    (subst (IsSettled c.args.id) (sym same) c.settle.ensures.settled) (subst (λ i. IsSettled i c.give_back_histogram.new.self) id c.settle-2.ensures.settled) calls c.record_each-done.ensures.calls
    ∙ ap (λ e. after_calls kinds.Histogram c.args.id.number calls (state_of e)) same
