use Rattle.std.proofs.Common.{sym, subst, ◌∙◌}
use Rattle.dsd_receiver.specs.Passes.{MakesRecords}
use Rattle.dsd_receiver.proofs.Loops.{first_records, record_stands, recorded_more, recorded_still, records_more}
use Rattle.dsd_receiver.proofs.calls.record_each.Goals as goal

pub returns-then-is_err-clause-calls : goal.returns-then-is_err-clause-calls
returns-then-is_err-clause-calls g c =
    let stands = record_stands c.args.histogram.now c.loop-place.pass c.record_many-recorded.new.pass _ c.record_many-recorded.result c.loop-place.invariant.held c.record_many-recorded.ensures in
    subst (λ cs. MakesRecords c.args.pass.now cs c.record_many-recorded.new.pass) (first_records c.args.moment c.args.times c.loop-place.place c.args.values.now)
    (recorded_still c.args.pass.now c.loop-place.pass c.record_many-recorded.new.pass _ c.loop-place.invariant.calls (stands.2 (sym c.is_err.ensures.value ∙ c.if-is_err.true)))

pub loop-place-preserved : goal.loop-place-preserved
loop-place-preserved g c =
    let stands = record_stands c.args.histogram.now c.loop-place.pass c.record_many-recorded.new.pass _ c.record_many-recorded.result c.loop-place.invariant.held c.record_many-recorded.ensures in
    record {
      held = stands.0;
      calls = subst (λ cs. MakesRecords c.args.pass.now cs c.record_many-recorded.new.pass) (records_more c.args.moment c.args.times c.args.values.now c.loop-place.place _ c.loop-place-test.true)
          (recorded_more c.args.pass.now c.loop-place.pass c.record_many-recorded.new.pass _ _ c.args.moment c.args.times c.requires.times c.loop-place.invariant.calls
          (stands.1 (sym c.is_err.ensures.value ∙ c.if-is_err.false)));
    }
