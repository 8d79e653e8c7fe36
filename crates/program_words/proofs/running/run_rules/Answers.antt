use Rattle.std.proofs.Common.{◌≡◌, ℕ, List, refl, subst, sym}
use Rattle.std.specs.Prelude.{IfSome}
use Rattle.metrics_core.specs.Characters.{line}
use Rattle.drive_script.specs.Faults.{fault_text}
use Rattle.program_words.specs.Answers.{LeavesSource, end_status}
use Rattle.program_words.specs.Devices.{SinkRun, SourceRun, sink_run, source_run}
use Rattle.program_words.specs.Ends.{IsRulesEnd}
use Rattle.program_words.specs.Evaluate.{evaluated_line, evaluation_fault_text}
use Rattle.program_words.specs.Relay.{IsWithinLimit}
use Rattle.program_words.proofs.ReadingSteps.{read_out}
use Rattle.program_words.proofs.RulesSteps.{done_ends, done_line, evaluated_in_time, refused_ends, refused_line, unread_ends, unread_line}
use Rattle.program_words.proofs.running.run_rules.Goals as goal

pub returns-in-Err : goal.returns-in-Err
returns-in-Err g c =
    let source : SourceRun = source_run g.S.Source.left g.S.Source.faults c.args.source.now c.read_all.new.source in
    let out : SinkRun = sink_run g.K.Sink.written g.K.Sink.faults c.args.out.now c.args.out.now in
    let err : SinkRun = sink_run g.E.Sink.written g.E.Sink.faults c.args.err.now c.say_fault.new.err in
    let fault = c.in-Err.fault in
    let Left : ℕ → Type 0 = λ status. IfSome source.left (λ bytes. LeavesSource bytes source.left' status) in
    let P : ℕ → Type 0 = λ status. IsRulesEnd source out err status in
    record {
      ends = subst P (sym c.status_of.ensures)
          (unread_ends source out err fault c.in-Err.ensures.refused refl (subst (λ r. Left (end_status r)) c.in-Err.is c.read_all.ensures.left)
          (record { text = line (fault_text fault); meant = unread_line source.left _ fault c.in-Err.ensures.refused; written = c.say_fault.ensures.said }));
    }

pub returns-in-Ok-evaluate : goal.returns-in-Ok-evaluate
returns-in-Ok-evaluate g c =
    let source : SourceRun = source_run g.S.Source.left g.S.Source.faults c.args.source.now c.read_all.new.source in
    let out : SinkRun = sink_run g.K.Sink.written g.K.Sink.faults c.args.out.now c.evaluate.new.out in
    let err : SinkRun = sink_run g.E.Sink.written g.E.Sink.faults c.args.err.now c.say_evaluated.new.err in
    let Whole : List ℕ → Type 0 = λ items. IfSome source.left (λ bytes. items ≡ bytes) in
    let Left : ℕ → Type 0 = λ status. IfSome source.left (λ bytes. LeavesSource bytes source.left' status) in
    let whole : Whole c.deref.result.now = subst Whole (sym c.deref.ensures.value) c.in-Ok.ensures.whole in
    record {
      ends = done_ends source out err c.deref.result.now whole (subst IsWithinLimit (sym c.deref.ensures.value) c.in-Ok.ensures.within) c.in-Ok-evaluate.ensures.evaluated
          (subst (λ r. Left (end_status r)) c.in-Ok.is c.read_all.ensures.left)
          (record { text = line (evaluated_line c.in-Ok-evaluate.evaluated); meant = done_line source.left c.deref.result.now _ whole c.in-Ok-evaluate.ensures.counted; written = c.say_evaluated.ensures.said });
    }

pub returns : goal.returns
returns g c =
    let source : SourceRun = source_run g.S.Source.left g.S.Source.faults c.args.source.now c.read_all.new.source in
    let out : SinkRun = sink_run g.K.Sink.written g.K.Sink.faults c.args.out.now c.evaluate.new.out in
    let err : SinkRun = sink_run g.E.Sink.written g.E.Sink.faults c.args.err.now c.say_evaluation_fault.new.err in
    let fault = c.in-Err-evaluate.fault in
    let Whole : List ℕ → Type 0 = λ items. IfSome source.left (λ bytes. items ≡ bytes) in
    let Left : ℕ → Type 0 = λ status. IfSome source.left (λ bytes. LeavesSource bytes source.left' status) in
    let P : ℕ → Type 0 = λ status. IsRulesEnd source out err status in
    let whole : Whole c.deref.result.now = subst Whole (sym c.deref.ensures.value) c.in-Ok.ensures.whole in
    let within : IsWithinLimit c.deref.result.now = subst IsWithinLimit (sym c.deref.ensures.value) c.in-Ok.ensures.within in
    record {
      ends = subst P (sym c.evaluation_status_of.ensures)
          (refused_ends source out err c.deref.result.now fault whole within c.in-Err-evaluate.ensures.cause c.in-Err-evaluate.ensures.leaves
          (read_out source.left source.left' _ (subst (λ r. Left (end_status r)) c.in-Ok.is c.read_all.ensures.left) (evaluated_in_time fault))
          (record {
            text = line (evaluation_fault_text fault);
            meant = refused_line source.left c.deref.result.now _ fault whole within c.in-Err-evaluate.ensures.cause;
            written = c.say_evaluation_fault.ensures.said;
          }));
    }
