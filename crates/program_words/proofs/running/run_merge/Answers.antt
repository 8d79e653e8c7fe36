use Rattle.std.proofs.Common.{◌≡◌, ℕ, List, refl, subst, sym}
use Rattle.std.specs.Prelude.{IfSome}
use Rattle.metrics_core.specs.Characters.{line}
use Rattle.drive_script.specs.Faults.{fault_text}
use Rattle.program_words.specs.Answers.{LeavesSource, end_status}
use Rattle.program_words.specs.Devices.{SinkRun, SourceRun, sink_run, source_run}
use Rattle.program_words.specs.Ends.{IsMergeEnd}
use Rattle.program_words.specs.Relay.{IsWithinLimit, merged_text, relay_fault_text}
use Rattle.program_words.proofs.ReadingSteps.{read_out}
use Rattle.program_words.proofs.RelaySteps.{done_ends, done_line, refused_ends, refused_line, relayed_in_time, unread_ends, unread_line}
use Rattle.program_words.proofs.running.run_merge.Goals as goal

pub returns-in-Err : goal.returns-in-Err
returns-in-Err g c =
    let source : SourceRun = source_run g.S.Source.left g.S.Source.faults c.args.source.now c.read_all.new.source in
    let out : SinkRun = sink_run g.K.Sink.written g.K.Sink.faults c.args.out.now c.args.out.now in
    let err : SinkRun = sink_run g.E.Sink.written g.E.Sink.faults c.args.err.now c.say_fault.new.err in
    let fault = c.in-Err.fault in
    let Left : ℕ → Type 0 = λ status. IfSome source.left (λ bytes. LeavesSource bytes source.left' status) in
    let P : ℕ → Type 0 = λ status. IsMergeEnd source out err status in
    record {
      ends = subst P (sym c.status_of.ensures)
          (unread_ends source out err fault c.in-Err.ensures.refused refl (subst (λ r. Left (end_status r)) c.in-Err.is c.read_all.ensures.left)
          (record { text = line (fault_text fault); meant = unread_line source.left _ fault c.in-Err.ensures.refused; written = c.say_fault.ensures.said }));
    }

pub returns-in-Ok-relay : goal.returns-in-Ok-relay
returns-in-Ok-relay g c =
    let source : SourceRun = source_run g.S.Source.left g.S.Source.faults c.args.source.now c.read_all.new.source in
    let out : SinkRun = sink_run g.K.Sink.written g.K.Sink.faults c.args.out.now c.relay.new.out in
    let err : SinkRun = sink_run g.E.Sink.written g.E.Sink.faults c.args.err.now c.say_merged.new.err in
    let Whole : List ℕ → Type 0 = λ items. IfSome source.left (λ bytes. items ≡ bytes) in
    let Left : ℕ → Type 0 = λ status. IfSome source.left (λ bytes. LeavesSource bytes source.left' status) in
    let whole : Whole c.deref.result.now = subst Whole (sym c.deref.ensures.value) c.in-Ok.ensures.whole in
    record {
      ends = done_ends source out err c.deref.result.now whole (subst IsWithinLimit (sym c.deref.ensures.value) c.in-Ok.ensures.within) c.in-Ok-relay.ensures.relayed
          (subst (λ r. Left (end_status r)) c.in-Ok.is c.read_all.ensures.left)
          (record { text = line (merged_text c.in-Ok-relay.pages); meant = done_line source.left c.deref.result.now _ whole c.in-Ok-relay.ensures.counted; written = c.say_merged.ensures.said });
    }

pub returns : goal.returns
returns g c =
    let source : SourceRun = source_run g.S.Source.left g.S.Source.faults c.args.source.now c.read_all.new.source in
    let out : SinkRun = sink_run g.K.Sink.written g.K.Sink.faults c.args.out.now c.relay.new.out in
    let err : SinkRun = sink_run g.E.Sink.written g.E.Sink.faults c.args.err.now c.say_relay_fault.new.err in
    let fault = c.in-Err-relay.fault in
    let Whole : List ℕ → Type 0 = λ items. IfSome source.left (λ bytes. items ≡ bytes) in
    let Left : ℕ → Type 0 = λ status. IfSome source.left (λ bytes. LeavesSource bytes source.left' status) in
    let P : ℕ → Type 0 = λ status. IsMergeEnd source out err status in
    let whole : Whole c.deref.result.now = subst Whole (sym c.deref.ensures.value) c.in-Ok.ensures.whole in
    let within : IsWithinLimit c.deref.result.now = subst IsWithinLimit (sym c.deref.ensures.value) c.in-Ok.ensures.within in
    record {
      ends = subst P (sym c.relay_status_of.ensures)
          (refused_ends source out err c.deref.result.now fault whole within c.in-Err-relay.ensures.cause c.in-Err-relay.ensures.leaves
          (read_out source.left source.left' _ (subst (λ r. Left (end_status r)) c.in-Ok.is c.read_all.ensures.left) (relayed_in_time fault))
          (record {
            text = line (relay_fault_text fault);
            meant = refused_line source.left c.deref.result.now _ fault whole within c.in-Err-relay.ensures.cause;
            written = c.say_relay_fault.ensures.said;
          }));
    }
