use Rattle.std.proofs.Common.{ℕ, subst, sym}
use Rattle.std.specs.Prelude.{IfSome, Result}
use Rattle.metrics_core.specs.Characters.{line}
use Rattle.metrics_core.specs.Outside.{Rose}
use Rattle.dsd_addresses.specs.Remotes.{remote_text}
use Rattle.drive_script.specs.Faults.{fault_text}
use Rattle.drive_script.specs.declared.faults.DriveFault.{DriveFault}
use Rattle.program_words.specs.Answers.{IsAimed, IsComplete, LeavesSource, done, end_status, report_text}
use Rattle.program_words.specs.Devices.{LinkRun, SinkRun, SourceRun, link_run, sink_run, source_run}
use Rattle.program_words.specs.Ends.{IsDriveEnd}
use Rattle.script_player.specs.declared.report.Report.{Report}
use Rattle.program_words.proofs.DriveEnds.{failed_ends, played_ends}
use Rattle.program_words.proofs.DriveSteps.{unplayed_of_status}
use Rattle.program_words.proofs.Sayings.{fault_line}
use Rattle.program_words.proofs.running.run_drive.Goals as goal

pub returns-in-Ok-clause-ends : goal.returns-in-Ok-clause-ends
returns-in-Ok-clause-ends g c =
    let to = remote_text c.args.to.now in
    let source : SourceRun = source_run g.S.Source.left g.S.Source.faults c.args.source.now c.drive.new.source in
    let out : SinkRun = sink_run g.K.Sink.written g.K.Sink.faults c.args.out.now c.drive.new.out in
    let err : SinkRun = sink_run g.E.Sink.written g.E.Sink.faults c.args.err.now c.say_report.new.err in
    let link : LinkRun = link_run g.L.Link.sent g.L.Link.faults g.L.Link.aimed c.args.link.now c.drive.new.link in
    let Aimed : Result Report DriveFault → Type 0 = λ r. IsAimed to link.aimed link.aimed' (end_status r) in
    let Left : Result Report DriveFault → Type 0 = λ r. IfSome source.left (λ bytes. LeavesSource bytes source.left' (end_status r)) in
    let Whole : Result Report DriveFault → Type 0 = λ r. IfSome source.left (λ bytes. IsComplete to bytes (Rose source.faults source.faults') (Rose out.faults out.faults') (end_status r)) in
    played_ends to source out err link c.in-Ok.report c.in-Ok.ensures.played c.in-Ok.ensures.sent (subst Aimed c.in-Ok.is c.drive.ensures.devices.aimed_at) (subst Left c.in-Ok.is c.drive.ensures.devices.source)
    (subst Whole c.in-Ok.is c.drive.ensures.complete)
    (record { text = line (report_text c.in-Ok.report); meant = done c.in-Ok.report c.in-Ok.ensures.sent; written = c.say_report.ensures.said })

pub returns-in-Err-clause-ends : goal.returns-in-Err-clause-ends
returns-in-Err-clause-ends g c =
    let to = remote_text c.args.to.now in
    let source : SourceRun = source_run g.S.Source.left g.S.Source.faults c.args.source.now c.drive.new.source in
    let out : SinkRun = sink_run g.K.Sink.written g.K.Sink.faults c.args.out.now c.drive.new.out in
    let err : SinkRun = sink_run g.E.Sink.written g.E.Sink.faults c.args.err.now c.say_fault.new.err in
    let link : LinkRun = link_run g.L.Link.sent g.L.Link.faults g.L.Link.aimed c.args.link.now c.drive.new.link in
    let fault = c.in-Err.fault in
    let Aimed : Result Report DriveFault → Type 0 = λ r. IsAimed to link.aimed link.aimed' (end_status r) in
    let Left : Result Report DriveFault → Type 0 = λ r. IfSome source.left (λ bytes. LeavesSource bytes source.left' (end_status r)) in
    let Whole : Result Report DriveFault → Type 0 = λ r. IfSome source.left (λ bytes. IsComplete to bytes (Rose source.faults source.faults') (Rose out.faults out.faults') (end_status r)) in
    let P : ℕ → Type 0 = λ status. IsDriveEnd to source out err link status in
    subst P (sym c.status_of.ensures)
    (failed_ends to source out err link fault c.in-Err.ensures.cause c.in-Err.ensures.leaves.unplayed c.in-Err.ensures.leaves.prefix c.in-Err.ensures.leaves.in_part
    (subst Aimed c.in-Err.is c.drive.ensures.devices.aimed_at) (subst Left c.in-Err.is c.drive.ensures.devices.source) (subst Whole c.in-Err.is c.drive.ensures.complete)
    (record { text = line (fault_text fault); meant = fault_line to source.left link.told link.told' _ _ fault c.in-Err.ensures.cause.told; written = c.say_fault.ensures.said }))

pub returns-in-Err-clause-unsent : goal.returns-in-Err-clause-unsent
returns-in-Err-clause-unsent g c = λ is. unplayed_of_status _ c.in-Err.fault c.in-Err.ensures.leaves.unsent _ (sym c.status_of.ensures) is
