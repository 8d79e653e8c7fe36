use Rattle.std.proofs.Common.{◌≡◌, ◌∙◌, [], refl, arith}
use Rattle.std.specs.Prelude.{IfSome}
use Rattle.std.proofs.lemmas.Result.{IfOk-weaker}
use Rattle.dsd_addresses.specs.Remotes.{remote_text}
use Rattle.drive_script.specs.declared.faults.DriveFault.TheVariants as faults
use Rattle.script_player.specs.Flushes.{flush_start}
use Rattle.script_player.specs.Play.{play_start}
use Rattle.script_player.specs.Rounds.{CutsScript}
use Rattle.script_player.specs.Sent.{IsSent, LinkTold, none_sent}
use Rattle.script_player.proofs.Delivered.{sent-earlier}
use Rattle.script_player.proofs.PagesSoFar.{ends_within-earlier}
use Rattle.metrics_core.specs.Outside.{Rose}
use Rattle.drive_script.specs.Texts.{script_of}
use Rattle.script_player.specs.Faults.{IsPlayFault}
use Rattle.program_words.specs.Answers.{ComesBy, IsAimed, LeavesRun, LeavesSource, end_status}
use Rattle.program_words.proofs.DriveSteps.{complete_handed_on, cut_leaves, err_with, good_answers, memory_comes, now_aimed, play_comes, play_ends, play_reads, played_whole, refused_answers, refused_leaves, reported, setting_refused, status_handed_on, still_aimed, unaimed_leaves, unread_aimed, unread_answers, unread_comes, unread_leaves}
use Rattle.program_words.proofs.ReadingSteps.{read_out}
use Rattle.script_player.proofs.Returned.{if_handed_on, when_returned}
use Rattle.program_words.proofs.RecordedRounds.{script_records}
use Rattle.script_player.proofs.TimelyRounds.{rise_from_start}
use Rattle.program_words.proofs.driving.drive.Goals as goal

pub play_script-requires-clause-can : goal.play_script-requires-clause-can
play_script-requires-clause-can g c κs within =
    let script = script_of c.in_ok-script.script in
    let good = c.in_ok-script.ensures.read.good in
    record { allowed = c.in_ok-check_settings.ensures.allowed; fit = ([], refl, good.1.1.handles); some = script_records _ script good.1.0; moments = rise_from_start script.rounds good.1.1.moments }

pub returns-in_err-script-clause-complete : goal.returns-in_err-script-clause-complete
returns-in_err-script-clause-complete g c =
    let SourceFailed : Type 0 = Rose (g.S.Source.faults c.args.source.now) (g.S.Source.faults c.read_whole_script.new.source) in
    let SinkFailed : Type 0 = Rose (g.K.Sink.faults c.args.out.now) (g.K.Sink.faults c.args.out.now) in
    let left = g.S.Source.left c.args.source.now in
    complete_handed_on _ left SourceFailed SinkFailed c.from_residual.result _ c.from_residual.ensures.1
    (unread_answers _ left SourceFailed SinkFailed _ c.in_err-script.ensures.refused)

pub returns-clause-played : goal.returns-clause-played
returns-clause-played g c =
    let read = c.in_ok-script.ensures.read in
    when_returned c.play_script.result c.play_script.ensures.played (λ report played. played_whole _ _ read.bytes (script_of c.in_ok-script.script) _ _ read.whole read.good c.in_ok-check_settings.ensures.allowed played.pages)

pub returns-clause-cause : goal.returns-clause-cause
returns-clause-cause g c =
    let SourceFailed : Type 0 = Rose (g.S.Source.faults c.args.source.now) (g.S.Source.faults c.read_whole_script.new.source) in
    let SinkFailed : Type 0 = Rose (g.K.Sink.faults c.args.out.now) (g.K.Sink.faults c.play_script.new.out) in
    play_comes (remote_text c.args.to.now) (g.S.Source.left c.args.source.now) SourceFailed SinkFailed c.play_script.result c.play_script.ensures.cause

pub returns-clause-complete : goal.returns-clause-complete
returns-clause-complete g c =
    let read = c.in_ok-script.ensures.read in
    good_answers _ _ read.bytes _ _ (script_of c.in_ok-script.script) (end_status c.play_script.result) read.whole read.good.0 read.good.1 c.in_ok-check_settings.ensures.allowed
    (play_ends (Rose (g.K.Sink.faults c.args.out.now) (g.K.Sink.faults c.play_script.new.out)) c.play_script.result c.play_script.ensures.cause)

pub returns-in_err-check_settings-clause-complete : goal.returns-in_err-check_settings-clause-complete
returns-in_err-check_settings-clause-complete g c =
    let SourceFailed : Type 0 = Rose (g.S.Source.faults c.args.source.now) (g.S.Source.faults c.read_whole_script.new.source) in
    let SinkFailed : Type 0 = Rose (g.K.Sink.faults c.args.out.now) (g.K.Sink.faults c.args.out.now) in
    let left = g.S.Source.left c.args.source.now in
    let read = c.in_ok-script.ensures.read in
    complete_handed_on _ left SourceFailed SinkFailed c.from_residual-in_err-check_settings.result _ c.from_residual-in_err-check_settings.ensures.1
    (refused_answers _ left read.bytes SourceFailed SinkFailed (script_of c.in_ok-script.script) c.in_err-check_settings.field-0.0 read.whole read.good
    c.in_err-check_settings.ensures.refused)

pub returns-clause-sent : goal.returns-clause-sent
returns-clause-sent g c =
    let read = c.in_ok-script.ensures.read in
    let told : LinkTold = record { sent = g.L.Link.sent c.args.link.now; faults = g.L.Link.faults c.args.link.now } in
    let aimed : LinkTold = record { sent = g.L.Link.sent c.aim.new.self; faults = g.L.Link.faults c.aim.new.self } in
    let tells : LinkTold = record { sent = g.L.Link.sent c.play_script.new.link; faults = g.L.Link.faults c.play_script.new.link } in
    let script = script_of c.in_ok-script.script in
    reported _ read.bytes script _ told tells c.play_script.result read.whole read.good c.in_ok-check_settings.ensures.allowed
    (IfOk-weaker c.play_script.result _ (IsSent script _ told tells) (λ report played. sent-earlier script _ told aimed tells report c.in_ok-aim.ensures.sent c.in_ok-aim.ensures.never_falls played.sent) c.play_script.ensures.played)

pub returns-clause-leaves : goal.returns-clause-leaves
returns-clause-leaves g c =
    let read = c.in_ok-script.ensures.read in
    let to = remote_text c.args.to.now in
    let left = g.S.Source.left c.args.source.now in
    let written = g.K.Sink.written c.args.out.now in
    let written_now = g.K.Sink.written c.play_script.new.out in
    let told : LinkTold = record { sent = g.L.Link.sent c.args.link.now; faults = g.L.Link.faults c.args.link.now } in
    let aimed : LinkTold = record { sent = g.L.Link.sent c.aim.new.self; faults = g.L.Link.faults c.aim.new.self } in
    let tells : LinkTold = record { sent = g.L.Link.sent c.play_script.new.link; faults = g.L.Link.faults c.play_script.new.link } in
    let script = script_of c.in_ok-script.script in
    let Failed : Type 0 = Rose (g.K.Sink.faults c.args.out.now) (g.K.Sink.faults c.play_script.new.out) in
    let SameLink : Type 0 = c.play_script.new.link ≡ c.args.link.now in
    err_with c.play_script.result (CutsScript script to written written_now aimed tells) (IsPlayFault Failed) (LeavesRun to left written written_now told tells SameLink)
    c.play_script.ensures.cut c.play_script.ensures.cause
    (λ fault cut cause. cut_leaves to left read.bytes script written written_now told tells Failed SameLink fault read.whole read.good c.in_ok-check_settings.ensures.allowed
    (record {
      prefix = cut.prefix;
      in_part = ends_within-earlier script.settings to (play_start script.settings) flush_start script.rounds written written_now told aimed tells none_sent c.in_ok-aim.ensures.sent c.in_ok-aim.ensures.never_falls cut.in_part;
    }) cause)

pub returns-clause-devices : goal.returns-clause-devices
returns-clause-devices g c = record {
  aimed_at =
      now_aimed (remote_text c.args.to.now) (g.L.Link.aimed c.args.link.now) (g.L.Link.aimed c.play_script.new.link) (end_status c.play_script.result) (c.play_script.ensures.aims ∙ c.in_ok-aim.ensures.aimed);
  source =
      play_reads _ (g.S.Source.left c.args.source.now) (g.S.Source.left c.read_whole_script.new.source) c.play_script.result c.play_script.ensures.cause c.in_ok-script.ensures.left;
}

-- ---- no script was read

pub returns-in_err-script-clause-cause : goal.returns-in_err-script-clause-cause
returns-in_err-script-clause-cause g c =
    let to = remote_text c.args.to.now in
    let left = g.S.Source.left c.args.source.now in
    let SourceFailed : Type 0 = Rose (g.S.Source.faults c.args.source.now) (g.S.Source.faults c.read_whole_script.new.source) in
    let SinkFailed : Type 0 = Rose (g.K.Sink.faults c.args.out.now) (g.K.Sink.faults c.args.out.now) in
    if_handed_on c.from_residual.result _ (ComesBy to left SourceFailed SinkFailed) c.from_residual.ensures.1
    (unread_comes to left SourceFailed SinkFailed c.in_err-script.field-0.0 c.in_err-script.ensures.refused)

pub returns-in_err-script-clause-leaves : goal.returns-in_err-script-clause-leaves
returns-in_err-script-clause-leaves g c =
    let to = remote_text c.args.to.now in
    let left = g.S.Source.left c.args.source.now in
    let written = g.K.Sink.written c.args.out.now in
    let told : LinkTold = record { sent = g.L.Link.sent c.args.link.now; faults = g.L.Link.faults c.args.link.now } in
    let SourceFailed : Type 0 = Rose (g.S.Source.faults c.args.source.now) (g.S.Source.faults c.read_whole_script.new.source) in
    let SameLink : Type 0 = c.args.link.now ≡ c.args.link.now in
    if_handed_on c.from_residual.result _ (LeavesRun to left written written told told SameLink) c.from_residual.ensures.1
    (unread_leaves to left SourceFailed written told SameLink c.in_err-script.field-0.0 c.in_err-script.ensures.refused refl)

pub returns-in_err-script-clause-devices : goal.returns-in_err-script-clause-devices
returns-in_err-script-clause-devices g c = record {
  aimed_at =
      let aimed = g.L.Link.aimed c.args.link.now in
      let SourceFailed : Type 0 = Rose (g.S.Source.faults c.args.source.now) (g.S.Source.faults c.read_whole_script.new.source) in
      status_handed_on c.from_residual.result c.in_err-script.field-0.0 (IsAimed (remote_text c.args.to.now) aimed aimed) c.from_residual.ensures.1
      (unread_aimed _ (g.S.Source.left c.args.source.now) SourceFailed aimed c.in_err-script.field-0.0 c.in_err-script.ensures.refused);
  source =
      let left = g.S.Source.left c.args.source.now in
      let left_now = g.S.Source.left c.read_whole_script.new.source in
      status_handed_on c.from_residual.result c.in_err-script.field-0.0 (λ status. IfSome left (λ bytes. LeavesSource bytes left_now status)) c.from_residual.ensures.1 c.in_err-script.ensures.left;
}

-- ---- a setting is refused

pub returns-in_err-check_settings-clause-cause : goal.returns-in_err-check_settings-clause-cause
returns-in_err-check_settings-clause-cause g c =
    let to = remote_text c.args.to.now in
    let left = g.S.Source.left c.args.source.now in
    let read = c.in_ok-script.ensures.read in
    let SourceFailed : Type 0 = Rose (g.S.Source.faults c.args.source.now) (g.S.Source.faults c.read_whole_script.new.source) in
    let SinkFailed : Type 0 = Rose (g.K.Sink.faults c.args.out.now) (g.K.Sink.faults c.args.out.now) in
    if_handed_on c.from_residual-in_err-check_settings.result _ (ComesBy to left SourceFailed SinkFailed) c.from_residual-in_err-check_settings.ensures.1
    (record { told = setting_refused to left read.bytes (script_of c.in_ok-script.script) c.in_err-check_settings.field-0.0 read.whole read.good c.in_err-check_settings.ensures.refused; untold = tt })

pub returns-in_err-check_settings-clause-leaves : goal.returns-in_err-check_settings-clause-leaves
returns-in_err-check_settings-clause-leaves g c =
    let to = remote_text c.args.to.now in
    let left = g.S.Source.left c.args.source.now in
    let written = g.K.Sink.written c.args.out.now in
    let told : LinkTold = record { sent = g.L.Link.sent c.args.link.now; faults = g.L.Link.faults c.args.link.now } in
    let SameLink : Type 0 = c.args.link.now ≡ c.args.link.now in
    if_handed_on c.from_residual-in_err-check_settings.result _ (LeavesRun to left written written told told SameLink) c.from_residual-in_err-check_settings.ensures.1
    (refused_leaves to left written told SameLink c.in_err-check_settings.field-0.0 refl)

pub returns-in_err-check_settings-clause-devices : goal.returns-in_err-check_settings-clause-devices
returns-in_err-check_settings-clause-devices g c = record {
  aimed_at =
      let aimed = g.L.Link.aimed c.args.link.now in
      status_handed_on c.from_residual-in_err-check_settings.result (faults.Setting c.in_err-check_settings.field-0.0) (IsAimed (remote_text c.args.to.now) aimed aimed) c.from_residual-in_err-check_settings.ensures.1
      (still_aimed _ aimed aimed 4 refl (λ e. omega (arith, e)) (λ e. omega (arith, e)));
  source =
      let left = g.S.Source.left c.args.source.now in
      let left_now = g.S.Source.left c.read_whole_script.new.source in
      status_handed_on c.from_residual-in_err-check_settings.result (faults.Setting c.in_err-check_settings.field-0.0) (λ status. IfSome left (λ bytes. LeavesSource bytes left_now status))
      c.from_residual-in_err-check_settings.ensures.1 (read_out left left_now 4 c.in_ok-script.ensures.left (λ e. omega (arith, e)));
}

-- ---- the link could not be aimed

pub returns-in_err-aim-clause-cause : goal.returns-in_err-aim-clause-cause
returns-in_err-aim-clause-cause g c =
    let to = remote_text c.args.to.now in
    let left = g.S.Source.left c.args.source.now in
    let SourceFailed : Type 0 = Rose (g.S.Source.faults c.args.source.now) (g.S.Source.faults c.read_whole_script.new.source) in
    let SinkFailed : Type 0 = Rose (g.K.Sink.faults c.args.out.now) (g.K.Sink.faults c.args.out.now) in
    if_handed_on c.from_residual-in_err-aim.result faults.Memory (ComesBy to left SourceFailed SinkFailed) c.from_residual-in_err-aim.ensures.1 (memory_comes to left SourceFailed SinkFailed)

pub returns-in_err-aim-clause-leaves : goal.returns-in_err-aim-clause-leaves
returns-in_err-aim-clause-leaves g c =
    let to = remote_text c.args.to.now in
    let left = g.S.Source.left c.args.source.now in
    let written = g.K.Sink.written c.args.out.now in
    let told : LinkTold = record { sent = g.L.Link.sent c.args.link.now; faults = g.L.Link.faults c.args.link.now } in
    let aimed : LinkTold = record { sent = g.L.Link.sent c.aim.new.self; faults = g.L.Link.faults c.aim.new.self } in
    let SameLink : Type 0 = c.aim.new.self ≡ c.args.link.now in
    if_handed_on c.from_residual-in_err-aim.result faults.Memory (LeavesRun to left written written told aimed SameLink) c.from_residual-in_err-aim.ensures.1
    (unaimed_leaves to left written told aimed SameLink c.in_err-aim.ensures.sent)

pub returns-in_err-aim-clause-devices : goal.returns-in_err-aim-clause-devices
returns-in_err-aim-clause-devices g c = record {
  aimed_at =
      let before = g.L.Link.aimed c.args.link.now in
      let after = g.L.Link.aimed c.aim.new.self in
      status_handed_on c.from_residual-in_err-aim.result faults.Memory (IsAimed (remote_text c.args.to.now) before after) c.from_residual-in_err-aim.ensures.1
      (still_aimed _ before after 8 c.in_err-aim.ensures.refused (λ e. omega (arith, e)) (λ e. omega (arith, e)));
  source =
      let left = g.S.Source.left c.args.source.now in
      let left_now = g.S.Source.left c.read_whole_script.new.source in
      status_handed_on c.from_residual-in_err-aim.result faults.Memory (λ status. IfSome left (λ bytes. LeavesSource bytes left_now status)) c.from_residual-in_err-aim.ensures.1
      (read_out left left_now 8 c.in_ok-script.ensures.left (λ e. omega (arith, e)));
}
