use Rattle.std.proofs.Common.{◌≡◌, [], refl, subst, arith}
use Rattle.std.specs.Prelude.{IfSome, None, Some}
use Rattle.metrics_core.specs.Outside.{Rose}
use Rattle.prom_serve.specs.Serving.{Listening}
use Rattle.drive_script.specs.Settings.{refusal_of, refused_setting}
use Rattle.drive_script.specs.Texts.{script_of}
use Rattle.drive_script.specs.declared.faults.DriveFault.TheVariants as faults
use Rattle.script_player.specs.Agent.{default_agent}
use Rattle.script_player.specs.Faults.{IsAllowed}
use Rattle.program_words.specs.Answers.{LeavesSource}
use Rattle.program_words.specs.Serving.{LeavesListener, ServeComesBy, serve_fault, serve_status}
use Rattle.program_words.specs.declared.serving.ServeScriptFault.TheVariants as serving
use Rattle.program_words.proofs.ReadingSteps.{read_out}
use Rattle.program_words.proofs.RecordedRounds.{script_records}
use Rattle.script_player.proofs.Returned.{if_handed_on}
use Rattle.program_words.proofs.ServingSteps.{leaves_served, listener_cause, listener_device, refused_cause, refused_complete, script_served, served_complete, served_in_time, serving_by, status_served_on, unread_cause, unread_complete, unread_device, unserved_by, unserved_complete, untold_by}
use Rattle.script_player.proofs.TimelyRounds.{rise_from_start}
use Rattle.program_words.proofs.serving.serve_script.Goals as goal

pub play_and_serve-requires-clause-can : goal.play_and_serve-requires-clause-can
play_and_serve-requires-clause-can g c κs within =
    let script = script_of c.in_ok-script.script in
    let good = c.in_ok-script.ensures.read.good in
    record {
      allowed = subst (λ to. refused_setting script.settings to ≡ None) c.default_agent.ensures c.in_ok-check_settings.ensures.allowed;
      fit = ([], refl, good.1.1.handles);
      some = script_records _ script good.1.0;
      moments = rise_from_start script.rounds good.1.1.moments;
    }

-- ---- no script was read

pub returns-in_err-script-clause-cause : goal.returns-in_err-script-clause-cause
returns-in_err-script-clause-cause g c =
    let left = g.S.Source.left c.args.source.now in
    let SourceFailed : Type 0 = Rose (g.S.Source.faults c.args.source.now) (g.S.Source.faults c.read_whole_script.new.source) in
    let ListenerFailed : Type 0 = Rose (g.N.Listener.faults c.args.listener.now) (g.N.Listener.faults c.args.listener.now) in
    if_handed_on c.from_residual.result _ (ServeComesBy left SourceFailed ListenerFailed) c.from_residual.ensures.1 (record {
      told = unread_cause left SourceFailed ListenerFailed c.in_err-script.field-0.0 c.in_err-script.ensures.refused;
      untold = unread_device left SourceFailed ListenerFailed c.in_err-script.field-0.0 c.in_err-script.ensures.refused;
    })

pub returns-in_err-script-clause-leaves : goal.returns-in_err-script-clause-leaves
returns-in_err-script-clause-leaves g c =
    let left = g.S.Source.left c.args.source.now in
    let told : Listening = record { given = g.N.Listener.given c.args.listener.now; finished = g.N.Listener.finished c.args.listener.now } in
    let SameListener : Type 0 = c.args.listener.now ≡ c.args.listener.now in
    if_handed_on c.from_residual.result _ (LeavesListener left c.args.networks.now c.args.count told told SameListener) c.from_residual.ensures.1 (record {
      unserved = unserved_by SameListener (serving.Drive c.in_err-script.field-0.0) refl;
      in_part = untold_by left c.args.networks.now c.args.count told c.in_err-script.field-0.0;
    })

pub returns-in_err-script-clause-complete : goal.returns-in_err-script-clause-complete
returns-in_err-script-clause-complete g c =
    unread_complete (g.S.Source.left c.args.source.now) _ _ c.from_residual.result c.in_err-script.field-0.0 c.from_residual.ensures.1 c.in_err-script.ensures.refused

-- ---- a setting is refused

pub returns-in_err-check_settings-clause-cause : goal.returns-in_err-check_settings-clause-cause
returns-in_err-check_settings-clause-cause g c =
    let refused : refused_setting (script_of c.in_ok-script.script).settings default_agent ≡ Some (refusal_of c.in_err-check_settings.field-0.0)
    = subst (λ to. refused_setting (script_of c.in_ok-script.script).settings to ≡ Some (refusal_of c.in_err-check_settings.field-0.0)) c.default_agent.ensures c.in_err-check_settings.ensures.refused in
    let left = g.S.Source.left c.args.source.now in
    let SourceFailed : Type 0 = Rose (g.S.Source.faults c.args.source.now) (g.S.Source.faults c.read_whole_script.new.source) in
    let ListenerFailed : Type 0 = Rose (g.N.Listener.faults c.args.listener.now) (g.N.Listener.faults c.args.listener.now) in
    if_handed_on c.from_residual-in_err-check_settings.result _ (ServeComesBy left SourceFailed ListenerFailed) c.from_residual-in_err-check_settings.ensures.1 (record {
      told = refused_cause left SourceFailed ListenerFailed (script_of c.in_ok-script.script) c.in_err-check_settings.field-0.0 c.in_ok-script.ensures.read refused;
      untold = tt;
    })

pub returns-in_err-check_settings-clause-leaves : goal.returns-in_err-check_settings-clause-leaves
returns-in_err-check_settings-clause-leaves g c =
    let left = g.S.Source.left c.args.source.now in
    let told : Listening = record { given = g.N.Listener.given c.args.listener.now; finished = g.N.Listener.finished c.args.listener.now } in
    let SameListener : Type 0 = c.args.listener.now ≡ c.args.listener.now in
    if_handed_on c.from_residual-in_err-check_settings.result _ (LeavesListener left c.args.networks.now c.args.count told told SameListener) c.from_residual-in_err-check_settings.ensures.1 (record {
      unserved = refl;
      in_part = untold_by left c.args.networks.now c.args.count told (faults.Setting c.in_err-check_settings.field-0.0);
    })

pub returns-in_err-check_settings-clause-complete : goal.returns-in_err-check_settings-clause-complete
returns-in_err-check_settings-clause-complete g c =
    let refused : refused_setting (script_of c.in_ok-script.script).settings default_agent ≡ Some (refusal_of c.in_err-check_settings.field-0.0)
    = subst (λ to. refused_setting (script_of c.in_ok-script.script).settings to ≡ Some (refusal_of c.in_err-check_settings.field-0.0)) c.default_agent.ensures c.in_err-check_settings.ensures.refused in
    refused_complete (g.S.Source.left c.args.source.now) _ _ c.from_residual-in_err-check_settings.result (script_of c.in_ok-script.script) c.in_err-check_settings.field-0.0
    c.from_residual-in_err-check_settings.ensures.1 c.in_ok-script.ensures.read refused

-- ---- the page was not served to the last connection

pub returns-in_err-served-clause-cause : goal.returns-in_err-served-clause-cause
returns-in_err-served-clause-cause g c =
    let left = g.S.Source.left c.args.source.now in
    let SourceFailed : Type 0 = Rose (g.S.Source.faults c.args.source.now) (g.S.Source.faults c.read_whole_script.new.source) in
    let ListenerFailed : Type 0 = Rose (g.N.Listener.faults c.args.listener.now) (g.N.Listener.faults c.play_and_serve.new.listener) in
    if_handed_on c.from_residual-in_err-served.result _ (ServeComesBy left SourceFailed ListenerFailed) c.from_residual-in_err-served.ensures.1 (record {
      told = listener_cause left SourceFailed ListenerFailed c.in_err-served.field-0.0 c.in_err-served.ensures.cause;
      untold = listener_device SourceFailed ListenerFailed c.in_err-served.field-0.0 c.in_err-served.ensures.cause;
    })

pub returns-in_err-served-clause-leaves : goal.returns-in_err-served-clause-leaves
returns-in_err-served-clause-leaves g c =
    let allowed : IsAllowed default_agent (script_of c.in_ok-script.script)
    = subst (λ to. refused_setting (script_of c.in_ok-script.script).settings to ≡ None) c.default_agent.ensures c.in_ok-check_settings.ensures.allowed in
    let left = g.S.Source.left c.args.source.now in
    let old : Listening = record { given = g.N.Listener.given c.args.listener.now; finished = g.N.Listener.finished c.args.listener.now } in
    let new : Listening = record { given = g.N.Listener.given c.play_and_serve.new.listener; finished = g.N.Listener.finished c.play_and_serve.new.listener } in
    let SameListener : Type 0 = c.play_and_serve.new.listener ≡ c.args.listener.now in
    if_handed_on c.from_residual-in_err-served.result _ (LeavesListener left c.args.networks.now c.args.count old new SameListener) c.from_residual-in_err-served.ensures.1 (record {
      unserved = serving_by SameListener c.in_err-served.field-0.0;
      in_part = leaves_served left (script_of c.in_ok-script.script) c.args.networks.now c.args.count old new c.in_err-served.field-0.0 c.in_ok-script.ensures.read allowed c.in_err-served.ensures.in_part;
    })

pub returns-in_err-served-clause-complete : goal.returns-in_err-served-clause-complete
returns-in_err-served-clause-complete g c =
    let allowed : IsAllowed default_agent (script_of c.in_ok-script.script)
    = subst (λ to. refused_setting (script_of c.in_ok-script.script).settings to ≡ None) c.default_agent.ensures c.in_ok-check_settings.ensures.allowed in
    unserved_complete (g.S.Source.left c.args.source.now) _ _ c.from_residual-in_err-served.result (script_of c.in_ok-script.script) c.in_err-served.field-0.0
    c.from_residual-in_err-served.ensures.1 c.in_ok-script.ensures.read allowed c.in_err-served.ensures.cause

-- ---- it was

pub returns-clause-served : goal.returns-clause-served
returns-clause-served g c =
    let allowed : IsAllowed default_agent (script_of c.in_ok-script.script)
    = subst (λ to. refused_setting (script_of c.in_ok-script.script).settings to ≡ None) c.default_agent.ensures c.in_ok-check_settings.ensures.allowed in
    script_served (g.S.Source.left c.args.source.now) (script_of c.in_ok-script.script) c.args.networks.now c.args.count _ _ c.in_ok-script.ensures.read allowed c.in_ok-served.ensures.served

pub returns-clause-counted : goal.returns-clause-counted
returns-clause-counted g c = record { accepted = c.in_ok-served.ensures.served.2.given; counted = c.in_ok-served.ensures.counted }

pub returns-clause-complete : goal.returns-clause-complete
returns-clause-complete g c =
    let allowed : IsAllowed default_agent (script_of c.in_ok-script.script)
    = subst (λ to. refused_setting (script_of c.in_ok-script.script).settings to ≡ None) c.default_agent.ensures c.in_ok-check_settings.ensures.allowed in
    served_complete (g.S.Source.left c.args.source.now) _ _ (script_of c.in_ok-script.script) c.in_ok-script.ensures.read allowed

-- ---- what is still to come of the source

pub returns-in_err-script-clause-left : goal.returns-in_err-script-clause-left
returns-in_err-script-clause-left g c =
    let left = g.S.Source.left c.args.source.now in
    let left_now = g.S.Source.left c.read_whole_script.new.source in
    status_served_on c.from_residual.result (serving.Drive c.in_err-script.field-0.0) (λ status. IfSome left (λ bytes. LeavesSource bytes left_now status)) c.from_residual.ensures.1 c.in_err-script.ensures.left

pub returns-in_err-check_settings-clause-left : goal.returns-in_err-check_settings-clause-left
returns-in_err-check_settings-clause-left g c =
    let left = g.S.Source.left c.args.source.now in
    let left_now = g.S.Source.left c.read_whole_script.new.source in
    status_served_on c.from_residual-in_err-check_settings.result (serving.Drive (faults.Setting c.in_err-check_settings.field-0.0)) (λ status. IfSome left (λ bytes. LeavesSource bytes left_now status))
    c.from_residual-in_err-check_settings.ensures.1 (read_out left left_now 4 c.in_ok-script.ensures.left (λ e. omega (arith, e)))

pub returns-in_err-served-clause-left : goal.returns-in_err-served-clause-left
returns-in_err-served-clause-left g c =
    let left = g.S.Source.left c.args.source.now in
    let left_now = g.S.Source.left c.read_whole_script.new.source in
    let fault = serve_fault c.in_err-served.field-0.0 in
    status_served_on c.from_residual-in_err-served.result fault (λ status. IfSome left (λ bytes. LeavesSource bytes left_now status)) c.from_residual-in_err-served.ensures.1
    (read_out left left_now (serve_status fault) c.in_ok-script.ensures.left (served_in_time c.in_err-served.field-0.0))

pub returns-clause-left : goal.returns-clause-left
returns-clause-left g c = c.in_ok-script.ensures.left
