-- From the parts of serving a script to what it says as a whole.
use Rattle.std.proofs.Common.{◌≡◌, ℕ, ◌⊎◌, inl, inr, List, refl, sym, subst, arith}
use Rattle.std.specs.Prelude.{Option, Some, None, IfSome, Result, IsErrAnd}
use Rattle.std.proofs.lemmas.Result.{err_from_is_err_and}
use Rattle.net_addresses.specs.Addresses.{NetworkText}
use Rattle.prom_serve.specs.Refusals.{excepted}
use Rattle.prom_serve.specs.Serving.{Listening}
use Rattle.prom_serve.specs.declared.errors.ServeError.{ServeError}
use Rattle.prom_serve.specs.declared.errors.ServeError.TheVariants as errors
use Rattle.prom_serve.specs.declared.serving.Served.{Served}
use Rattle.drive_script.specs.Script.{ScriptText}
use Rattle.drive_script.specs.Settings.{refusal_of, refused_setting}
use Rattle.drive_script.specs.declared.faults.DriveFault.{DriveFault}
use Rattle.drive_script.specs.declared.faults.DriveFault.TheVariants as faults
use Rattle.drive_script.specs.declared.faults.SettingFault.{SettingFault}
use Rattle.script_player.specs.Agent.{default_agent}
use Rattle.script_player.specs.Faults.{IsAllowed}
use Rattle.program_words.specs.Answers.{IsComplete, fault_status}
use Rattle.script_player.specs.Headline.{IsGoodScript}
use Rattle.program_words.specs.Reading.{IsReadAs, IsUnread}
use Rattle.script_player.specs.Served.{Answers, AnswersInPart, ForSomePage, HasListenerCause}
use Rattle.program_words.specs.Serving.{HasServeCause, HasServeDeviceCause, IfUnserved, IsScriptServed, IsServeComplete, LeavesServed, serve_end_status, serve_fault, serve_status}
use Rattle.program_words.specs.declared.serving.ServeScriptFault.{ServeScriptFault}
use Rattle.program_words.specs.declared.serving.ServeScriptFault.TheVariants as serving
use Rattle.program_words.proofs.DriveSteps.{good_complete, refused_answers, setting_refused, unread_answers}

-- ---- completeness, as that of driving

-- what is complete of driving, with a listener in the place of the sink, is complete of serving
as_serving : (bytes : List ℕ) (S L : Type 0) (status : ℕ) → IsComplete default_agent bytes S L status → IsServeComplete bytes S L status
as_serving bytes S L status complete = record {
  too_long = complete.too_long;
  bad_script = complete.bad_script;
  refused_setting = complete.refused_setting;
  good_script = complete.good_script;
}

if_serving : (left : Option (List ℕ)) (S L : Type 0) (status : ℕ) → IfSome left (λ bytes. IsComplete default_agent bytes S L status) → IfSome left (λ bytes. IsServeComplete bytes S L status)
if_serving None S L status complete = tt
if_serving (Some bytes) S L status complete = as_serving bytes S L status complete

-- what is so of the status of a fault that was handed on
pub status_served_on : (ended : Result Served ServeScriptFault) (fault : ServeScriptFault) (P : ℕ → Type 0) → IsErrAnd ended (λ f. f ≡ fault) → P (serve_status fault) → P (serve_end_status ended)
status_served_on ended fault P is h =
    let refusal = err_from_is_err_and ended is in
    subst (λ r. P (serve_end_status r)) (sym refusal.1) (subst (λ f. P (serve_status f)) (sym refusal.2) h)

-- a listener that failed is no script that is too long
pub served_in_time : (error : ServeError) → serve_status (serve_fault error) ≡ 5 → ⊥
served_in_time errors.FailedToCreateHTTPListener e = omega (arith, e)
served_in_time errors.Memory e = omega (arith, e)

-- a fault that was handed on
handed_status : (left : Option (List ℕ)) (S L : Type 0) (ended : Result Served ServeScriptFault) (fault : ServeScriptFault) → IsErrAnd ended (λ f. f ≡ fault)
    → IfSome left (λ bytes. IsServeComplete bytes S L (serve_status fault)) → IfSome left (λ bytes. IsServeComplete bytes S L (serve_end_status ended))
handed_status left S L ended fault is complete = status_served_on ended fault (λ status. IfSome left (λ bytes. IsServeComplete bytes S L status)) is complete

pub unread_complete : (left : Option (List ℕ)) (S L : Type 0) (ended : Result Served ServeScriptFault) (fault : DriveFault) → IsErrAnd ended (λ f. f ≡ serving.Drive fault) → IsUnread left S fault
    → IfSome left (λ bytes. IsServeComplete bytes S L (serve_end_status ended))
unread_complete left S L ended fault is unread = handed_status left S L ended (serving.Drive fault) is (if_serving left S L (fault_status fault) (unread_answers default_agent left S L fault unread))

pub refused_complete : (left : Option (List ℕ)) (S L : Type 0) (ended : Result Served ServeScriptFault) (script : ScriptText) (fault : SettingFault) → IsErrAnd ended (λ f. f ≡ serving.Drive (faults.Setting fault))
    → IsReadAs left script → refused_setting script.settings default_agent ≡ Some (refusal_of fault) → IfSome left (λ bytes. IsServeComplete bytes S L (serve_end_status ended))
refused_complete left S L ended script fault is read refused =
    handed_status left S L ended (serving.Drive (faults.Setting fault)) is
    (if_serving left S L 4 (refused_answers default_agent left read.bytes S L script fault read.whole read.good refused))

-- a script that was read and found good, and ended so where the listener did not fail
good_status : (left : Option (List ℕ)) (S L : Type 0) (script : ScriptText) (status : ℕ) → IsReadAs left script → IsAllowed default_agent script → (¬ L → (status ≡ 0) ⊎ (status ≡ 8))
    → IfSome left (λ bytes. IsServeComplete bytes S L status)
good_status None S L script status read allowed done = tt
good_status (Some bytes) S L script status read allowed done =
    subst (λ b. IsServeComplete b S L status) read.whole (as_serving read.bytes S L status (good_complete default_agent read.bytes S L script status read.good allowed done))

pub served_complete : (left : Option (List ℕ)) (S L : Type 0) (script : ScriptText) → IsReadAs left script → IsAllowed default_agent script → IfSome left (λ bytes. IsServeComplete bytes S L 0)
served_complete left S L script read allowed = good_status left S L script 0 read allowed (λ ok. inl refl)

listener_status : (L : Type 0) (error : ServeError) → HasListenerCause L error → ¬ L → (serve_status (serve_fault error) ≡ 0) ⊎ (serve_status (serve_fault error) ≡ 8)
listener_status L errors.FailedToCreateHTTPListener cause ok = absurd (ok cause)
listener_status L errors.Memory cause ok = inr refl

pub unserved_complete : (left : Option (List ℕ)) (S L : Type 0) (ended : Result Served ServeScriptFault) (script : ScriptText) (error : ServeError) → IsErrAnd ended (λ f. f ≡ serve_fault error)
    → IsReadAs left script → IsAllowed default_agent script → HasListenerCause L error → IfSome left (λ bytes. IsServeComplete bytes S L (serve_end_status ended))
unserved_complete left S L ended script error is read allowed cause =
    handed_status left S L ended (serve_fault error) is (good_status left S L script (serve_status (serve_fault error)) read allowed (listener_status L error cause))

-- ---- causes

pub unread_cause : (left : Option (List ℕ)) (S L : Type 0) (fault : DriveFault) → IsUnread left S fault → IfSome left (λ bytes. HasServeCause bytes S L (serving.Drive fault))
unread_cause None S L fault unread = tt
unread_cause (Some bytes) S L (faults.Script l) unread = unread
unread_cause (Some bytes) S L (faults.Setting fault) unread = absurd unread
unread_cause (Some bytes) S L faults.TooLong unread = unread
unread_cause (Some bytes) S L faults.ReadFault unread = unread
unread_cause (Some bytes) S L faults.WriteFault unread = absurd unread
unread_cause (Some bytes) S L faults.Memory unread = tt

pub unread_device : (left : Option (List ℕ)) (S L : Type 0) (fault : DriveFault) → IsUnread left S fault → HasServeDeviceCause S L (serving.Drive fault)
unread_device left S L (faults.Script l) unread = tt
unread_device left S L (faults.Setting fault) unread = tt
unread_device left S L faults.TooLong unread = tt
unread_device left S L faults.ReadFault unread = unread
unread_device left S L faults.WriteFault unread = absurd unread
unread_device left S L faults.Memory unread = tt

pub refused_cause : (left : Option (List ℕ)) (S L : Type 0) (script : ScriptText) (fault : SettingFault) → IsReadAs left script → refused_setting script.settings default_agent ≡ Some (refusal_of fault)
    → IfSome left (λ bytes. HasServeCause bytes S L (serving.Drive (faults.Setting fault)))
refused_cause left S L script fault read refused = setting_refused default_agent left read.bytes script fault read.whole read.good refused

pub listener_cause : (left : Option (List ℕ)) (S L : Type 0) (error : ServeError) → HasListenerCause L error → IfSome left (λ bytes. HasServeCause bytes S L (serve_fault error))
listener_cause None S L error cause = tt
listener_cause (Some bytes) S L errors.FailedToCreateHTTPListener cause = cause
listener_cause (Some bytes) S L errors.Memory cause = tt

pub listener_device : (S L : Type 0) (error : ServeError) → HasListenerCause L error → HasServeDeviceCause S L (serve_fault error)
listener_device S L errors.FailedToCreateHTTPListener cause = cause
listener_device S L errors.Memory cause = tt

-- ---- what is left

-- a fault before the first accept leaves the listener as it was
pub unserved_by : (P : Type 0) (fault : ServeScriptFault) → P → IfUnserved P fault
unserved_by P (serving.Drive (faults.Script l)) p = p
unserved_by P (serving.Drive (faults.Setting fault)) p = p
unserved_by P (serving.Drive faults.TooLong) p = p
unserved_by P (serving.Drive faults.ReadFault) p = p
unserved_by P (serving.Drive faults.WriteFault) p = tt
unserved_by P (serving.Drive faults.Memory) p = tt
unserved_by P serving.FailedToCreateHTTPListener p = tt

-- a fault of serving is none of those
pub serving_by : (P : Type 0) (error : ServeError) → IfUnserved P (serve_fault error)
serving_by P errors.FailedToCreateHTTPListener = tt
serving_by P errors.Memory = tt

pub untold_by : (left : Option (List ℕ)) (networks : List NetworkText) (count : ℕ) (told : Listening) (fault : DriveFault) → IfSome left (λ bytes. LeavesServed bytes networks count told told (serving.Drive fault))
untold_by None networks count told fault = tt
untold_by (Some bytes) networks count told (faults.Script l) = tt
untold_by (Some bytes) networks count told (faults.Setting fault) = tt
untold_by (Some bytes) networks count told faults.TooLong = tt
untold_by (Some bytes) networks count told faults.ReadFault = tt
untold_by (Some bytes) networks count told faults.WriteFault = tt
untold_by (Some bytes) networks count told faults.Memory = inl refl

-- the whole script was served, where the source tells
pub script_served : (left : Option (List ℕ)) (script : ScriptText) (networks : List NetworkText) (count : ℕ) (old new : Listening) → IsReadAs left script → IsAllowed default_agent script
    → ForSomePage script (λ page. Answers networks page count 0 old new) → IfSome left (λ bytes. IsScriptServed bytes networks count old new)
script_served None script networks count old new read allowed answered = tt
script_served (Some bytes) script networks count old new read allowed answered =
    subst (λ b. IsScriptServed b networks count old new) read.whole (record { script = script; reading = read.good; allowed = allowed; answered = answered })

served_in_part : (bytes : List ℕ) (script : ScriptText) (networks : List NetworkText) (count : ℕ) (old new : Listening) (error : ServeError) → IsGoodScript bytes script → IsAllowed default_agent script
    → ForSomePage script (λ page. AnswersInPart networks page count (excepted error) old new) → LeavesServed bytes networks count old new (serve_fault error)
served_in_part bytes script networks count old new errors.FailedToCreateHTTPListener good allowed answered = record { script = script; reading = good; allowed = allowed; answered = answered }
served_in_part bytes script networks count old new errors.Memory good allowed answered = inr (record { script = script; reading = good; allowed = allowed; answered = answered })

pub leaves_served : (left : Option (List ℕ)) (script : ScriptText) (networks : List NetworkText) (count : ℕ) (old new : Listening) (error : ServeError) → IsReadAs left script → IsAllowed default_agent script
    → ForSomePage script (λ page. AnswersInPart networks page count (excepted error) old new) → IfSome left (λ bytes. LeavesServed bytes networks count old new (serve_fault error))
leaves_served None script networks count old new error read allowed answered = tt
leaves_served (Some bytes) script networks count old new error read allowed answered =
    subst (λ b. LeavesServed b networks count old new (serve_fault error)) read.whole (served_in_part read.bytes script networks count old new error read.good allowed answered)
