-- From the parts of a run to what it says as a whole.
use Rattle.std.proofs.Common.{◌≡◌, ℕ, ◌≤◌, ◌⊎◌, inl, inr, List, length, refl, sym, ap, subst, ◌∙◌, arith}
use Rattle.std.specs.Prelude.{Option, Some, None, IfSome, Result, Ok, Err, IfErr, OnErr, IsErrAnd, IfOk}
use Rattle.std.proofs.lemmas.Option.{none-some}
use Rattle.std.proofs.lemmas.Result.{err_from_is_err_and}
use Rattle.metrics_core.specs.Outside.{GrewBy, GrewByPrefix}
use Rattle.dsd_addresses.specs.Remotes.{RemoteText}
use Rattle.drive_script.specs.Script.{ScriptText, lines_of}
use Rattle.drive_script.specs.Texts.{script_of}
use Rattle.drive_script.specs.Valid.{IsScriptOf}
use Rattle.drive_script.specs.declared.script.Script.{Script}
use Rattle.drive_script.proofs.Laws.{beginnings, one_reading}
use Rattle.drive_script.specs.Faults.{IsScriptFault}
use Rattle.drive_script.specs.declared.faults.DriveFault.{DriveFault}
use Rattle.drive_script.specs.declared.faults.DriveFault.TheVariants as faults
use Rattle.script_player.specs.Headline.{IsPlayed, IsPlayedInPart, IsGoodScript, script_limit}
use Rattle.script_player.specs.Orders.{ForSomeRun, run_text}
use Rattle.drive_script.specs.Settings.{refusal_of, refused_setting}
use Rattle.drive_script.specs.declared.faults.SettingFault.{SettingFault}
use Rattle.script_player.specs.Faults.{IsAllowed, IsPlayFault}
use Rattle.program_words.specs.Answers.{ComesBy, HasCause, HasDeviceCause, IfUnplayed, IsAimed, IsComplete, IsBadScript, IsRefusedSetting, IsReported, IsReportedInPart, IsTooLong, IsUnplayed, LeavesInPart, LeavesPrefix, LeavesRun, LeavesSource, end_status, fault_status}
use Rattle.script_player.specs.InPart.{IsCutOff}
use Rattle.script_player.specs.Rounds.{CutsScript}
use Rattle.script_player.specs.Sent.{IsSent, LinkTold}
use Rattle.program_words.specs.Reading.{IsReadAs, IsReadFault, IsUnread}
use Rattle.script_player.specs.declared.report.Report.{Report}
use Rattle.program_words.proofs.ReadingSteps.{of_any, read_out, some_of}
use Rattle.script_player.proofs.RunPages.{run_is_pages}

-- bytes that are a valid script have no bad line
pub good_not_bad : (bytes : List ℕ) (script : ScriptText) (l : ℕ) → IsGoodScript bytes script → IsBadScript bytes l → ⊥
good_not_bad bytes script l good bad = bad.1.bad (beginnings (lines_of bytes) l (script, good.1.0, good.1.1))

good_not_long : (bytes : List ℕ) (script : ScriptText) → IsGoodScript bytes script → IsTooLong bytes → ⊥
good_not_long bytes script good long = omega (arith, good.0, long)

bad_not_long : (bytes : List ℕ) (l : ℕ) → IsBadScript bytes l → IsTooLong bytes → ⊥
bad_not_long bytes l bad long = omega (arith, bad.0, long)

-- the bytes are one script, so that what is refused of one reading is refused of each
refused_once : (to : RemoteText) (bytes : List ℕ) (script other : ScriptText) → IsGoodScript bytes script → IsGoodScript bytes other → refused_setting other.settings to ≡ refused_setting script.settings to
refused_once to bytes script other good good' = ap (λ (s : ScriptText). refused_setting s.settings to) (one_reading (lines_of bytes) other script good'.1 good.1)

-- a good script was played, or a write failed, or memory was wanting: then no other cause holds
pub good_complete : (to : RemoteText) (bytes : List ℕ) (S K : Type 0) (script : ScriptText) (status : ℕ) → IsGoodScript bytes script → IsAllowed to script
    → (¬ K → (status ≡ 0) ⊎ (status ≡ 8)) → IsComplete to bytes S K status
good_complete to bytes S K script status good allowed done = record {
  too_long = λ long ok. absurd (good_not_long bytes script good long);
  bad_script = λ l bad ok. absurd (good_not_bad bytes script l good bad);
  refused_setting = λ fault refused ok. absurd (none-some _ (sym allowed ∙ sym (refused_once to bytes script refused.0 good refused.1) ∙ refused.2));
  good_script = λ other is allows ok sink_ok. done sink_ok;
}

pub refused_complete : (to : RemoteText) (bytes : List ℕ) (S K : Type 0) (script : ScriptText) (fault : SettingFault) → IsGoodScript bytes script → refused_setting script.settings to ≡ Some (refusal_of fault) → IsComplete to bytes S K 4
refused_complete to bytes S K script fault good refused = record {
  too_long = λ long ok. absurd (good_not_long bytes script good long);
  bad_script = λ l bad ok. absurd (good_not_bad bytes script l good bad);
  refused_setting = λ other is ok. inl refl;
  good_script = λ other is allows ok sink_ok. absurd (none-some _ (sym allows ∙ refused_once to bytes script other good is ∙ refused));
}

pub bad_complete : (to : RemoteText) (bytes : List ℕ) (S K : Type 0) (l : ℕ) → IsBadScript bytes l → IsComplete to bytes S K 3
bad_complete to bytes S K l bad = record {
  too_long = λ long ok. absurd (bad_not_long bytes l bad long);
  bad_script = λ other is ok. inl refl;
  refused_setting = λ fault refused ok. absurd (good_not_bad bytes refused.0 l refused.1 bad);
  good_script = λ script good allows ok sink_ok. absurd (good_not_bad bytes script l good bad);
}

pub long_complete : (to : RemoteText) (bytes : List ℕ) (S K : Type 0) → IsTooLong bytes → IsComplete to bytes S K 5
long_complete to bytes S K long = record {
  too_long = λ is ok. inl refl;
  bad_script = λ l bad ok. absurd (bad_not_long bytes l bad long);
  refused_setting = λ fault refused ok. absurd (good_not_long bytes refused.0 refused.1 long);
  good_script = λ script good allows ok sink_ok. absurd (good_not_long bytes script good long);
}

pub memory_complete : (to : RemoteText) (bytes : List ℕ) (S K : Type 0) → IsComplete to bytes S K 8
memory_complete to bytes S K = record {
  too_long = λ is ok. inr refl;
  bad_script = λ l bad ok. inr refl;
  refused_setting = λ fault refused ok. inr refl;
  good_script = λ script good allows ok sink_ok. inr refl;
}

pub read_fault_complete : (to : RemoteText) (bytes : List ℕ) (S K : Type 0) → S → IsComplete to bytes S K 6
read_fault_complete to bytes S K failed = record {
  too_long = λ is ok. absurd (ok failed);
  bad_script = λ l bad ok. absurd (ok failed);
  refused_setting = λ fault refused ok. absurd (ok failed);
  good_script = λ script good allows ok sink_ok. absurd (ok failed);
}

-- ---- where the source tells

-- a script read whole and played
pub played_whole : (to : RemoteText) (left : Option (List ℕ)) (items : List ℕ) (script : ScriptText) (written written' : Option (List ℕ))
    → IfSome left (λ bytes. items ≡ bytes) → IsGoodScript items script → IsAllowed to script → ForSomeRun script (GrewBy written written')
    → IfSome left (λ bytes. IsPlayed bytes written written')
played_whole to None items script written written' whole good allowed grew = tt
played_whole to (Some bytes) items script written written' whole good allowed grew =
    let P : List ℕ → Type 0 = λ b. IsPlayed b written written' in
    subst P whole (record { script = script; reading = good; to = to; allowed = allowed; text = run_text script grew.0; pages = run_is_pages script grew.0 grew.1; grew = grew.2 })

-- a script read whole and played in part
played_prefix : (to : RemoteText) (left : Option (List ℕ)) (items : List ℕ) (script : ScriptText) (written written' : Option (List ℕ)) (K : Type 0) (fault : DriveFault)
    → IfSome left (λ bytes. items ≡ bytes) → IsGoodScript items script → IsAllowed to script → ForSomeRun script (GrewByPrefix written written')
    → IsPlayFault K fault → IfSome left (λ bytes. LeavesPrefix to bytes written written' fault)
played_prefix to None items script written written' K fault whole good allowed grew cause = tt
played_prefix to (Some bytes) items script written written' K fault whole good allowed grew cause =
    let P : List ℕ → Type 0 = λ b. LeavesPrefix to b written written' fault in
    subst P whole (by fault cause)
  where
    prefix : IsPlayedInPart to items written written'
    prefix = record { script = script; reading = good; allowed = allowed; text = run_text script grew.0; pages = run_is_pages script grew.0 grew.1; grew = grew.2 }

    by : (f : DriveFault) → IsPlayFault K f → LeavesPrefix to items written written' f
    by (faults.Script l) c = tt
    by (faults.Setting fault) c = tt
    by faults.TooLong c = tt
    by faults.ReadFault c = tt
    by faults.WriteFault c = prefix
    by faults.Memory c = inr prefix

-- the payloads of a script read whole and played
pub reported : (left : Option (List ℕ)) (items : List ℕ) (script : ScriptText) (to : RemoteText) (told tells : LinkTold) (ended : Result Report DriveFault)
    → IfSome left (λ bytes. items ≡ bytes) → IsGoodScript items script → IsAllowed to script → IfOk ended (IsSent script to told tells)
    → IfOk ended (λ report. IfSome left (λ bytes. IsReported bytes to told tells report))
reported left items script to told tells (Err fault) whole good allowed sent = tt
reported None items script to told tells (Ok report) whole good allowed sent = tt
reported (Some bytes) items script to told tells (Ok report) whole good allowed sent =
    let P : List ℕ → Type 0 = λ b. IsReported b to told tells report in
    subst P whole (record { script = script; reading = good; allowed = allowed; sent = sent })

-- a script read whole, whose play ended within a round
cut_off : (to : RemoteText) (left : Option (List ℕ)) (items : List ℕ) (script : ScriptText) (written written' : Option (List ℕ)) (told tells : LinkTold) (K : Type 0) (fault : DriveFault)
    → IfSome left (λ bytes. items ≡ bytes) → IsGoodScript items script → IsAllowed to script → IsCutOff script to written written' told tells
    → IsPlayFault K fault → IfSome left (λ bytes. LeavesInPart to bytes written written' told tells fault)
cut_off to None items script written written' told tells K fault whole good allowed ended cause = tt
cut_off to (Some bytes) items script written written' told tells K fault whole good allowed ended cause =
    let P : List ℕ → Type 0 = λ b. LeavesInPart to b written written' told tells fault in
    subst P whole (by fault cause)
  where
    in_part : IsReportedInPart items to written written' told tells
    in_part = record { script = script; reading = good; allowed = allowed; ended = ended }

    by : (f : DriveFault) → IsPlayFault K f → LeavesInPart to items written written' told tells f
    by (faults.Script l) c = tt
    by (faults.Setting fault) c = tt
    by faults.TooLong c = tt
    by faults.ReadFault c = tt
    by faults.WriteFault c = in_part
    by faults.Memory c = inr in_part

-- no script was read, so nothing was written or sent
unread_prefix : (to : RemoteText) (left : Option (List ℕ)) (S : Type 0) (written : Option (List ℕ)) (fault : DriveFault) → IsUnread left S fault
    → IfSome left (λ bytes. LeavesPrefix to bytes written written fault)
unread_prefix to None S written fault h = tt
unread_prefix to (Some bytes) S written (faults.Script l) h = tt
unread_prefix to (Some bytes) S written (faults.Setting fault) h = tt
unread_prefix to (Some bytes) S written faults.TooLong h = tt
unread_prefix to (Some bytes) S written faults.ReadFault h = tt
unread_prefix to (Some bytes) S written faults.WriteFault h = absurd h
unread_prefix to (Some bytes) S written faults.Memory h = inl refl

unread_in_part : (to : RemoteText) (left : Option (List ℕ)) (S : Type 0) (written : Option (List ℕ)) (told : LinkTold) (fault : DriveFault) → IsUnread left S fault
    → IfSome left (λ bytes. LeavesInPart to bytes written written told told fault)
unread_in_part to None S written told fault h = tt
unread_in_part to (Some bytes) S written told (faults.Script l) h = tt
unread_in_part to (Some bytes) S written told (faults.Setting fault) h = tt
unread_in_part to (Some bytes) S written told faults.TooLong h = tt
unread_in_part to (Some bytes) S written told faults.ReadFault h = tt
unread_in_part to (Some bytes) S written told faults.WriteFault h = absurd h
unread_in_part to (Some bytes) S written told faults.Memory h = inl (refl, refl)

-- a setting was refused, or memory to aim the link
refused_in_part : (to : RemoteText) (left : Option (List ℕ)) (written : Option (List ℕ)) (told tells : LinkTold) (fault : SettingFault)
    → IfSome left (λ bytes. LeavesInPart to bytes written written told tells (faults.Setting fault))
refused_in_part to None written told tells fault = tt
refused_in_part to (Some bytes) written told tells fault = tt

unaimed_in_part : (to : RemoteText) (left : Option (List ℕ)) (written : Option (List ℕ)) (told tells : LinkTold) → tells.sent ≡ told.sent
    → IfSome left (λ bytes. LeavesInPart to bytes written written told tells faults.Memory)
unaimed_in_part to None written told tells same = tt
unaimed_in_part to (Some bytes) written told tells same = inl (refl, same)

-- after a status that no play ends with
played_status : (n : ℕ) → (n ≡ 7) ⊎ (n ≡ 8) → IsUnplayed n → ⊥
played_status n (inl e) is = grind (arith, e, is)
played_status n (inr e) is = grind (arith, e, is)

pub unplayed_of_status : (P : Type 0) (fault : DriveFault) → IfUnplayed P fault → (status : ℕ) → fault_status fault ≡ status → IsUnplayed status → P
unplayed_of_status P (faults.Script l) h status e is = h
unplayed_of_status P (faults.Setting fault) h status e is = h
unplayed_of_status P faults.TooLong h status e is = h
unplayed_of_status P faults.ReadFault h status e is = h
unplayed_of_status P faults.WriteFault h status e is = absurd (played_status status (inl (sym e)) is)
unplayed_of_status P faults.Memory h status e is = absurd (played_status status (inr (sym e)) is)

-- ---- where the link is aimed

neither : {P Q : Type 0} → (P → ⊥) → (Q → ⊥) → P ⊎ Q → ⊥
neither p q (inl x) = p x
neither p q (inr y) = q y

-- the link is as before, and the status is neither that of a whole run nor that of a failed write
pub still_aimed : (to : RemoteText) (before after : Option RemoteText) (status : ℕ) → after ≡ before → (status ≡ 0 → ⊥) → (status ≡ 7 → ⊥) → IsAimed to before after status
still_aimed to before after status same zero seven = record { only = inl same; played = λ e. absurd (neither zero seven e) }

pub unread_aimed : (to : RemoteText) (left : Option (List ℕ)) (S : Type 0) (aimed : Option RemoteText) (fault : DriveFault) → IsUnread left S fault → IsAimed to aimed aimed (fault_status fault)
unread_aimed to left S aimed (faults.Script l) h = still_aimed to aimed aimed 3 refl (λ e. omega (arith, e)) (λ e. omega (arith, e))
unread_aimed to left S aimed (faults.Setting fault) h = still_aimed to aimed aimed 4 refl (λ e. omega (arith, e)) (λ e. omega (arith, e))
unread_aimed to left S aimed faults.TooLong h = still_aimed to aimed aimed 5 refl (λ e. omega (arith, e)) (λ e. omega (arith, e))
unread_aimed to left S aimed faults.ReadFault h = still_aimed to aimed aimed 6 refl (λ e. omega (arith, e)) (λ e. omega (arith, e))
unread_aimed to left S aimed faults.WriteFault h = absurd h
unread_aimed to left S aimed faults.Memory h = still_aimed to aimed aimed 8 refl (λ e. omega (arith, e)) (λ e. omega (arith, e))

pub now_aimed : (to : RemoteText) (before after : Option RemoteText) (status : ℕ) → after ≡ Some to → IsAimed to before after status
now_aimed to before after status at = record { only = inr at; played = λ e. at }

-- what is so where a fault came before the play
unplayed_by : (P : Type 0) (fault : DriveFault) → P → IfUnplayed P fault
unplayed_by P (faults.Script l) p = p
unplayed_by P (faults.Setting fault) p = p
unplayed_by P faults.TooLong p = p
unplayed_by P faults.ReadFault p = p
unplayed_by P faults.WriteFault p = tt
unplayed_by P faults.Memory p = tt

-- a play's fault is none of those that come before it
played_on : (P K : Type 0) (fault : DriveFault) → IsPlayFault K fault → IfUnplayed P fault
played_on P K (faults.Script l) cause = absurd cause
played_on P K (faults.Setting fault) cause = absurd cause
played_on P K faults.TooLong cause = absurd cause
played_on P K faults.ReadFault cause = absurd cause
played_on P K faults.WriteFault cause = tt
played_on P K faults.Memory cause = tt

-- ---- causes

-- a fault that comes by no bytes
no_bytes : (to : RemoteText) (left : Option (List ℕ)) (S K : Type 0) (fault : DriveFault) → ((bytes : List ℕ) → HasCause to bytes S K fault) → HasDeviceCause S K fault → ComesBy to left S K fault
no_bytes to left S K fault each device = record { told = of_any left (λ bytes. HasCause to bytes S K fault) each; untold = device }

pub memory_comes : (to : RemoteText) (left : Option (List ℕ)) (S K : Type 0) → ComesBy to left S K faults.Memory
memory_comes to left S K = no_bytes to left S K faults.Memory (λ bytes. tt) tt

pub unread_comes : (to : RemoteText) (left : Option (List ℕ)) (S K : Type 0) (fault : DriveFault) → IsUnread left S fault → ComesBy to left S K fault
unread_comes to left S K (faults.Script l) h = record { told = h; untold = tt }
unread_comes to left S K (faults.Setting fault) h = absurd h
unread_comes to left S K faults.TooLong h = record { told = some_of left IsTooLong (λ bytes. HasCause to bytes S K faults.TooLong) (λ bytes is. is) h; untold = tt }
unread_comes to left S K faults.ReadFault h = no_bytes to left S K faults.ReadFault (λ bytes. h) h
unread_comes to left S K faults.WriteFault h = absurd h
unread_comes to left S K faults.Memory h = memory_comes to left S K

pub play_comes : (to : RemoteText) (left : Option (List ℕ)) (S K : Type 0) (ended : Result Report DriveFault) → IfErr ended (IsPlayFault K) → IfErr ended (ComesBy to left S K)
play_comes to left S K (Ok report) cause = tt
play_comes to left S K (Err (faults.Script l)) cause = absurd cause
play_comes to left S K (Err (faults.Setting fault)) cause = absurd cause
play_comes to left S K (Err faults.TooLong) cause = absurd cause
play_comes to left S K (Err faults.ReadFault) cause = absurd cause
play_comes to left S K (Err faults.WriteFault) cause = no_bytes to left S K faults.WriteFault (λ bytes. cause) cause
play_comes to left S K (Err faults.Memory) cause = memory_comes to left S K

-- ---- what is left

pub unread_leaves : (to : RemoteText) (left : Option (List ℕ)) (S : Type 0) (written : Option (List ℕ)) (told : LinkTold) (P : Type 0) (fault : DriveFault) → IsUnread left S fault → P
    → LeavesRun to left written written told told P fault
unread_leaves to left S written told P fault unread same = record {
  unplayed = unplayed_by (written ≡ written) fault refl;
  unsent = unplayed_by P fault same;
  prefix = unread_prefix to left S written fault unread;
  in_part = unread_in_part to left S written told fault unread;
}

pub refused_leaves : (to : RemoteText) (left written : Option (List ℕ)) (told : LinkTold) (P : Type 0) (fault : SettingFault) → P → LeavesRun to left written written told told P (faults.Setting fault)
refused_leaves to left written told P fault same = record {
  unplayed = refl;
  unsent = same;
  prefix = of_any left (λ bytes. LeavesPrefix to bytes written written (faults.Setting fault)) (λ bytes. tt);
  in_part = refused_in_part to left written told told fault;
}

pub unaimed_leaves : (to : RemoteText) (left written : Option (List ℕ)) (told tells : LinkTold) (P : Type 0) → tells.sent ≡ told.sent → LeavesRun to left written written told tells P faults.Memory
unaimed_leaves to left written told tells P same = record {
  unplayed = tt;
  unsent = tt;
  prefix = of_any left (λ bytes. LeavesPrefix to bytes written written faults.Memory) (λ bytes. inl refl);
  in_part = unaimed_in_part to left written told tells same;
}

pub cut_leaves : (to : RemoteText) (left : Option (List ℕ)) (items : List ℕ) (script : ScriptText) (written written' : Option (List ℕ)) (told tells : LinkTold) (K P : Type 0) (fault : DriveFault)
    → IfSome left (λ bytes. items ≡ bytes) → IsGoodScript items script → IsAllowed to script → CutsScript script to written written' told tells → IsPlayFault K fault
    → LeavesRun to left written written' told tells P fault
cut_leaves to left items script written written' told tells K P fault whole good allowed cut cause = record {
  unplayed = played_on (written' ≡ written) K fault cause;
  unsent = played_on P K fault cause;
  prefix = played_prefix to left items script written written' K fault whole good allowed cut.prefix cause;
  in_part = cut_off to left items script written written' told tells K fault whole good allowed cut.in_part cause;
}

-- completeness, where the script was found good
pub good_answers : (to : RemoteText) (left : Option (List ℕ)) (items : List ℕ) (S K : Type 0) (script : ScriptText) (status : ℕ)
    → IfSome left (λ bytes. items ≡ bytes) → length items ≤ script_limit → IsScriptOf items script → IsAllowed to script → (¬ K → (status ≡ 0) ⊎ (status ≡ 8))
    → IfSome left (λ bytes. IsComplete to bytes S K status)
good_answers to None items S K script status whole within reading allowed done = tt
good_answers to (Some bytes) items S K script status whole within reading allowed done =
    let P : List ℕ → Type 0 = λ b. IsComplete to b S K status in
    subst P whole (good_complete to items S K script status (within, reading) allowed done)

-- a setting of the script that was read is refused: that is the cause, and the answer is complete
pub setting_refused : (to : RemoteText) (left : Option (List ℕ)) (items : List ℕ) (script : ScriptText) (fault : SettingFault) → IfSome left (λ bytes. items ≡ bytes) → IsGoodScript items script
    → refused_setting script.settings to ≡ Some (refusal_of fault) → IfSome left (λ bytes. IsRefusedSetting to bytes fault)
setting_refused to None items script fault whole good refused = tt
setting_refused to (Some bytes) items script fault whole good refused = subst (λ b. IsRefusedSetting to b fault) whole (script, good, refused)

pub refused_answers : (to : RemoteText) (left : Option (List ℕ)) (items : List ℕ) (S K : Type 0) (script : ScriptText) (fault : SettingFault) → IfSome left (λ bytes. items ≡ bytes) → IsGoodScript items script
    → refused_setting script.settings to ≡ Some (refusal_of fault) → IfSome left (λ bytes. IsComplete to bytes S K 4)
refused_answers to None items S K script fault whole good refused = tt
refused_answers to (Some bytes) items S K script fault whole good refused = subst (λ b. IsComplete to b S K 4) whole (refused_complete to items S K script fault good refused)

-- what a play's fault leaves open: it is a failed write, or want of memory
pub play_faults : (K : Type 0) (fault : DriveFault) → IsPlayFault K fault → ¬ K → (fault_status fault ≡ 0) ⊎ (fault_status fault ≡ 8)
play_faults K (faults.Script l) c ok = absurd c
play_faults K (faults.Setting fault) c ok = absurd c
play_faults K faults.TooLong c ok = absurd c
play_faults K faults.ReadFault c ok = absurd c
play_faults K faults.WriteFault c ok = absurd (ok c)
play_faults K faults.Memory c ok = inr refl

-- what ended a play: its last page, or such a fault
pub play_ends : (K : Type 0) (ended : Result Report DriveFault) → IfErr ended (IsPlayFault K) → ¬ K → (end_status ended ≡ 0) ⊎ (end_status ended ≡ 8)
play_ends K (Ok report) c ok = inl refl
play_ends K (Err fault) c ok = play_faults K fault c ok

-- completeness, where a fault was handed on
pub complete_handed_on : (to : RemoteText) (left : Option (List ℕ)) (S K : Type 0) (ended : Result Report DriveFault) (fault : DriveFault) → IsErrAnd ended (λ f. f ≡ fault)
    → IfSome left (λ bytes. IsComplete to bytes S K (fault_status fault)) → IfSome left (λ bytes. IsComplete to bytes S K (end_status ended))
complete_handed_on to left S K ended fault is complete =
    let refusal = err_from_is_err_and ended is in
    subst (λ r. IfSome left (λ bytes. IsComplete to bytes S K (end_status r))) (sym refusal.1)
    (subst (λ f. IfSome left (λ bytes. IsComplete to bytes S K (fault_status f))) (sym refusal.2) complete)

-- what is so of the status of a fault that was handed on
pub status_handed_on : {T : Type 0} (ended : Result T DriveFault) (fault : DriveFault) (P : ℕ → Type 0) → IsErrAnd ended (λ f. f ≡ fault) → P (fault_status fault) → P (end_status ended)
status_handed_on ended fault P is h =
    let refusal = err_from_is_err_and ended is in
    subst (λ r. P (end_status r)) (sym refusal.1) (subst (λ f. P (fault_status f)) (sym refusal.2) h)

not_too_long : (K : Type 0) (fault : DriveFault) → IsPlayFault K fault → fault_status fault ≡ 5 → ⊥
not_too_long K (faults.Script l) c e = c
not_too_long K (faults.Setting fault) c e = c
not_too_long K faults.TooLong c e = c
not_too_long K faults.ReadFault c e = c
not_too_long K faults.WriteFault c e = omega (arith, e)
not_too_long K faults.Memory c e = omega (arith, e)

refused_script : (items : List ℕ) (fault : DriveFault) → IsScriptFault items fault → fault_status fault ≡ 5 → ⊥
refused_script items (faults.Script l) c e = omega (arith, e)
refused_script items (faults.Setting fault) c e = omega (arith, e)
refused_script items faults.TooLong c e = c
refused_script items faults.ReadFault c e = omega (arith, e)
refused_script items faults.WriteFault c e = omega (arith, e)
refused_script items faults.Memory c e = omega (arith, e)

-- a source that was read out before its bytes were read as a script
pub script_reads : (items : List ℕ) (left left' : Option (List ℕ)) (ended : Result Script DriveFault) → IfErr ended (IsScriptFault items) → IfSome left (λ bytes. LeavesSource bytes left' 0)
    → IfSome left (λ bytes. LeavesSource bytes left' (end_status ended))
script_reads items left left' (Ok script) refused h = h
script_reads items left left' (Err fault) refused h = read_out left left' (fault_status fault) h (refused_script items fault refused)

-- a source that was read out before the play
pub play_reads : (K : Type 0) (left left' : Option (List ℕ)) (ended : Result Report DriveFault) → IfErr ended (IsPlayFault K) → IfSome left (λ bytes. LeavesSource bytes left' 0)
    → IfSome left (λ bytes. LeavesSource bytes left' (end_status ended))
play_reads K left left' (Ok report) cause h = h
play_reads K left left' (Err fault) cause h = read_out left left' (fault_status fault) h (not_too_long K fault cause)

pub err_with : {T E : Type 0} (r : Result T E) (P : Type 0) (C Q : E → Type 0) → OnErr r P → IfErr r C → ((e : E) → P → C e → Q e) → IfErr r Q
err_with (Ok v) P C Q p c with_both = tt
err_with (Err e) P C Q p c with_both = with_both e p c

-- completeness, where no script was read
pub unread_answers : (to : RemoteText) (left : Option (List ℕ)) (S K : Type 0) (fault : DriveFault) → IsUnread left S fault
    → IfSome left (λ bytes. IsComplete to bytes S K (fault_status fault))
unread_answers to None S K fault h = tt
unread_answers to (Some bytes) S K (faults.Script l) h = bad_complete to bytes S K l h
unread_answers to (Some bytes) S K (faults.Setting fault) h = absurd h
unread_answers to (Some bytes) S K faults.TooLong h = long_complete to bytes S K h
unread_answers to (Some bytes) S K faults.ReadFault h = read_fault_complete to bytes S K h
unread_answers to (Some bytes) S K faults.WriteFault h = absurd h
unread_answers to (Some bytes) S K faults.Memory h = memory_complete to bytes S K

-- ---- a script that is read

-- what the whole source was read as
pub read_as : (ended : Result Script DriveFault) (left : Option (List ℕ)) (items : List ℕ) → IfSome left (λ bytes. items ≡ bytes) → length items ≤ script_limit
    → IfOk ended (λ script. IsScriptOf items (script_of script)) → IfOk ended (λ script. IsReadAs left (script_of script))
read_as (Ok script) left items whole within valid = record { bytes = items; whole = whole; good = (within, valid) }
read_as (Err fault) left items whole within valid = tt

-- the source wasn't read whole
pub unread_whole : (left : Option (List ℕ)) (S : Type 0) (fault : DriveFault) → IsReadFault left S fault → IsUnread left S fault
unread_whole left S (faults.Script l) h = absurd h
unread_whole left S (faults.Setting fault) h = absurd h
unread_whole left S faults.TooLong h = h
unread_whole left S faults.ReadFault h = h
unread_whole left S faults.WriteFault h = h
unread_whole left S faults.Memory h = h

bad_line : (left : Option (List ℕ)) (items : List ℕ) (l : ℕ) → IfSome left (λ bytes. items ≡ bytes) → IsBadScript items l → IfSome left (λ bytes. IsBadScript bytes l)
bad_line None items l whole bad = tt
bad_line (Some bytes) items l whole bad = subst (λ b. IsBadScript b l) whole bad

-- the script was refused
pub unread_script : (ended : Result Script DriveFault) (left : Option (List ℕ)) (S : Type 0) (items : List ℕ) → IfSome left (λ bytes. items ≡ bytes) → length items ≤ script_limit
    → IfErr ended (IsScriptFault items) → IfErr ended (IsUnread left S)
unread_script (Ok script) left S items whole within refused = tt
unread_script (Err (faults.Script l)) left S items whole within refused = bad_line left items l whole (within, refused)
unread_script (Err (faults.Setting fault)) left S items whole within refused = absurd refused
unread_script (Err faults.TooLong) left S items whole within refused = absurd refused
unread_script (Err faults.ReadFault) left S items whole within refused = absurd refused
unread_script (Err faults.WriteFault) left S items whole within refused = absurd refused
unread_script (Err faults.Memory) left S items whole within refused = tt
