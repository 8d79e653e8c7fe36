-- From what serving a script tells to what a run of it says as a whole.
use Rattle.std.proofs.Common.{◌≡◌, ℕ, ◌⊎◌, inl, inr, List, refl, sym, ap, subst, ◌∙◌, arith}
use Rattle.std.specs.Prelude.{Option, IfSome}
use Rattle.metrics_core.specs.Characters.{line}
use Rattle.net_addresses.specs.Addresses.{NetworkText}
use Rattle.prom_serve.specs.Connections.{CountedOn}
use Rattle.drive_script.specs.declared.faults.SettingFault.{SettingFault}
use Rattle.drive_script.specs.declared.faults.DriveFault.TheVariants as faults
use Rattle.script_player.specs.Agent.{default_agent}
use Rattle.program_words.specs.Answers.{IsBadScript, IsRefusedSetting, IsSaidText, LeavesSource, Says}
use Rattle.program_words.specs.Devices.{SourceRun, SinkRun, ListenerRun, SourceFailed, ListenerFailed}
use Rattle.program_words.specs.Ends.{IsServeEnd}
use Rattle.program_words.specs.Serving.{IsScriptServed, IsScriptServedInPart, IsServeComplete, IsServeLineOf, LeavesServed, ServeComesBy, bad_script, listener_failed, no_memory, read_failed, serve_fault_text, serve_status, setting_refused, too_long}
use Rattle.program_words.specs.declared.serving.ServeScriptFault.{ServeScriptFault}
use Rattle.program_words.specs.declared.serving.ServeScriptFault.TheVariants as serving
use Rattle.program_words.proofs.ReadingSteps.{of_any, some_of, unread}

-- ---- how a run ends

-- all connections were answered
pub served_ends : (count : ℕ) (networks : List NetworkText) (source : SourceRun) (err : SinkRun) (listener : ListenerRun)
    → IfSome source.left (λ bytes. IsScriptServed bytes networks count listener.told listener.told') → CountedOn listener.told.given listener.told'.given count
    → IfSome source.left (λ bytes. LeavesSource bytes source.left' 0) → IfSome source.left (λ bytes. IsServeComplete bytes (SourceFailed source) (ListenerFailed listener) 0)
    → Says err (IsServeLineOf count source.left listener.lost listener.lost' 0) → IsServeEnd count networks source err listener 0
served_ends count networks source err listener served given left complete said = record {
  served = λ e. served;
  given = λ e. given;
  bad_script = λ e. absurd (omega (arith, e));
  refused_setting = λ e. absurd (omega (arith, e));
  too_long = λ e. absurd (omega (arith, e));
  read_failed = λ e. absurd (omega (arith, e));
  no_memory = λ e. absurd (omega (arith, e));
  listener_failed = λ e. absurd (omega (arith, e));
  in_part = λ e. absurd (omega (arith, e));
  others = (λ e. omega (arith, e), λ e. omega (arith, e), λ e. omega (arith, e), λ e. omega (arith, e), λ e. omega (arith, e), λ e. omega (arith, e));
  left = left;
  complete = complete;
  said = said;
}

-- the script was not valid, or not read, or the listener failed, or memory was wanting
pub unserved_ends : (count : ℕ) (networks : List NetworkText) (source : SourceRun) (err : SinkRun) (listener : ListenerRun) (fault : ServeScriptFault)
    → ServeComesBy source.left (SourceFailed source) (ListenerFailed listener) fault
    → IfSome source.left (λ bytes. LeavesServed bytes networks count listener.told listener.told' fault) → IfSome source.left (λ bytes. LeavesSource bytes source.left' (serve_status fault))
    → IfSome source.left (λ bytes. IsServeComplete bytes (SourceFailed source) (ListenerFailed listener) (serve_status fault))
    → Says err (IsServeLineOf count source.left listener.lost listener.lost' (serve_status fault)) → IsServeEnd count networks source err listener (serve_status fault)
unserved_ends count networks source err listener (serving.Drive (faults.Script l)) comes leaves left complete said = record {
  served = λ e. absurd (omega (arith, e));
  given = λ e. absurd (omega (arith, e));
  bad_script = λ e. some_of source.left (λ bytes. IsBadScript bytes l) (λ bytes. (m : ℕ) × IsBadScript bytes m) (λ bytes is. (l, is)) comes.told;
  refused_setting = λ e. absurd (omega (arith, e));
  too_long = λ e. absurd (omega (arith, e));
  read_failed = λ e. absurd (omega (arith, e));
  no_memory = λ e. absurd (omega (arith, e));
  listener_failed = λ e. absurd (omega (arith, e));
  in_part = λ e. absurd (omega (arith, e));
  others = (λ e. omega (arith, e), λ e. omega (arith, e), λ e. omega (arith, e), λ e. omega (arith, e), λ e. omega (arith, e), λ e. omega (arith, e));
  left = left;
  complete = complete;
  said = said;
}
unserved_ends count networks source err listener (serving.Drive (faults.Setting fault)) comes leaves left complete said = record {
  served = λ e. absurd (omega (arith, e));
  given = λ e. absurd (omega (arith, e));
  bad_script = λ e. absurd (omega (arith, e));
  refused_setting = λ e. some_of source.left (λ bytes. IsRefusedSetting default_agent bytes fault) (λ bytes. (refused : SettingFault) × IsRefusedSetting default_agent bytes refused) (λ bytes is. (fault, is)) comes.told;
  too_long = λ e. absurd (omega (arith, e));
  read_failed = λ e. absurd (omega (arith, e));
  no_memory = λ e. absurd (omega (arith, e));
  listener_failed = λ e. absurd (omega (arith, e));
  in_part = λ e. absurd (omega (arith, e));
  others = (λ e. omega (arith, e), λ e. omega (arith, e), λ e. omega (arith, e), λ e. omega (arith, e), λ e. omega (arith, e), λ e. omega (arith, e));
  left = left;
  complete = complete;
  said = said;
}
unserved_ends count networks source err listener (serving.Drive faults.TooLong) comes leaves left complete said = record {
  served = λ e. absurd (omega (arith, e));
  given = λ e. absurd (omega (arith, e));
  bad_script = λ e. absurd (omega (arith, e));
  refused_setting = λ e. absurd (omega (arith, e));
  too_long = λ e. comes.told;
  read_failed = λ e. absurd (omega (arith, e));
  no_memory = λ e. absurd (omega (arith, e));
  listener_failed = λ e. absurd (omega (arith, e));
  in_part = λ e. absurd (omega (arith, e));
  others = (λ e. omega (arith, e), λ e. omega (arith, e), λ e. omega (arith, e), λ e. omega (arith, e), λ e. omega (arith, e), λ e. omega (arith, e));
  left = left;
  complete = complete;
  said = said;
}
unserved_ends count networks source err listener (serving.Drive faults.ReadFault) comes leaves left complete said = record {
  served = λ e. absurd (omega (arith, e));
  given = λ e. absurd (omega (arith, e));
  bad_script = λ e. absurd (omega (arith, e));
  refused_setting = λ e. absurd (omega (arith, e));
  too_long = λ e. absurd (omega (arith, e));
  read_failed = λ e. comes.untold;
  no_memory = λ e. absurd (omega (arith, e));
  listener_failed = λ e. absurd (omega (arith, e));
  in_part = λ e. absurd (omega (arith, e));
  others = (λ e. omega (arith, e), λ e. omega (arith, e), λ e. omega (arith, e), λ e. omega (arith, e), λ e. omega (arith, e), λ e. omega (arith, e));
  left = left;
  complete = complete;
  said = said;
}
unserved_ends count networks source err listener (serving.Drive faults.WriteFault) comes leaves left complete said = absurd comes.untold
unserved_ends count networks source err listener (serving.Drive faults.Memory) comes leaves left complete said = record {
  served = λ e. absurd (omega (arith, e));
  given = λ e. absurd (omega (arith, e));
  bad_script = λ e. absurd (omega (arith, e));
  refused_setting = λ e. absurd (omega (arith, e));
  too_long = λ e. absurd (omega (arith, e));
  read_failed = λ e. absurd (omega (arith, e));
  no_memory = λ e. leaves;
  listener_failed = λ e. absurd (omega (arith, e));
  in_part = λ e. absurd (omega (arith, e));
  others = (λ e. omega (arith, e), λ e. omega (arith, e), λ e. omega (arith, e), λ e. omega (arith, e), λ e. omega (arith, e), λ e. omega (arith, e));
  left = left;
  complete = complete;
  said = said;
}
unserved_ends count networks source err listener serving.FailedToCreateHTTPListener comes leaves left complete said = record {
  served = λ e. absurd (omega (arith, e));
  given = λ e. absurd (omega (arith, e));
  bad_script = λ e. absurd (omega (arith, e));
  refused_setting = λ e. absurd (omega (arith, e));
  too_long = λ e. absurd (omega (arith, e));
  read_failed = λ e. absurd (omega (arith, e));
  no_memory = λ e. absurd (omega (arith, e));
  listener_failed = λ e. comes.untold;
  in_part = λ e. leaves;
  others = (λ e. omega (arith, e), λ e. omega (arith, e), λ e. omega (arith, e), λ e. omega (arith, e), λ e. omega (arith, e), λ e. omega (arith, e));
  left = left;
  complete = complete;
  said = said;
}

memory_complete : (bytes : List ℕ) (S N : Type 0) → IsServeComplete bytes S N 8
memory_complete bytes S N = record {
  too_long = λ is ok. inr refl;
  bad_script = λ l is ok. inr refl;
  refused_setting = λ fault is ok. inr refl;
  good_script = λ script is allowed ok listens. inr refl;
}

-- memory was wanting before the words were read
pub memory_ends : (count : ℕ) (networks : List NetworkText) (source : SourceRun) (err : SinkRun) (listener : ListenerRun) → source.left' ≡ source.left → listener.told' ≡ listener.told
    → Says err (IsServeLineOf count source.left listener.lost listener.lost' 8) → IsServeEnd count networks source err listener 8
memory_ends count networks source err listener same untouched said = record {
  served = λ e. absurd (omega (arith, e));
  given = λ e. absurd (omega (arith, e));
  bad_script = λ e. absurd (omega (arith, e));
  refused_setting = λ e. absurd (omega (arith, e));
  too_long = λ e. absurd (omega (arith, e));
  read_failed = λ e. absurd (omega (arith, e));
  no_memory = λ e. of_any source.left (λ bytes. (listener.told' ≡ listener.told) ⊎ IsScriptServedInPart bytes networks count 1 listener.told listener.told') (λ bytes. inl untouched);
  listener_failed = λ e. absurd (omega (arith, e));
  in_part = λ e. absurd (omega (arith, e));
  others = (λ e. omega (arith, e), λ e. omega (arith, e), λ e. omega (arith, e), λ e. omega (arith, e), λ e. omega (arith, e), λ e. omega (arith, e));
  left = subst (λ left. IfSome source.left (λ bytes. LeavesSource bytes left 8)) (sym same) (unread source.left);
  complete = of_any source.left (λ bytes. IsServeComplete bytes (SourceFailed source) (ListenerFailed listener) 8) (λ bytes. memory_complete bytes (SourceFailed source) (ListenerFailed listener));
  said = said;
}

-- the same at the number of the status, and at each count and each networks that the words have
pub serve_end : (count other : ℕ) (networks others : List NetworkText) (source : SourceRun) (err : SinkRun) (listener : ListenerRun) (status number : ℕ) → other ≡ count → others ≡ networks → number ≡ status
    → IsServeEnd count networks source err listener status → IsServeEnd other others source err listener number
serve_end count other networks others source err listener status number same alike is ends =
    subst (λ n. IsServeEnd n others source err listener number) (sym same)
    (subst (λ l. IsServeEnd count l source err listener number) (sym alike) (subst (λ n. IsServeEnd count networks source err listener n) (sym is) ends))

-- ---- lines on `err`

pub unserved_line : (count : ℕ) (left : Option (List ℕ)) (lost lost' : ℕ) (S N : Type 0) (fault : ServeScriptFault) → ServeComesBy left S N fault
    → IsServeLineOf count left lost lost' (serve_status fault) (line (serve_fault_text fault))
unserved_line count left lost lost' S N (serving.Drive (faults.Script l)) comes = bad_script l comes.told
unserved_line count left lost lost' S N (serving.Drive (faults.Setting fault)) comes = setting_refused fault comes.told
unserved_line count left lost lost' S N (serving.Drive faults.TooLong) comes = too_long
unserved_line count left lost lost' S N (serving.Drive faults.ReadFault) comes = read_failed
unserved_line count left lost lost' S N (serving.Drive faults.WriteFault) comes = absurd comes.untold
unserved_line count left lost lost' S N (serving.Drive faults.Memory) comes = no_memory
unserved_line count left lost lost' S N serving.FailedToCreateHTTPListener comes = listener_failed

-- a text that is the line of a fault, said of that fault
pub served_said_of : (Failed : Type 0) (said said' : Option (List ℕ)) (fault is : ServeScriptFault) (text : List ℕ) → fault ≡ is → text ≡ line (serve_fault_text is)
    → IsSaidText Failed said said' text → IsSaidText Failed said said' (line (serve_fault_text fault))
served_said_of Failed said said' fault is text same spelled h =
    let P : List ℕ → Type 0 = λ t. IsSaidText Failed said said' t in
    subst P (spelled ∙ sym (ap (λ f. line (serve_fault_text f)) same)) h
