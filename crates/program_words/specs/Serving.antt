-- How a run of the command `serve` ends: what was served, its causes and statuses, its words and its line on `err` (this project's rule).
use Rattle.std.specs.Prelude.{◌≡◌, ℕ, ◌+◌, ◌^◌, ◌<◌, ◌⊎◌, List, ◌∷◌, ◌++◌, Option, Some, None, IfSome, Result, Ok, Err, codes, decimal}
use Rattle.std.specs.List.{AllZip}
use Rattle.metrics_core.specs.Characters.{line}
use Rattle.net_addresses.specs.Addresses.{NetworkText, IsNetwork}
use Rattle.prom_serve.specs.Connections.{CountedOn}
use Rattle.prom_serve.specs.Serving.{IsCounted, Listening}
use Rattle.prom_serve.specs.declared.serving.Served.{Served}
use Rattle.prom_serve.specs.declared.errors.ServeError.{ServeError}
use Rattle.prom_serve.specs.declared.errors.ServeError.TheVariants as errors
use Rattle.drive_script.specs.Script.{ScriptText}
use Rattle.drive_script.specs.Faults.{fault_text}
use Rattle.drive_script.specs.declared.faults.SettingFault.{SettingFault}
use Rattle.drive_script.specs.declared.faults.DriveFault.TheVariants as faults
use Rattle.script_player.specs.Agent.{default_agent}
use Rattle.script_player.specs.Faults.{IsAllowed}
use Rattle.program_words.specs.Answers.{IsBadScript, IsRefusedSetting, IsTooLong, fault_status}
use Rattle.script_player.specs.Headline.{IsGoodScript}
use Rattle.script_player.specs.Served.{Answers, AnswersInPart, ForSomePage}
use Rattle.program_words.specs.declared.serving.ServeScriptFault.{ServeScriptFault}
use Rattle.program_words.specs.declared.serving.ServeScriptFault.TheVariants as serving

-- The bytes are a valid script whose settings are allowed, and for one order of the calls on each series in each round, so many connections
-- were accepted, and each peer was answered by the page of the script.
pub record IsScriptServed (bytes : List ℕ) (networks : List NetworkText) (count : ℕ) (old new : Listening) : Type 0 where
  pub script : ScriptText
  pub reading : IsGoodScript bytes script
  pub allowed : IsAllowed default_agent script
  pub answered : ForSomePage script (λ page. Answers networks page count 0 old new)

-- at most so many, and each peer but the last few
pub record IsScriptServedInPart (bytes : List ℕ) (networks : List NetworkText) (count last : ℕ) (old new : Listening) : Type 0 where
  pub script : ScriptText
  pub reading : IsGoodScript bytes script
  pub allowed : IsAllowed default_agent script
  pub answered : ForSomePage script (λ page. AnswersInPart networks page count last old new)

-- ---- counts

-- what became of so many connections, by the listener's counts of those that it gave and of those that were lost
pub record AreAccepted (count given given' lost lost' : ℕ) (served : Served) : Type 0 where
  -- they were accepted
  pub accepted : CountedOn given given' count
  -- and each was served, or failed and was lost
  pub counted : IsCounted count lost lost' served

-- ---- causes

-- the same as a fault of the whole
abbrev pub serve_fault : ServeError → ServeScriptFault
serve_fault errors.FailedToCreateHTTPListener = serving.FailedToCreateHTTPListener
serve_fault errors.Memory = serving.Drive faults.Memory

-- Why serving a script over these bytes ended with a fault; `SourceFailed` and `ListenerFailed` say that the count of faults of the source and of
-- the listener rose in the call. Want of memory is free, and nothing is written to a sink of pages.
abbrev pub HasServeCause : List ℕ → Type 0 → Type 0 → ServeScriptFault → Type 0
HasServeCause bytes SourceFailed ListenerFailed (serving.Drive (faults.Script l)) = IsBadScript bytes l
HasServeCause bytes SourceFailed ListenerFailed (serving.Drive (faults.Setting fault)) = IsRefusedSetting default_agent bytes fault
HasServeCause bytes SourceFailed ListenerFailed (serving.Drive faults.TooLong) = IsTooLong bytes
HasServeCause bytes SourceFailed ListenerFailed (serving.Drive faults.ReadFault) = SourceFailed
HasServeCause bytes SourceFailed ListenerFailed (serving.Drive faults.WriteFault) = ⊥
HasServeCause bytes SourceFailed ListenerFailed (serving.Drive faults.Memory) = Unit {0}
HasServeCause bytes SourceFailed ListenerFailed serving.FailedToCreateHTTPListener = ListenerFailed

-- the same of a fault whatever the source tells: a failed read and a failed listener have their causes, and there is no failed write
abbrev pub HasServeDeviceCause : Type 0 → Type 0 → ServeScriptFault → Type 0
HasServeDeviceCause SourceFailed ListenerFailed (serving.Drive faults.ReadFault) = SourceFailed
HasServeDeviceCause SourceFailed ListenerFailed (serving.Drive faults.WriteFault) = ⊥
HasServeDeviceCause SourceFailed ListenerFailed serving.FailedToCreateHTTPListener = ListenerFailed
HasServeDeviceCause SourceFailed ListenerFailed _ = Unit {0}

-- why serving a script over what the source tells ended with a fault
pub record ServeComesBy (left : Option (List ℕ)) (SourceFailed ListenerFailed : Type 0) (fault : ServeScriptFault) : Type 0 where
  -- by the cause in its bytes, where it tells them
  pub told : IfSome left (λ bytes. HasServeCause bytes SourceFailed ListenerFailed fault)
  -- and by that of a device in any case
  pub untold : HasServeDeviceCause SourceFailed ListenerFailed fault

-- what is so where the script wasn't played
abbrev pub IfUnserved : Type 0 → ServeScriptFault → Type 0
IfUnserved P (serving.Drive (faults.Script l)) = P
IfUnserved P (serving.Drive (faults.Setting fault)) = P
IfUnserved P (serving.Drive faults.TooLong) = P
IfUnserved P (serving.Drive faults.ReadFault) = P
IfUnserved P _ = Unit {0}

-- A failed listener leaves that its connections so far were answered. Want of memory leaves the same, but for the last connection; or it came
-- before the first, and then the listener is told nothing.
abbrev pub LeavesServed : List ℕ → List NetworkText → ℕ → Listening → Listening → ServeScriptFault → Type 0
LeavesServed bytes networks count old new serving.FailedToCreateHTTPListener = IsScriptServedInPart bytes networks count 0 old new
LeavesServed bytes networks count old new (serving.Drive faults.Memory) = (new ≡ old) ⊎ IsScriptServedInPart bytes networks count 1 old new
LeavesServed bytes networks count old new _ = Unit {0}

-- what a fault leaves of the listener, where `SameListener` says that this is as it was
pub record LeavesListener (left : Option (List ℕ)) (networks : List NetworkText) (count : ℕ) (old new : Listening) (SameListener : Type 0) (fault : ServeScriptFault) : Type 0 where
  -- where the script wasn't played it is
  pub unserved : IfUnserved SameListener fault
  -- where it was, the connections so far were answered
  pub in_part : IfSome left (λ bytes. LeavesServed bytes networks count old new fault)

-- ---- statuses

abbrev pub serve_status : ServeScriptFault → ℕ
serve_status (serving.Drive fault) = fault_status fault
serve_status serving.FailedToCreateHTTPListener = 9

abbrev pub serve_end_status : Result Served ServeScriptFault → ℕ
serve_end_status (Ok served) = 0
serve_end_status (Err fault) = serve_status fault

-- Each cause brings its status, unless a device failed or memory was wanting.
pub record IsServeComplete (bytes : List ℕ) (SourceFailed ListenerFailed : Type 0) (status : ℕ) : Type 0 where
  pub too_long : IsTooLong bytes → ¬ SourceFailed → (status ≡ 5) ⊎ (status ≡ 8)
  pub bad_script : (l : ℕ) → IsBadScript bytes l → ¬ SourceFailed → (status ≡ 3) ⊎ (status ≡ 8)
  pub refused_setting : (fault : SettingFault) → IsRefusedSetting default_agent bytes fault → ¬ SourceFailed → (status ≡ 4) ⊎ (status ≡ 8)
  pub good_script : (script : ScriptText) → IsGoodScript bytes script → IsAllowed default_agent script → ¬ SourceFailed → ¬ ListenerFailed → (status ≡ 0) ⊎ (status ≡ 8)

-- ---- words

-- a decimal number of 32 bits, without zeros or a sign in front
abbrev pub IsCount : List ℕ → ℕ → Type 0
IsCount text count = (count < 2 ^ 32) × (text ≡ decimal count)

-- each text writes its network, in turn
abbrev pub AreNetworks : List (List ℕ) → List NetworkText → Type 0
AreNetworks texts networks = AllZip IsNetwork texts networks

-- the words behind the command: the count, then networks, none or more
abbrev pub AreServeWords : List (List ℕ) → ℕ → List NetworkText → Type 0
AreServeWords words count networks =
    (number : List ℕ) × (behind : List (List ℕ)) × (words ≡ codes "serve" ∷ number ∷ behind) × IsCount number count × AreNetworks behind networks

-- the words are those of the command `serve`, with this count and these networks and no others; or they are none of it
abbrev pub HasServeWords : List (List ℕ) → Option (ℕ × List NetworkText) → Type 0
HasServeWords words None = (count : ℕ) (networks : List NetworkText) → ¬ (AreServeWords words count networks)
HasServeWords words (Some asked) =
    AreServeWords words asked.0 asked.1
    × ((count : ℕ) (networks : List NetworkText) → AreServeWords words count networks → (count ≡ asked.0) × (networks ≡ asked.1))

-- ---- lines on `err`

-- how many connections were served, and how many failed
abbrev pub served_text : Served → List ℕ
served_text served = codes "served " ++ decimal served.served ++ codes " failed " ++ decimal served.failed

-- the line of a fault
abbrev pub serve_fault_text : ServeScriptFault → List ℕ
serve_fault_text (serving.Drive fault) = fault_text fault
serve_fault_text serving.FailedToCreateHTTPListener = codes "failed to create HTTP listener"

-- The line that each status has, where the listener's count of lost connections was and is this. What it says of the script holds where the
-- source tells its bytes. Connections that failed are those that were lost.
pub data IsServeLineOf (count : ℕ) (left : Option (List ℕ)) (lost lost' : ℕ) : ℕ → List ℕ → Type 0 where
  done : (served : Served) → served.served + served.failed ≡ count → CountedOn lost lost' served.failed → IsServeLineOf count left lost lost' 0 (line (served_text served))
  bad_script : (l : ℕ) → IfSome left (λ bytes. IsBadScript bytes l) → IsServeLineOf count left lost lost' 3 (line (fault_text (faults.Script l)))
  setting_refused : (fault : SettingFault) → IfSome left (λ bytes. IsRefusedSetting default_agent bytes fault)
      → IsServeLineOf count left lost lost' 4 (line (fault_text (faults.Setting fault)))
  too_long : IsServeLineOf count left lost lost' 5 (line (fault_text faults.TooLong))
  read_failed : IsServeLineOf count left lost lost' 6 (line (fault_text faults.ReadFault))
  no_memory : IsServeLineOf count left lost lost' 8 (line (fault_text faults.Memory))
  listener_failed : IsServeLineOf count left lost lost' 9 (line (serve_fault_text serving.FailedToCreateHTTPListener))
