-- Which status the program ends with, by which cause, and its line on `err` (this project's rules).
use Rattle.std.specs.Prelude.{◌≡◌, ◌≢◌, ⊤, ℕ, ◌+◌, ◌<◌, ◌≤◌, ◌⊎◌, List, [], ◌∷◌, ◌++◌, drop, length, Result, Ok, Err, Option, Some, None, IfSome, codes, decimal, map}
use Rattle.std.specs.Borrow.{Bor}
use Rattle.metrics_core.specs.Characters.{line}
use Rattle.metrics_core.specs.Outside.{GrewBy, GrewByPrefix}
use Rattle.drive_script.specs.Script.{ScriptText}
use Rattle.drive_script.specs.Valid.{IsFirstBadLine}
use Rattle.drive_script.specs.Faults.{fault_text}
use Rattle.drive_script.specs.Settings.{refusal_of, refused_setting}
use Rattle.drive_script.specs.declared.faults.SettingFault.{SettingFault}
use Rattle.drive_script.specs.declared.faults.DriveFault.{DriveFault}
use Rattle.drive_script.specs.declared.faults.DriveFault.TheVariants as faults
use Rattle.dsd_addresses.specs.Remotes.{RemoteText, Udp, Unix, Unixgram, IsRemote}
use Rattle.script_player.specs.Agent.{default_agent}
use Rattle.program_words.specs.Devices.{SinkRun, SinkFailed}
use Rattle.script_player.specs.Faults.{IsAllowed}
use Rattle.script_player.specs.Headline.{IsPlayedInPart, IsGoodScript, script_limit}
use Rattle.script_player.specs.InPart.{IsCutOff}
use Rattle.script_player.specs.Sent.{IsSent, LinkTold}
use Rattle.script_player.specs.declared.report.Report.{Report}

-- ---- causes

-- the texts of words
abbrev pub texts_of : List (Bor (List ℕ)) → List (List ℕ)
texts_of words = map (λ word. word.now) words

-- an address that payloads are sent to: not a Unix datagram socket
abbrev pub IsServed : RemoteText → Type 0
IsServed (Udp _) = ⊤
IsServed (Unix _) = ⊤
IsServed (Unixgram _) = ⊥

-- the words behind the command `drive`: none, or the text of an address
abbrev pub IsAddress : List (List ℕ) → RemoteText → Type 0
IsAddress [] to = to ≡ default_agent
IsAddress (text ∷ []) to = IsRemote text to × IsServed to
IsAddress (_ ∷ (_ ∷ _)) to = ⊥

-- the words of the command `drive`, alone or with the text of an address, and of the commands `merge`, `receive` and `rules`
abbrev pub IsDriveTo : List (List ℕ) → RemoteText → Type 0
IsDriveTo words to = (behind : List (List ℕ)) × (words ≡ codes "drive" ∷ behind) × IsAddress behind to

abbrev pub IsDriveWords : List (List ℕ) → Type 0
IsDriveWords words = (to : RemoteText) × IsDriveTo words to

abbrev pub IsMergeWords : List (List ℕ) → Type 0
IsMergeWords words = words ≡ codes "merge" ∷ []

abbrev pub IsReceiveWords : List (List ℕ) → Type 0
IsReceiveWords words = words ≡ codes "receive" ∷ []

abbrev pub IsRulesWords : List (List ℕ) → Type 0
IsRulesWords words = words ≡ codes "rules" ∷ []

-- the words of the command `drive` have this address and no other, or none
abbrev pub HasAddress : List (List ℕ) → Option RemoteText → Type 0
HasAddress words None = (to : RemoteText) → ¬ (IsDriveTo words to)
HasAddress words (Some to) = IsDriveTo words to × ((other : RemoteText) → IsDriveTo words other → other ≡ to)

-- a text writes this address, which is served, and no other; or it writes none that is
abbrev pub IsServedAs : List ℕ → Option RemoteText → Type 0
IsServedAs text None = (to : RemoteText) → IsRemote text to → IsServed to → ⊥
IsServedAs text (Some to) = IsRemote text to × IsServed to × ((other : RemoteText) → IsRemote text other → other ≡ to)

-- the source gave more bytes than that
abbrev pub IsTooLong : List ℕ → Type 0
IsTooLong bytes = script_limit < length bytes

-- the bytes are within the limit, and line l is the first bad one
abbrev pub IsBadScript : List ℕ → ℕ → Type 0
IsBadScript bytes l = (length bytes ≤ script_limit) × IsFirstBadLine bytes l

-- the bytes are a valid script, and this is the first of its settings that is refused
abbrev pub IsRefusedSetting : RemoteText → List ℕ → SettingFault → Type 0
IsRefusedSetting to bytes fault = (script : ScriptText) × IsGoodScript bytes script × (refused_setting script.settings to ≡ Some (refusal_of fault))

-- Why a run over these bytes, whose payloads go to an address, ended with a fault; `SourceFailed` and `SinkFailed` say that
-- the count of faults of the source and of the sink of the pages rose in the call. Want of memory is free.
abbrev pub HasCause : RemoteText → List ℕ → Type 0 → Type 0 → DriveFault → Type 0
HasCause to bytes SourceFailed SinkFailed (faults.Script l) = IsBadScript bytes l
HasCause to bytes SourceFailed SinkFailed (faults.Setting fault) = IsRefusedSetting to bytes fault
HasCause to bytes SourceFailed SinkFailed faults.TooLong = IsTooLong bytes
HasCause to bytes SourceFailed SinkFailed faults.ReadFault = SourceFailed
HasCause to bytes SourceFailed SinkFailed faults.WriteFault = SinkFailed
HasCause to bytes SourceFailed SinkFailed faults.Memory = Unit {0}

-- the same of a fault whatever the source tells: a failed read and a failed write have their causes
abbrev pub HasDeviceCause : Type 0 → Type 0 → DriveFault → Type 0
HasDeviceCause SourceFailed SinkFailed faults.ReadFault = SourceFailed
HasDeviceCause SourceFailed SinkFailed faults.WriteFault = SinkFailed
HasDeviceCause SourceFailed SinkFailed _ = Unit {0}

-- why a run over what the source tells ended with a fault
pub record ComesBy (to : RemoteText) (left : Option (List ℕ)) (SourceFailed SinkFailed : Type 0) (fault : DriveFault) : Type 0 where
  -- by the cause in its bytes, where it tells them
  pub told : IfSome left (λ bytes. HasCause to bytes SourceFailed SinkFailed fault)
  -- and by that of a device in any case
  pub untold : HasDeviceCause SourceFailed SinkFailed fault

-- what is so where the script wasn't played
abbrev pub IfUnplayed : Type 0 → DriveFault → Type 0
IfUnplayed P (faults.Script l) = P
IfUnplayed P (faults.Setting fault) = P
IfUnplayed P faults.TooLong = P
IfUnplayed P faults.ReadFault = P
IfUnplayed P _ = Unit {0}

-- a failed write leaves a prefix of the pages of a run, and want of memory such a prefix or nothing
abbrev pub LeavesPrefix : RemoteText → List ℕ → Option (List ℕ) → Option (List ℕ) → DriveFault → Type 0
LeavesPrefix to bytes written written' faults.WriteFault = IsPlayedInPart to bytes written written'
LeavesPrefix to bytes written written' faults.Memory = (written' ≡ written) ⊎ IsPlayedInPart to bytes written written'
LeavesPrefix to bytes written written' _ = Unit {0}

-- the bytes are a valid script whose settings are allowed, and its play ended within a round
pub record IsReportedInPart (bytes : List ℕ) (to : RemoteText) (written written' : Option (List ℕ)) (told tells : LinkTold) : Type 0 where
  pub script : ScriptText
  pub reading : IsGoodScript bytes script
  pub allowed : IsAllowed to script
  pub ended : IsCutOff script to written written' told tells

-- nothing was written and nothing was sent
abbrev pub IsUnbegun : Option (List ℕ) → Option (List ℕ) → LinkTold → LinkTold → Type 0
IsUnbegun written written' told tells = (written' ≡ written) × (tells.sent ≡ told.sent)

-- a failed write leaves a play that ended within a round, and want of memory such a one or nothing
abbrev pub LeavesInPart : RemoteText → List ℕ → Option (List ℕ) → Option (List ℕ) → LinkTold → LinkTold → DriveFault → Type 0
LeavesInPart to bytes written written' told tells faults.WriteFault = IsReportedInPart bytes to written written' told tells
LeavesInPart to bytes written written' told tells faults.Memory = IsUnbegun written written' told tells ⊎ IsReportedInPart bytes to written written' told tells
LeavesInPart to bytes written written' told tells _ = Unit {0}

-- what a fault leaves of the sink and of the link, where `SameLink` says that this is as it was
pub record LeavesRun (to : RemoteText) (left written written' : Option (List ℕ)) (told tells : LinkTold) (SameLink : Type 0) (fault : DriveFault) : Type 0 where
  -- where the script wasn't played nothing was written
  pub unplayed : IfUnplayed (written' ≡ written) fault
  -- and nothing was sent
  pub unsent : IfUnplayed SameLink fault
  -- where it was, the pages of the first rounds were written, and a prefix of the next
  pub prefix : IfSome left (λ bytes. LeavesPrefix to bytes written written' fault)
  -- and the payloads of those rounds were handed to the link
  pub in_part : IfSome left (λ bytes. LeavesInPart to bytes written written' told tells fault)

-- ---- statuses

abbrev pub fault_status : DriveFault → ℕ
fault_status (faults.Script l) = 3
fault_status (faults.Setting fault) = 4
fault_status faults.TooLong = 5
fault_status faults.ReadFault = 6
fault_status faults.WriteFault = 7
fault_status faults.Memory = 8

abbrev pub end_status : {T : Type 0} → Result T DriveFault → ℕ
end_status (Ok done) = 0
end_status (Err fault) = fault_status fault

-- Each cause brings its status, unless a device failed or memory was wanting, where payloads go to this address.
pub record IsComplete (to : RemoteText) (bytes : List ℕ) (SourceFailed SinkFailed : Type 0) (status : ℕ) : Type 0 where
  pub too_long : IsTooLong bytes → ¬ SourceFailed → (status ≡ 5) ⊎ (status ≡ 8)
  pub bad_script : (l : ℕ) → IsBadScript bytes l → ¬ SourceFailed → (status ≡ 3) ⊎ (status ≡ 8)
  pub refused_setting : (fault : SettingFault) → IsRefusedSetting to bytes fault → ¬ SourceFailed → (status ≡ 4) ⊎ (status ≡ 8)
  pub good_script : (script : ScriptText) → IsGoodScript bytes script → IsAllowed to script → ¬ SourceFailed → ¬ SinkFailed → (status ≡ 0) ⊎ (status ≡ 8)

-- the statuses after which no page was begun: the words are no form, or the input was refused or not read
abbrev pub IsUnplayed : ℕ → Type 0
IsUnplayed status =
    (status ≡ 2) ⊎ ((status ≡ 3) ⊎ ((status ≡ 4) ⊎ ((status ≡ 5) ⊎ ((status ≡ 6) ⊎ ((status ≡ 10) ⊎ ((status ≡ 11) ⊎ ((status ≡ 12) ⊎ (status ≡ 13))))))))

-- the statuses that are none of the command `drive`
abbrev pub IsNoDriveStatus : ℕ → Type 0
IsNoDriveStatus status = (status ≡ 2) ⊎ ((status ≡ 9) ⊎ ((status ≡ 10) ⊎ ((status ≡ 11) ⊎ ((status ≡ 12) ⊎ (status ≡ 13)))))

-- What a status says of where the link is aimed: it is as before or at this address, and at this address where a page was written whole or a write failed.
pub record IsAimed (to : RemoteText) (before after : Option RemoteText) (status : ℕ) : Type 0 where
  pub only : (after ≡ before) ⊎ (after ≡ Some to)
  pub played : (status ≡ 0) ⊎ (status ≡ 7) → after ≡ Some to

-- What a status says of the bytes that are still to come, of those that were to come before: no more than one byte past the limit was read; exactly so many
-- where they are too long; and all of them after each other status than that of a failed read and of want of memory.
pub record LeavesSource (bytes : List ℕ) (left : Option (List ℕ)) (status : ℕ) : Type 0 where
  pub within : (n : ℕ) × (n ≤ script_limit + 1) × (left ≡ Some (drop n bytes))
  pub too_long : status ≡ 5 → left ≡ Some (drop (script_limit + 1) bytes)
  pub whole : status ≢ 5 → status ≢ 6 → status ≢ 8 → left ≡ Some []

-- what an end with a status leaves of the devices that are read and aimed: where the link is aimed, and the bytes that are still to come
pub record LeavesDevices (to : RemoteText) (aimed aimed' : Option RemoteText) (left left' : Option (List ℕ)) (status : ℕ) : Type 0 where
  pub aimed_at : IsAimed to aimed aimed' status
  pub source : IfSome left (λ bytes. LeavesSource bytes left' status)

-- ---- lines on `err`

abbrev pub usage_text : List ℕ
usage_text = codes "usage: drive [ADDRESS] | serve COUNT [NETWORK ..] | bench N | merge | receive | rules"

-- the report of a run: its pages, payloads sent and not sent, values left out
abbrev pub report_text : Report → List ℕ
report_text report =
    codes "pages " ++ decimal report.pages ++ codes " sent " ++ decimal report.sent ++ codes " unsent " ++ decimal report.unsent
    ++ codes " dropped " ++ decimal report.dropped

-- the bytes are a valid script whose settings are allowed, and the link was handed the payloads of its run, as the report says
pub record IsReported (bytes : List ℕ) (to : RemoteText) (told tells : LinkTold) (report : Report) : Type 0 where
  pub script : ScriptText
  pub reading : IsGoodScript bytes script
  pub allowed : IsAllowed to script
  pub sent : IsSent script to told tells report

-- The line that each status has where payloads go to this address. What it says of the script and of what was sent holds where
-- the source tells its bytes.
pub data IsLineOf (to : RemoteText) (left : Option (List ℕ)) (told tells : LinkTold) : ℕ → List ℕ → Type 0 where
  done : (report : Report) → IfSome left (λ bytes. IsReported bytes to told tells report)
      → IsLineOf to left told tells 0 (line (report_text report))
  bad_script : (l : ℕ) → IfSome left (λ bytes. IsBadScript bytes l)
      → IsLineOf to left told tells 3 (line (fault_text (faults.Script l)))
  setting_refused : (fault : SettingFault) → IfSome left (λ bytes. IsRefusedSetting to bytes fault)
      → IsLineOf to left told tells 4 (line (fault_text (faults.Setting fault)))
  too_long : IsLineOf to left told tells 5 (line (fault_text faults.TooLong))
  read_failed : IsLineOf to left told tells 6 (line (fault_text faults.ReadFault))
  write_failed : IsLineOf to left told tells 7 (line (fault_text faults.WriteFault))
  no_memory : IsLineOf to left told tells 8 (line (fault_text faults.Memory))

-- `err` got a text, where it tells; where it failed, a prefix of it and nothing behind that
abbrev pub IsSaidText : Type 0 → Option (List ℕ) → Option (List ℕ) → List ℕ → Type 0
IsSaidText ErrFailed said said' text = GrewBy said said' text ⊎ (ErrFailed × GrewByPrefix said said' text)

-- `err` got such a line, where it tells, or where it failed a prefix of it
pub record Says (err : SinkRun) (IsLine : List ℕ → Type 0) : Type 0 where
  pub text : List ℕ
  pub meant : IsLine text
  pub written : IsSaidText (SinkFailed err) err.written err.written' text
