-- Which scripts are played, and why a play ends before its last page (this project's rule).
use Rattle.std.specs.Prelude.{◌≡◌, [], All, None}
use Rattle.dsd_addresses.specs.Remotes.{RemoteText}
use Rattle.drive_script.specs.Script.{ScriptText, SettingsText}
use Rattle.drive_script.specs.Settings.{refused_setting}
use Rattle.drive_script.specs.declared.faults.DriveFault.{DriveFault}
use Rattle.drive_script.specs.declared.faults.DriveFault.TheVariants as faults
use Rattle.script_player.specs.Fitting.{CallsFit}
use Rattle.script_player.specs.Recorded.{AllRecordSome}
use Rattle.script_player.specs.Timely.{RiseFrom}

-- none of the settings is refused, where payloads go to this address
abbrev pub AreAllowed : RemoteText → SettingsText → Type 0
AreAllowed to settings = refused_setting settings to ≡ None

abbrev pub IsAllowed : RemoteText → ScriptText → Type 0
IsAllowed to script = AreAllowed to script.settings

-- nor is anything else in the way: calls name handles of earlier register lines of their kinds and record samples, and moments never fall
pub record CanPlay (to : RemoteText) (script : ScriptText) : Type 0 where
  pub allowed : IsAllowed to script
  pub fit : CallsFit [] script.rounds
  pub some : All AllRecordSome script.rounds
  pub moments : RiseFrom 0 script.rounds

-- why a play ended before its last page: the sink failed, or memory was wanting
abbrev pub IsPlayFault : Type 0 → DriveFault → Type 0
IsPlayFault SinkFailed faults.WriteFault = SinkFailed
IsPlayFault SinkFailed faults.Memory = Unit {0}
IsPlayFault SinkFailed _ = ⊥
