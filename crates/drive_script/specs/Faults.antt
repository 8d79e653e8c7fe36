-- Why a script is refused, and what is said of each end of a run (this project's rules).
use Rattle.std.specs.Prelude.{ℕ, List, ◌++◌, codes, decimal}
use Rattle.drive_script.specs.declared.faults.DriveFault.{DriveFault}
use Rattle.drive_script.specs.declared.faults.DriveFault.TheVariants as faults
use Rattle.drive_script.specs.declared.faults.SettingFault.{SettingFault}
use Rattle.drive_script.specs.Settings.{refusal_of, refusal_text}
use Rattle.drive_script.specs.Valid.{IsFirstBadLine}

-- Why the bytes are refused as a script: the line is the first bad one. Want of memory is free, and nothing else is answered.
abbrev pub IsScriptFault : List ℕ → DriveFault → Type 0
IsScriptFault bytes (faults.Script line) = IsFirstBadLine bytes line
IsScriptFault bytes (faults.Setting fault) = ⊥
IsScriptFault bytes faults.TooLong = ⊥
IsScriptFault bytes faults.ReadFault = ⊥
IsScriptFault bytes faults.WriteFault = ⊥
IsScriptFault bytes faults.Memory = Unit {0}

-- the text that is said of a refused setting
abbrev pub setting_text : SettingFault → List ℕ
setting_text fault = refusal_text (refusal_of fault)

-- the text that is said of a fault
abbrev pub fault_text : DriveFault → List ℕ
fault_text (faults.Script line) = codes "script: line " ++ decimal line
fault_text (faults.Setting fault) = setting_text fault
fault_text faults.TooLong = codes "script: longer than 67108864 bytes"
fault_text faults.ReadFault = codes "read failed"
fault_text faults.WriteFault = codes "write failed"
fault_text faults.Memory = codes "out of memory"
