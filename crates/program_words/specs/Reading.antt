-- Reading a source piece by piece.
use Rattle.std.specs.Prelude.{◌≡◌, ℕ, ◌+◌, ◌≤◌, List, [], ◌++◌, take, drop, Option, Some, IfSome}
use Rattle.drive_script.specs.declared.faults.DriveFault.{DriveFault}
use Rattle.drive_script.specs.declared.faults.DriveFault.TheVariants as faults
use Rattle.drive_script.specs.Script.{ScriptText}
use Rattle.program_words.specs.Answers.{IsBadScript, IsTooLong}
use Rattle.script_player.specs.Headline.{IsGoodScript, script_limit}

-- so many bytes are there of a room for so many, and both are within what is read at most
abbrev pub HasRoom : ℕ → ℕ → Type 0
HasRoom filled room = (filled ≤ room) × (filled ≤ script_limit) × (room ≤ script_limit + 1)

-- the first n of the bytes to come went behind the bytes so far; none at the end
pub record IsTaken (rest : List ℕ) (left : Option (List ℕ)) (bytes bytes' : List ℕ) (n : ℕ) : Type 0 where
  pub told : left ≡ Some (drop n rest)
  pub added : bytes' ≡ bytes ++ take n rest
  pub at_the_end : n ≡ 0 → rest ≡ []

-- why a piece wasn't read
abbrev pub IsPieceFault : Type 0 → DriveFault → Type 0
IsPieceFault SourceFailed faults.ReadFault = SourceFailed
IsPieceFault SourceFailed faults.Memory = Unit {0}
IsPieceFault SourceFailed _ = ⊥

-- why a source wasn't read whole within the limit
abbrev pub IsReadFault : Option (List ℕ) → Type 0 → DriveFault → Type 0
IsReadFault left SourceFailed faults.TooLong = IfSome left IsTooLong
IsReadFault left SourceFailed faults.ReadFault = SourceFailed
IsReadFault left SourceFailed faults.Memory = Unit {0}
IsReadFault left SourceFailed _ = ⊥

-- the source's bytes, where it tells them, are within the limit and this script
pub record IsReadAs (left : Option (List ℕ)) (script : ScriptText) : Type 0 where
  pub bytes : List ℕ
  pub whole : IfSome left (λ all. bytes ≡ all)
  pub good : IsGoodScript bytes script

-- why no script was read
abbrev pub IsUnread : Option (List ℕ) → Type 0 → DriveFault → Type 0
IsUnread left SourceFailed (faults.Script l) = IfSome left (λ bytes. IsBadScript bytes l)
IsUnread left SourceFailed fault = IsReadFault left SourceFailed fault
