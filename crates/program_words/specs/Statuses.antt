-- The numbers that the program ends with (this project's rule).
use Rattle.std.specs.Prelude.{ℕ}
use Rattle.program_words.specs.declared.statuses.Status.{Status}
use Rattle.program_words.specs.declared.statuses.Status.TheVariants as statuses

abbrev pub status_number : Status → ℕ
status_number statuses.Done = 0
status_number statuses.NoForm = 2
status_number statuses.BadScript = 3
status_number statuses.RefusedSetting = 4
status_number statuses.TooLong = 5
status_number statuses.ReadFailed = 6
status_number statuses.WriteFailed = 7
status_number statuses.NoMemory = 8
status_number statuses.ListenerFailed = 9
status_number statuses.BadStream = 10
status_number statuses.Conflict = 11
status_number statuses.CutStream = 12
status_number statuses.BadRules = 13
