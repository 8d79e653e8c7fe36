-- The words of levels (those of the `metrics` crate, version 0.24), and what a text that names none is answered.
use Rattle.std.specs.Prelude.{◌≡◌, ℕ, ◌⊎◌, Bool, ◌||◌, List, ◌++◌, codes, bytes_eq, string_bytes}
use Rattle.metrics_core.specs.declared.levels.Level.{Level as LevelOf}
use Rattle.metrics_core.specs.declared.levels.Level.TheVariants.{Trace, Debug, Info, Warn, Error}
use Rattle.metrics_core.specs.declared.levels.LevelFault.{LevelFault as FaultOf}
use Rattle.metrics_core.specs.declared.levels.LevelFault.TheVariants.{Unknown, Memory}

-- the word of a level in lower case, and in upper case
abbrev pub lower_word : LevelOf → List ℕ
lower_word Trace = codes "trace"
lower_word Debug = codes "debug"
lower_word Info = codes "info"
lower_word Warn = codes "warn"
lower_word Error = codes "error"

abbrev pub upper_word : LevelOf → List ℕ
upper_word Trace = codes "TRACE"
upper_word Debug = codes "DEBUG"
upper_word Info = codes "INFO"
upper_word Warn = codes "WARN"
upper_word Error = codes "ERROR"

-- the text is a word of the level
abbrev pub IsWordOf : LevelOf → List ℕ → Type 0
IsWordOf level word = (word ≡ lower_word level) ⊎ (word ≡ upper_word level)

-- whether it is
abbrev pub has_word : List ℕ → LevelOf → Bool
has_word word level = bytes_eq (lower_word level) word || bytes_eq (upper_word level) word

-- the fault, unless memory was refused, names this word
abbrev pub NamesWord : List ℕ → FaultOf → Type 0
NamesWord word (Unknown text) = string_bytes text ≡ word
NamesWord word Memory = Unit {0}

-- how a fault is shown
abbrev pub level_fault_text : FaultOf → List ℕ
level_fault_text (Unknown text) =
    codes "unknown log level: " ++ string_bytes text ++ codes " (expected one of 'trace', 'debug', 'info', 'warn', or 'error')"
level_fault_text Memory = codes "out of memory"
