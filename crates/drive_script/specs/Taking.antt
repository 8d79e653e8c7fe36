-- What taking one more line does to the progress, and when a setup line may be taken.
use Rattle.std.specs.Prelude.{◌≡◌, ◌-◌, ◌<◌, [], Bool, MatchBool, length, vec_len, slice_index_or}
use Rattle.drive_script.specs.Script.{ScriptLine, ScriptText, Said}
use Rattle.drive_script.specs.Growth.{IsNext}
use Rattle.drive_script.specs.Texts.{script_so_far, IsKnown}
use Rattle.drive_script.specs.Valid.{registered}
use Rattle.drive_script.specs.declared.script.Round.{Round}
use Rattle.drive_script.specs.declared.progress.ScriptSoFar.{ScriptSoFar}

-- the line was taken, and the script so far has it at its end; or it wasn't, and no script has it there
abbrev pub Takes : Said → ScriptSoFar → ScriptSoFar → ScriptLine → Bool → Type 0
Takes said old new line taken =
    MatchBool taken
    ((later : Said) × IsNext said (script_so_far old) line later (script_so_far new) × IsKnown later new)
    ((later : Said) (script : ScriptText) → ¬ IsNext said (script_so_far old) line later script)

-- there is a last round, and it has no call line yet
pub record MaySetUp (progress : ScriptSoFar) : Type 0 where
  pub round : Round
  pub in_round : 0 < vec_len progress.rounds
  pub last : round ≡ slice_index_or progress.rounds.items (vec_len progress.rounds - 1) round
  pub no_call : round.calls.items ≡ []

-- the same, and there is room for one more register line
pub record MayRegister (progress : ScriptSoFar) : Type 0 where
  pub set_up : MaySetUp progress
  pub room : length (registered (script_so_far progress)) < 1000000
