-- How a limit is used up by what stands on a line.
use Rattle.std.specs.Prelude.{◌≡◌, ℕ, ◌+◌, ◌<◌, Option, MatchOption}

-- what is left of a room after so many bytes: nothing exactly where they don't fit
abbrev pub Leaves : Option ℕ → ℕ → ℕ → Type 0
Leaves left room taken = MatchOption left (room < taken) (λ left. left + taken ≡ room)
