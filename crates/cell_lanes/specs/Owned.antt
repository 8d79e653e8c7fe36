-- How the one who keeps a cell counts the passes that are out.
use Rattle.std.specs.Prelude.{ℕ, Bool, ◌==◌, ◌||◌}

-- the count is that of the passes that are out, or the greatest number, which stands for any
abbrev pub counts : ℕ → ℕ → Bool
counts count out = count == 4294967295 || count == out
