-- The values that go on one line (this project's rule: as many as the limit allows).
use Rattle.std.specs.Prelude.{◌≡◌, ℕ, ◌+◌, ◌<◌, ◌≤◌, Bool, nat_le, nat_lt, List, [], ◌∷◌, ◌++◌, length, filter}
use Rattle.dsd_writer.specs.Cuts.{full_cut}
use Rattle.dsd_writer.specs.Lines.{values_text}

-- the values that a line with so much room for values takes alone, each behind a colon
abbrev pub short_values : ℕ → List (List ℕ) → List (List ℕ)
short_values room values = filter (λ value. nat_lt (length value) room) values

-- whether a line with so much room takes these values
abbrev pub run_fits : ℕ → List (List ℕ) → Bool
run_fits room run = nat_le (length (values_text run)) room

-- The values at the front go on one line but for those that none takes: they are the first run of the full cut. They use so much of
-- its room; where they use none, there is no line.
pub record IsRun (room : ℕ) (front behind : List (List ℕ)) (used left_out : ℕ) : Type 0 where
  pub weight : used ≡ length (values_text (short_values room front))
  pub dropped : left_out + length (short_values room front) ≡ length front
  pub fits : used ≤ room
  pub cut : 0 < used → full_cut (run_fits room) (short_values room (front ++ behind)) ≡ short_values room front ∷ full_cut (run_fits room) (short_values room behind)
  pub none : used ≡ 0 → behind ≡ []
