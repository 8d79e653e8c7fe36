-- The lines of a payload: it is cut at each newline, and an empty last piece is no line.
use Rattle.std.specs.Prelude.{ℕ, List, [], ◌∷◌}
use Rattle.metrics_core.specs.Characters.{newline}
use Rattle.dsd_lines.specs.Reading.{pieces}

abbrev pub without_empty_last : List (List ℕ) → List (List ℕ)
without_empty_last [] = []
without_empty_last ([] ∷ []) = []
without_empty_last ((c ∷ piece) ∷ []) = (c ∷ piece) ∷ []
without_empty_last (piece ∷ other ∷ pieces) = piece ∷ without_empty_last (other ∷ pieces)

abbrev pub payload_lines : List ℕ → List (List ℕ)
payload_lines bytes = without_empty_last (pieces newline bytes)
