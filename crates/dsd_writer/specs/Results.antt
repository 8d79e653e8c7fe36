-- What a write answers.
use Rattle.std.specs.Prelude.{ℕ, List, length}
use Rattle.dsd_writer.specs.Lines.{ItemText, lines_of, left_out_values}

-- how many lines were written, and how many points were left out
pub record Written : Type 0 where
  pub lines : ℕ
  pub left_out : ℕ

-- what is written of an item with these values
abbrev pub written_of : ℕ → ItemText → List (List ℕ) → Written
written_of limit item values = record { lines = length (lines_of limit item values); left_out = length (left_out_values limit item values) }
