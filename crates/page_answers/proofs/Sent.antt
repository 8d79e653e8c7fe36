-- What was written of a piece to a connection that tells.
use Rattle.std.proofs.Common.{◌≡◌, List, ℕ, ◌++◌, Option, Some}
use Rattle.page_answers.specs.Connections.{Told, with_written}

-- the piece was written but for `rest` at its end
pub record Sent (before : Told) (new : Option Told) (piece rest : List ℕ) : Type 0 where
  pub prefix : List ℕ
  pub cut : piece ≡ prefix ++ rest
  pub told : new ≡ Some (with_written before prefix)
