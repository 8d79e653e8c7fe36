-- What a sink of a text has taken.
use Rattle.std.specs.Prelude.{ℕ, List}

-- the bytes that were written, and how many writes failed
pub record Written : Type 0 where
  pub bytes : List ℕ
  pub faults : ℕ
