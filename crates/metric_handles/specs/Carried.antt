-- A handle with the pass by which its calls are made.
use Rattle.std.specs.Prelude.{Option}

-- the cell of a handle, where it has one, and the pass
pub record Carried (F P : Type 0) : Type 0 where
  pub cell : Option F
  pub pass : P
