-- A value so many times.
use Rattle.std.specs.Prelude.{ℕ, List, [], replicate, Option, Some, None}
use Rattle.std.specs.Borrow.{Bor}

abbrev pub again_of : {V : Type 0} → Option (Bor V) → ℕ → List V
again_of None n = []
again_of (Some v) n = replicate n v.now
