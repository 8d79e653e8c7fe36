-- Facts that have one proof.
use Rattle.std.proofs.Common.{◌≡◌, ℕ}
use native.Mathlib.Nat.{ℕ_set}

pub one_equation : (a b : ℕ) → IsProp (a ≡ b)
one_equation a b = ℕ_set a b
