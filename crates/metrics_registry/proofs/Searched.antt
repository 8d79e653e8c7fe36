-- Numbers that rise, as a search for one of them compares them.
use Rattle.std.proofs.Common.{◌≡◌, ℕ, ◌≤◌, arith}
use Rattle.std.specs.Ordering.{nat_cmp, ordering_index}
use Rattle.std.specs.declared.cmp.Ordering.TheVariants.{Less, Equal, Greater}
use Rattle.std.proofs.lemmas.Bool.Decides.{nat_tests}

pub compared : (n a b : ℕ) → a ≤ b → ordering_index (nat_cmp a n) ≤ ordering_index (nat_cmp b n)
compared n a b le = grind (arith, nat_tests)

pub equal_number : (a n : ℕ) → nat_cmp a n ≡ Equal → a ≡ n
equal_number a n e = grind (arith, nat_tests)

pub less_number : (a n : ℕ) → nat_cmp a n ≡ Less → a ≡ n → ⊥
less_number a n e same = grind (arith, nat_tests)

pub greater_number : (a n : ℕ) → nat_cmp a n ≡ Greater → a ≡ n → ⊥
greater_number a n e same = grind (arith, nat_tests)
