-- What an atomic step does to a gauge's word, and to the value that the word stands for.
use Rattle.std.proofs.Common.{◌≡◌, ℕ, ◌+◌, ◌-◌, ◌%◌, ◌^◌, ◌<◌, refl}
use Rattle.std.specs.Int.{w64, cast_signed}
use Rattle.std.proofs.lemmas.Int.{of_z-to_z}
use Rattle.metrics_core.specs.declared.calls.SeriesCall.TheVariants.{Add, Subtract, Set}
use Rattle.series_cells.specs.Values.{gauge_step, signed, billionths}

-- `fetch_add`, `fetch_sub` and `swap` with the word a
pub gauge_adds : (a : ℕ) → a < 2 ^ 64 → (n : ℕ) → n < 2 ^ 64 → gauge_step (signed n) (Add (billionths a)) ≡ signed ((n + a) % 2 ^ 64)
gauge_adds a fits n below = λ i. cast_signed w64 ((of_z-to_z w64 n below i + of_z-to_z w64 a fits i) % 2 ^ 64)

pub gauge_subtracts : (a : ℕ) → a < 2 ^ 64 → (n : ℕ) → n < 2 ^ 64 → gauge_step (signed n) (Subtract (billionths a)) ≡ signed ((n + (2 ^ 64 - a)) % 2 ^ 64)
gauge_subtracts a fits n below = λ i. cast_signed w64 ((of_z-to_z w64 n below i + (2 ^ 64 - of_z-to_z w64 a fits i)) % 2 ^ 64)

pub gauge_sets : (a : ℕ) → (n : ℕ) → n < 2 ^ 64 → gauge_step (signed n) (Set (billionths a)) ≡ signed a
gauge_sets a n below = refl
