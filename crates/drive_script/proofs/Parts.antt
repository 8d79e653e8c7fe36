-- What is read from a line part by part is what the line is read as.
use Rattle.std.proofs.Common.{◌≡◌, ℕ, List, [], ◌∷◌, Option, Some, None, refl}
use Rattle.std.specs.Prelude.{codes, ℤ, option_map}
use Rattle.prom_format.specs.Matchers.{MatcherText}
use Rattle.drive_script.specs.Reading.{◌>>=◌, behind, after, end_at, whole, matcher_at, native_numbers_at, native_of_parts, native_for_at}
use Rattle.drive_script.specs.Script.{NativeLine}

abbrev Numbers : Type 0
Numbers = ℤ × (ℕ × ℤ)

abbrev with_matcher : MatcherText → Numbers × List ℕ → Option ((MatcherText × Numbers) × List ℕ)
with_matcher matcher numbers = Some ((matcher, numbers.0), numbers.1)

abbrev native_seen : (MatcherText × Numbers) × List ℕ → Option (NativeLine × List ℕ)
native_seen parts = Some (native_of_parts parts.0, parts.1)

abbrev to_end : {A : Type 0} → A × List ℕ → Option A
to_end read = end_at read.1 >>= λ _. Some read.0

pub native_read : (line behind_word behind_matcher : List ℕ) (matcher : MatcherText) → behind (codes "native-for ") line ≡ Some behind_word → matcher_at behind_word ≡ Some (matcher, behind_matcher)
    → native_for_at line ≡ option_map (λ numbers. native_of_parts (matcher, numbers)) (whole (after (codes " ") native_numbers_at) behind_matcher)
unfolding native_for_at
native_read line behind_word behind_matcher matcher is_word is_matcher = rw (is_word, is_matcher) (by (after (codes " ") native_numbers_at behind_matcher))
  where
    by : (o : Option (Numbers × List ℕ)) → (((o >>= with_matcher matcher) >>= native_seen) >>= to_end) ≡ option_map (λ numbers. native_of_parts (matcher, numbers)) (o >>= to_end)
    by None = refl
    by (Some (numbers, [])) = refl
    by (Some (numbers, b ∷ rest)) = refl
