-- A lane that reads its lines off its calls.
use Rattle.std.proofs.Common.{◌≡◌, ℕ, zero, suc, ◌+◌, ◌<◌, ◌≤◌, List, [], ◌∷◌, ◌++◌, length, drop, refl, ap, ◌∙◌, arith}
use Rattle.std.specs.Prelude.{Some, None, slice_get, slice_index_or}
use Rattle.std.proofs.lemmas.Option.{same_Some}
use Rattle.script_player.specs.declared.lane_lines.LaneCall.{LaneCall}
use Rattle.script_player.specs.LaneTables.{lines_of, pair_of}

-- ---- how many they are

pub lines_most : (moment : ℕ) (its : List LaneCall) → length (lines_of moment its) ≤ length its + length its
lines_most moment [] = omega arith
lines_most moment (own ∷ its) = let more = lines_most moment its in omega (arith, more)

-- ---- the next call

got_drop : {A : Type 0} (xs : List A) (i : ℕ) (a : A) → slice_get xs i ≡ Some a → drop i xs ≡ a ∷ drop (suc i) xs
got_drop [] i a e = absurd cc
got_drop (x ∷ xs) zero a e = ap (λ y. y ∷ xs) (same_Some x a e)
got_drop (x ∷ xs) (suc i) a e = got_drop xs i a e

none_drop : {A : Type 0} (xs : List A) (i : ℕ) → slice_get xs i ≡ None → drop i xs ≡ []
none_drop [] zero e = refl
none_drop [] (suc i) e = refl
none_drop (x ∷ xs) zero e = absurd cc
none_drop (x ∷ xs) (suc i) e = none_drop xs i e

pub get_past : {A : Type 0} (xs : List A) (i : ℕ) → length xs ≤ i → slice_get xs i ≡ None
get_past [] i past = refl
get_past (x ∷ xs) zero past = absurd (omega (arith, past))
get_past (x ∷ xs) (suc i) past = get_past xs i (omega (arith, past))

pub get_here : {A : Type 0} (xs : List A) (i : ℕ) (d : A) → i < length xs → slice_get xs i ≡ Some (slice_index_or xs i d)
get_here [] i d within = absurd (omega (arith, within))
get_here (x ∷ xs) zero d within = refl
get_here (x ∷ xs) (suc i) d within = get_here xs i d (omega (arith, within))

module _ (moment past : ℕ) (its : List LaneCall) where
  -- its two lines come next
  pub lines_next : (own : LaneCall) → slice_get its past ≡ Some own → lines_of moment (drop past its) ≡ pair_of moment own ++ lines_of moment (drop (suc past) its)
  lines_next own got = ap (lines_of moment) (got_drop its past own got)

  -- no call is left, and so no line
  pub lines_end : slice_get its past ≡ None → lines_of moment (drop past its) ≡ []
  lines_end none = ap (lines_of moment) (none_drop its past none)
