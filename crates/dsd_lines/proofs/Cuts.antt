-- Pieces between two of a character, taken one after the other.
use Rattle.std.proofs.Common.{◌≡◌, ◌≢◌, ℕ, ◌<◌, ◌≤◌, Bool, false, not, List, [], ◌∷◌, length, get_or, take, Option, Some, None, refl, sym, ap, ◌∙◌, arith, inl, inr}
use Rattle.std.specs.Borrow.{Bor}
use Rattle.std.specs.Prelude.{All, position, unwrap_or, option_copied}
use Rattle.std.specs.List.{position_or_len, before_first}
use Rattle.std.proofs.Math.Seq.{take-length}
use Rattle.std.proofs.lemmas.Bool.{cases_lt, lt-ltb, le-ltb, not-true}
use Rattle.std.proofs.lemmas.Bool.Decides.{nat_tests}
use Rattle.std.proofs.lemmas.List.Elements.{All-from_get_or}
use Rattle.std.proofs.lemmas.List.Splits.{slice_split_first, slice_split_none}
use Rattle.std.proofs.lemmas.List.Sums.{prefix_len-le-length, prefix_len_passes}
use Rattle.dsd_lines.specs.Reading.{is, pieces, behind_first, led}
use Rattle.dsd_lines.specs.Texts.{pieces_behind}

-- the place of the first element that passes, or the length
pub position_or_length : (p : ℕ → Bool) (xs : List ℕ) → unwrap_or (position p xs) (length xs) ≡ position_or_len p xs
position_or_length p xs =
    let within : position_or_len p xs ≤ length xs = prefix_len-le-length (λ x. not (p x)) xs in
    elim (cases_lt (position_or_len p xs) (length xs)) [
      | inl lt ↦ rw (lt-ltb (position_or_len p xs) (length xs) lt) refl
      | inr le ↦ rw (le-ltb (position_or_len p xs) (length xs) le) (omega arith)
    ]

-- the pieces behind a first one, if there are any
abbrev pub pieces_of : ℕ → Option (List ℕ) → List (List ℕ)
pieces_of stop None = []
pieces_of stop (Some bytes) = pieces stop bytes

pub first_cut : (stop : ℕ) (bytes : List ℕ) → pieces stop bytes ≡ before_first (is stop) bytes ∷ pieces_of stop (behind_first stop bytes)
first_cut stop bytes = elim (cases_lt end (length bytes)) [ inl found ↦ cut_here found | inr none ↦ whole none ]
  where
    end : ℕ
    end = position_or_len (is stop) bytes

    cut_here : end < length bytes → pieces stop bytes ≡ before_first (is stop) bytes ∷ pieces_of stop (behind_first stop bytes)
    cut_here found = rw (lt-ltb end (length bytes) found) (slice_split_first (is stop) bytes 0 found)

    whole : length bytes ≤ end → pieces stop bytes ≡ before_first (is stop) bytes ∷ pieces_of stop (behind_first stop bytes)
    whole none =
        let within : end ≤ length bytes = prefix_len-le-length (λ c. not (is stop c)) bytes in
        let all : end ≡ length bytes = omega arith in
        let free : All (λ c. is stop c ≡ false) bytes = All-from_get_or (λ c. is stop c ≡ false) bytes 0 (λ i i_within. not-true (is stop (get_or bytes i 0)) (prefix_len_passes (λ c. not (is stop c)) bytes i 0 (omega arith))) in
        let front : before_first (is stop) bytes ≡ bytes = ap (λ n. take n bytes) all ∙ take-length bytes in
        rw (le-ltb end (length bytes) none) (slice_split_none (is stop) bytes free ∙ ap (λ l. l ∷ []) (sym front))

behind_seen : (stop : ℕ) (behind : Option (Bor (List ℕ))) → pieces_of stop (option_copied behind) ≡ pieces_behind stop behind
behind_seen stop None = refl
behind_seen stop (Some bytes) = refl

-- a piece that is cut off is the next one
pub next_piece : (stop : ℕ) (bytes piece : List ℕ) (behind : Option (Bor (List ℕ))) → piece ≡ before_first (is stop) bytes → option_copied behind ≡ behind_first stop bytes → pieces stop bytes ≡ piece ∷ pieces_behind stop behind
next_piece stop bytes piece behind front back =
    first_cut stop bytes ∙ (λ j. sym front j ∷ pieces_of stop (sym back j)) ∙ ap (λ l. piece ∷ l) (behind_seen stop behind)

-- what leads the next piece
pub led_by_other : (c : ℕ) (first : ℕ) (text : List ℕ) (others : List (List ℕ)) → first ≢ c → led c ((first ∷ text) ∷ others) ≡ None
led_by_other c first text others other = grind (arith, nat_tests)

pub led_by_this : (c : ℕ) (first : ℕ) (text : List ℕ) (others : List (List ℕ)) → first ≡ c → led c ((first ∷ text) ∷ others) ≡ Some (text, others)
led_by_this c first text others same = grind (arith, nat_tests)
