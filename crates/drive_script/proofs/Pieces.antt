-- The lines of some bytes, one after the other.
use Rattle.std.proofs.Common.{◌≡◌, ℕ, ◌+◌, ◌<◌, ◌==◌, Bool, false, true, not, List, [], ◌∷◌, ◌++◌, Option, Some, None, length, get_or, take, drop, refl, sym, ap, subst, ◌∙◌, arith}
use Rattle.std.specs.Prelude.{All, MatchOption, slice_get}
use Rattle.std.specs.List.{onto_first, slice_split, position_or_len, before_first, after_first}
use Rattle.std.proofs.lemmas.Bool.{eqb-true, not-true, false_from_ne_true}
use Rattle.std.proofs.lemmas.List.{append-nil, get_or-drop, length-drop, append_assoc, take-append-drop, take_more, length-append, length_push, take_at, take-append-le}
use Rattle.std.proofs.lemmas.Option.{get_or_from_slice_get, slice_get-get_or, slice_get_within}
use Rattle.std.proofs.lemmas.List.Elements.{All-from_get_or, All-nil}
use Rattle.std.proofs.lemmas.List.Splits.{slice_split-cons_no, slice_split-cons_yes, slice_split_first, slice_split_none, length-slice_split}
use Rattle.std.proofs.lemmas.List.Sums.{prefix_len_passes, position_or_len_is}
use Rattle.memchr.specs.Find.{IsFirstByte, is_byte}
use Rattle.metrics_core.specs.Characters.{newline}
use Rattle.drive_script.specs.Script.{without_empty_last, lines_of}
use Rattle.drive_script.specs.Valid.{AreValidLines, IsFirstBadLine}
use Rattle.drive_script.proofs.Growth.{fronts_valid}

abbrev pub ends_line : ℕ → Bool
ends_line c = c == newline

more_pieces : (piece : List ℕ) (pieces : List (List ℕ)) → 0 < length pieces → without_empty_last (piece ∷ pieces) ≡ piece ∷ without_empty_last pieces
more_pieces piece [] some = absurd (omega (arith, some))
more_pieces [] (other ∷ pieces) some = refl
more_pieces (c ∷ piece) (other ∷ pieces) some = refl

-- what a search for a newline says of the first line
pub first_end : (bytes : List ℕ) (found : Option ℕ) → IsFirstByte (is_byte newline) bytes found → MatchOption found (position_or_len ends_line bytes ≡ length bytes) (λ end. (position_or_len ends_line bytes ≡ end) × (end < length bytes))
first_end bytes None h =
    position_or_len_is ends_line bytes (length bytes) 0 (omega arith) (λ k below. false_from_ne_true (ends_line (get_or bytes k 0)) (h k (omega arith) below)) (λ past. absurd (omega (arith, past)))
first_end bytes (Some end) (none, is) =
    (position_or_len_is ends_line bytes end 0 (omega (arith, none.high)) (λ k below. false_from_ne_true (ends_line (get_or bytes k 0)) (none.before k (omega arith) below)) (λ _. is), none.high)

-- a newline ends the first line
pub line_ended : (bytes : List ℕ) → position_or_len ends_line bytes < length bytes → lines_of bytes ≡ before_first ends_line bytes ∷ lines_of (after_first ends_line bytes)
line_ended bytes found =
    ap without_empty_last (slice_split_first ends_line bytes 0 found)
    ∙ more_pieces (before_first ends_line bytes) (slice_split ends_line (after_first ends_line bytes)) (omega (arith, length-slice_split ends_line (after_first ends_line bytes)))

one_piece : (bytes : List ℕ) → 0 < length bytes → without_empty_last (bytes ∷ []) ≡ bytes ∷ []
one_piece [] some = absurd (omega (arith, some))
one_piece (c ∷ bytes) some = refl

-- without a newline the bytes are one line
pub line_unended : (bytes : List ℕ) → 0 < length bytes → position_or_len ends_line bytes ≡ length bytes → lines_of bytes ≡ bytes ∷ []
line_unended bytes some none =
    let no_end : All (λ c. ends_line c ≡ false) bytes = All-from_get_or (λ c. ends_line c ≡ false) bytes 0 (λ i within. not-true (ends_line (get_or bytes i 0)) (prefix_len_passes (λ c. not (ends_line c)) bytes i 0 (omega arith))) in
    ap without_empty_last (slice_split_none ends_line bytes no_end) ∙ one_piece bytes some

-- where the lines before are a valid script, and with this one they are none, it is the first bad one
pub first_bad : (bytes : List ℕ) (done : List (List ℕ)) (line : List ℕ) (more : List (List ℕ)) (l : ℕ) → lines_of bytes ≡ done ++ line ∷ more → l ≡ length done + 1 → AreValidLines done → ¬ AreValidLines (done ++ line ∷ []) → IsFirstBadLine bytes l
first_bad bytes done line more l split count valid bad =
    let so_far : take l (lines_of bytes) ≡ done ++ line ∷ [] = ap (take l) (split ∙ sym (append_assoc done (line ∷ []) more)) ∙ take_at (done ++ line ∷ []) more l (omega (arith, length_push done line)) in
    record {
      is_line = (omega arith, omega (arith, ap length split, length-append done (line ∷ more)));
      bad = λ v. bad (subst AreValidLines so_far v);
      first = λ k fewer.
          let front : take k (lines_of bytes) ≡ take k done = ap (take k) split ∙ take-append-le k done (line ∷ more) (omega arith) in
          subst AreValidLines (sym front) (fronts_valid k done (omega arith) valid);
    }

-- ---- bytes that are cut behind a newline

abbrev parts : List ℕ → List (List ℕ)
parts bytes = slice_split ends_line bytes

-- up to a newline the parts are the same, whatever stands behind it
abbrev Begins : List ℕ → Type 0
Begins front = (first : List ℕ) × (more : List (List ℕ)) × ((behind : List ℕ) → parts (front ++ newline ∷ behind) ≡ (first ∷ more) ++ parts behind)

one_more : (c : ℕ) (front : List ℕ) (ends : Bool) → ends_line c ≡ ends → Begins front → Begins (c ∷ front)
one_more c front true e (first, more, all) = ([], first ∷ more, λ behind. slice_split-cons_yes ends_line c (front ++ newline ∷ behind) e ∙ ap (λ ps. [] ∷ ps) (all behind))
one_more c front false e (first, more, all) = (c ∷ first, more, λ behind. slice_split-cons_no ends_line c (front ++ newline ∷ behind) e ∙ ap (onto_first c) (all behind))

begins : (front : List ℕ) → Begins front
begins [] = ([], [], λ behind. slice_split-cons_yes ends_line newline behind refl)
begins (c ∷ front) = one_more c front (ends_line c) refl (begins front)

kept_before : (front behind : List (List ℕ)) → 0 < length behind → without_empty_last (front ++ behind) ≡ front ++ without_empty_last behind
kept_before [] behind some = refl
kept_before (piece ∷ front) behind some = more_pieces piece (front ++ behind) (omega (arith, length-append front behind, some)) ∙ ap (λ ps. piece ∷ ps) (kept_before front behind some)

-- the lines up to a newline, and those behind it
pub lines_cut : (front behind : List ℕ) → lines_of (front ++ newline ∷ behind) ≡ lines_of (front ++ newline ∷ []) ++ lines_of behind
lines_cut front behind =
    let (first, more, all) = begins front in
    let none : parts [] ≡ [] ∷ [] = slice_split_none ends_line [] (All-nil (λ c. ends_line c ≡ false)) in
    let before : lines_of (front ++ newline ∷ []) ≡ first ∷ more = ap without_empty_last (all []) ∙ ap (λ ps. without_empty_last ((first ∷ more) ++ ps)) none ∙ kept_before (first ∷ more) ([] ∷ []) (omega arith) ∙ append-nil (first ∷ more) in
    ap without_empty_last (all behind) ∙ kept_before (first ∷ more) (parts behind) (omega (arith, length-slice_split ends_line behind)) ∙ ap (λ ls. ls ++ lines_of behind) (sym before)

pub lines_cut_at : (bytes : List ℕ) (end : ℕ) → slice_get bytes end ≡ Some newline → lines_of bytes ≡ lines_of (take (end + 1) bytes) ++ lines_of (drop (end + 1) bytes)
lines_cut_at bytes end at =
    let front : take (end + 1) bytes ≡ take end bytes ++ newline ∷ [] = take_more bytes end 0 (slice_get_within bytes end newline at) ∙ ap (λ c. take end bytes ++ c ∷ []) (get_or_from_slice_get bytes end newline 0 at) in
    let whole : bytes ≡ take end bytes ++ newline ∷ drop (end + 1) bytes = sym (take-append-drop (end + 1) bytes) ∙ ap (λ f. f ++ drop (end + 1) bytes) front ∙ append_assoc (take end bytes) (newline ∷ []) (drop (end + 1) bytes) in
    ap lines_of whole ∙ lines_cut (take end bytes) (drop (end + 1) bytes) ∙ ap (λ f. lines_of f ++ lines_of (drop (end + 1) bytes)) (sym front)

-- a newline that was found behind the first bytes
pub newline_at : (bytes behind : List ℕ) (n end : ℕ) → behind ≡ drop n bytes → IsFirstByte (is_byte newline) behind (Some end) → slice_get bytes (n + end) ≡ Some newline
newline_at bytes behind n end e (none, is) =
    let within : n + end < length bytes = omega (arith, none.high, ap length e, length-drop n bytes) in
    slice_get-get_or bytes (n + end) 0 within ∙ ap Some (sym (get_or-drop n bytes end 0) ∙ ap (λ b. get_or b end 0) (sym e) ∙ eqb-true (get_or behind end 0) newline is)
