-- The lines of a payload, one after the other.
use Rattle.std.proofs.Common.{◌≡◌, ℕ, ◌<◌, List, [], ◌∷◌, ◌++◌, length, Option, Some, None, refl, sym, ap, subst, ◌∙◌, append_assoc, append-nil, arith}
use Rattle.std.specs.List.{before_first}
use Rattle.std.proofs.lemmas.List.{length-append}
use Rattle.std.proofs.lemmas.List.Splits.{slice_split_at}
use Rattle.metrics_core.specs.Characters.{newline, line}
use Rattle.dsd_lines.specs.Payloads.{without_empty_last, payload_lines}
use Rattle.dsd_lines.specs.Reading.{is, pieces, behind_first}
use Rattle.dsd_lines.proofs.Cuts.{pieces_of, first_cut}
use Rattle.dsd_lines.proofs.Joined.{Free, with_stop, cut_whole, pieces_some, is_itself}

more_pieces : (piece : List ℕ) (pieces : List (List ℕ)) → 0 < length pieces → without_empty_last (piece ∷ pieces) ≡ piece ∷ without_empty_last pieces
more_pieces piece [] some = absurd (omega (arith, some))
more_pieces [] (other ∷ pieces) some = refl
more_pieces (c ∷ piece) (other ∷ pieces) some = refl

one_piece : (bytes : List ℕ) → 0 < length bytes → without_empty_last (bytes ∷ []) ≡ bytes ∷ []
one_piece [] some = absurd (omega (arith, some))
one_piece (c ∷ bytes) some = refl

-- what stands behind the first line: nothing where no newline ends it
abbrev pub behind_line : Option (List ℕ) → List ℕ
behind_line None = []
behind_line (Some rest) = rest

pub first_line : (bytes front rest : List ℕ) (behind : Option (List ℕ)) → 0 < length bytes → front ≡ before_first (is newline) bytes → behind ≡ behind_first newline bytes → rest ≡ behind_line behind
    → (payload_lines bytes ≡ front ∷ payload_lines rest) × (length rest < length bytes)
first_line bytes front rest behind some is_front is_behind is_rest = by behind split whole is_rest
  where
    split : pieces newline bytes ≡ front ∷ pieces_of newline behind
    split = first_cut newline bytes ∙ (λ j. sym is_front j ∷ pieces_of newline (sym is_behind j))

    whole : bytes ≡ front ++ with_stop newline behind
    whole = cut_whole newline bytes ∙ (λ j. sym is_front j ++ with_stop newline (sym is_behind j))

    by : (behind : Option (List ℕ)) → pieces newline bytes ≡ front ∷ pieces_of newline behind → bytes ≡ front ++ with_stop newline behind → rest ≡ behind_line behind
        → (payload_lines bytes ≡ front ∷ payload_lines rest) × (length rest < length bytes)
    by None s w r =
        let all : bytes ≡ front = w ∙ append-nil front in
        (ap without_empty_last s ∙ one_piece front (subst (λ (l : List ℕ). 0 < length l) all some) ∙ ap (λ l. front ∷ payload_lines l) (sym r), omega (arith, some, ap length r))
    by (Some others) s w r = (
      ap without_empty_last s ∙ more_pieces front (pieces newline others) (pieces_some newline others) ∙ ap (λ l. front ∷ payload_lines l) (sym r),
      omega (arith, ap length w, length-append front (newline ∷ others), ap length r),
    )

pub line_in_front : (text rest : List ℕ) → Free newline text → payload_lines (line text ++ rest) ≡ text ∷ payload_lines rest
line_in_front text rest free =
    ap payload_lines (append_assoc text (newline ∷ []) rest)
    ∙ ap without_empty_last (slice_split_at (is newline) text newline rest free (is_itself newline)) ∙ more_pieces text (pieces newline rest) (pieces_some newline rest)
