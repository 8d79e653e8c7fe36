-- Texts that are joined by a character and cut at it again.
use Rattle.std.proofs.Common.{◌≡◌, ℕ, ◌<◌, Bool, true, false, List, [], ◌∷◌, ◌++◌, length, Option, Some, None, refl, sym, ap, subst, ◌∙◌, append-nil, arith}
use Rattle.std.specs.Prelude.{All}
use Rattle.std.specs.List.{onto_first, join_with_byte, before_first}
use Rattle.std.proofs.lemmas.Bool.Decides.{Decides-eqb}
use Rattle.std.proofs.lemmas.List.Elements.{All-nil, All-cons, All-head, All-tail, All-append}
use Rattle.std.proofs.lemmas.List.Splits.{slice_split-cons_no, slice_split-cons_yes, slice_split_at, slice_split_none, length-slice_split, join_with_byte-slice_split}
use Rattle.dsd_lines.specs.Reading.{is, pieces, behind_first}
use Rattle.dsd_lines.proofs.Cuts.{pieces_of, first_cut}

-- a text without this character
abbrev pub Free : ℕ → List ℕ → Type 0
Free stop text = All (λ c. is stop c ≡ false) text

pub is_itself : (stop : ℕ) → is stop stop ≡ true
is_itself stop = (Decides-eqb stop stop).1 refl

-- ---- joined and cut

pub pieces_join : (stop : ℕ) (parts : List (List ℕ)) → 0 < length parts → All (Free stop) parts → pieces stop (join_with_byte stop parts) ≡ parts
pieces_join stop [] some free = absurd (omega (arith, some))
pieces_join stop (x ∷ []) some free = slice_split_none (is stop) x (All-head (Free stop) x [] free)
pieces_join stop (x ∷ y ∷ xs) some free =
    slice_split_at (is stop) x stop (join_with_byte stop (y ∷ xs)) (All-head (Free stop) x (y ∷ xs) free) (is_itself stop)
    ∙ ap (λ l. x ∷ l) (pieces_join stop (y ∷ xs) (omega arith) (All-tail (Free stop) x (y ∷ xs) free))

-- what holds of each character of a text holds of those of its pieces
module _ (P : ℕ → Type 0) where
  keep_first : (c : ℕ) (parts : List (List ℕ)) → P c → All (All P) parts → All (All P) (onto_first c parts)
  keep_first c [] here others = All-cons (All P) (c ∷ []) [] (All-cons P c [] here (All-nil P)) (All-nil (All P))
  keep_first c (part ∷ parts) here others =
      All-cons (All P) (c ∷ part) parts (All-cons P c part here (All-head (All P) part parts others)) (All-tail (All P) part parts others)

  pub pieces_keep : (stop : ℕ) (bytes : List ℕ) → All P bytes → All (All P) (pieces stop bytes)
  pieces_keep stop [] all = All-cons (All P) [] [] (All-nil P) (All-nil (All P))
  pieces_keep stop (c ∷ bytes) all = by (is stop c) refl (pieces_keep stop bytes (All-tail P c bytes all))
    where
      by : (b : Bool) → is stop c ≡ b → All (All P) (pieces stop bytes) → All (All P) (pieces stop (c ∷ bytes))
      by true e others = subst (All (All P)) (sym (slice_split-cons_yes (is stop) c bytes e)) (All-cons (All P) [] (pieces stop bytes) (All-nil P) others)
      by false e others = subst (All (All P)) (sym (slice_split-cons_no (is stop) c bytes e)) (keep_first c (pieces stop bytes) (All-head P c bytes all) others)

  pub join_keeps : (stop : ℕ) (parts : List (List ℕ)) → P stop → All (All P) parts → All P (join_with_byte stop parts)
  join_keeps stop [] here all = All-nil P
  join_keeps stop (x ∷ []) here all = All-head (All P) x [] all
  join_keeps stop (x ∷ y ∷ xs) here all =
      All-append P x (stop ∷ join_with_byte stop (y ∷ xs)) (All-head (All P) x (y ∷ xs) all)
      (All-cons P stop (join_with_byte stop (y ∷ xs)) here (join_keeps stop (y ∷ xs) here (All-tail (All P) x (y ∷ xs) all)))

free_first : (stop c : ℕ) (parts : List (List ℕ)) → is stop c ≡ false → All (Free stop) parts → All (Free stop) (onto_first c parts)
free_first stop c parts here others = keep_first (λ d. is stop d ≡ false) c parts here others

-- no piece has the character at which the bytes were cut
pub pieces_free : (stop : ℕ) (bytes : List ℕ) → All (Free stop) (pieces stop bytes)
pieces_free stop [] = All-cons (Free stop) [] [] (All-nil (λ c. is stop c ≡ false)) (All-nil (Free stop))
pieces_free stop (c ∷ bytes) = by (is stop c) refl (pieces_free stop bytes)
  where
    by : (b : Bool) → is stop c ≡ b → All (Free stop) (pieces stop bytes) → All (Free stop) (pieces stop (c ∷ bytes))
    by true e others = subst (All (Free stop)) (sym (slice_split-cons_yes (is stop) c bytes e)) (All-cons (Free stop) [] (pieces stop bytes) (All-nil (λ c. is stop c ≡ false)) others)
    by false e others = subst (All (Free stop)) (sym (slice_split-cons_no (is stop) c bytes e)) (free_first stop c (pieces stop bytes) e others)

-- ---- cut at the first of a character

-- the character and what stands behind it, if it stands there
abbrev pub with_stop : ℕ → Option (List ℕ) → List ℕ
with_stop stop None = []
with_stop stop (Some rest) = stop ∷ rest

-- the first text, and the others behind the character
pub join_first : (stop : ℕ) (x : List ℕ) (xs : List (List ℕ)) → 0 < length xs → join_with_byte stop (x ∷ xs) ≡ x ++ stop ∷ join_with_byte stop xs
join_first stop x [] some = absurd (omega (arith, some))
join_first stop x (y ∷ xs) some = refl

pub pieces_some : (stop : ℕ) (bytes : List ℕ) → 0 < length (pieces stop bytes)
pieces_some stop bytes = omega (arith, length-slice_split (is stop) bytes)

pub join_pieces : (stop : ℕ) (bytes : List ℕ) → join_with_byte stop (pieces stop bytes) ≡ bytes
join_pieces stop bytes = join_with_byte-slice_split stop bytes

first_same : {A : Type 0} (x y : A) (xs ys : List A) → x ∷ xs ≡ y ∷ ys → x ≡ y
first_same x y xs ys e = cc

others_same : {A : Type 0} (x y : A) (xs ys : List A) → x ∷ xs ≡ y ∷ ys → xs ≡ ys
others_same x y xs ys e = cc

module _ (stop : ℕ) (bytes : List ℕ) where
  pub before_free : Free stop (before_first (is stop) bytes)
  before_free =
      All-head (Free stop) (before_first (is stop) bytes) (pieces_of stop (behind_first stop bytes)) (subst (All (Free stop)) (first_cut stop bytes) (pieces_free stop bytes))

  pub cut_whole : bytes ≡ before_first (is stop) bytes ++ with_stop stop (behind_first stop bytes)
  cut_whole = sym (join_pieces stop bytes) ∙ ap (join_with_byte stop) (first_cut stop bytes) ∙ by (behind_first stop bytes)
    where
      by : (o : Option (List ℕ)) → join_with_byte stop (before_first (is stop) bytes ∷ pieces_of stop o) ≡ before_first (is stop) bytes ++ with_stop stop o
      by None = sym (append-nil (before_first (is stop) bytes))
      by (Some rest) =
          join_first stop (before_first (is stop) bytes) (pieces stop rest) (pieces_some stop rest)
          ∙ ap (λ l. before_first (is stop) bytes ++ stop ∷ l) (join_pieces stop rest)

-- a text without the character is cut nowhere
pub cut_nowhere : (stop : ℕ) (text : List ℕ) → Free stop text → (before_first (is stop) text ≡ text) × (behind_first stop text ≡ None)
cut_nowhere stop text free = (first_same _ _ _ _ split, by (behind_first stop text) (others_same _ _ _ _ split))
  where
    split : before_first (is stop) text ∷ pieces_of stop (behind_first stop text) ≡ text ∷ []
    split = sym (first_cut stop text) ∙ slice_split_none (is stop) text free

    by : (o : Option (List ℕ)) → pieces_of stop o ≡ [] → o ≡ None
    by None e = refl
    by (Some rest) e = absurd (omega (arith, pieces_some stop rest, ap length e))

-- and with the character behind it there
pub cut_there : (stop : ℕ) (text rest : List ℕ) → Free stop text → (before_first (is stop) (text ++ stop ∷ rest) ≡ text) × (behind_first stop (text ++ stop ∷ rest) ≡ Some rest)
cut_there stop text rest free = (first_same _ _ _ _ split, by (behind_first stop (text ++ stop ∷ rest)) (others_same _ _ _ _ split))
  where
    split : before_first (is stop) (text ++ stop ∷ rest) ∷ pieces_of stop (behind_first stop (text ++ stop ∷ rest)) ≡ text ∷ pieces stop rest
    split = sym (first_cut stop (text ++ stop ∷ rest)) ∙ slice_split_at (is stop) text stop rest free (is_itself stop)

    by : (o : Option (List ℕ)) → pieces_of stop o ≡ pieces stop rest → o ≡ Some rest
    by None e = absurd (omega (arith, pieces_some stop rest, ap length e))
    by (Some other) e = ap Some (sym (join_pieces stop other) ∙ ap (join_with_byte stop) e ∙ join_pieces stop rest)
