-- Texts that are kept one behind the other: one more, and the one at a place.
use Rattle.std.proofs.Common.{◌≡◌, ℕ, zero, suc, ◌-◌, ◌<◌, ◌≤◌, List, [], ◌∷◌, ◌++◌, length, take, drop, get_or, Some, None, refl, sym, ap, subst, ◌∙◌, arith, length-append, length-drop}
use Rattle.std.specs.Prelude.{slice_get, slice_index, slice_range, nat_lt}
use Rattle.std.proofs.Common.{Bool, true, false}
use Rattle.std.specs.Str.{IsCharBoundary, IsUtf8}
use Rattle.std.specs.String.Boundary.{IsSplitPoint}
use Rattle.std.proofs.lemmas.List.{length-take-le, drop-append-le, take-append-le, take-append-drop, get_or_append_left}
use Rattle.std.proofs.lemmas.Bool.Decides.{nat_tests}
use Rattle.std.proofs.lemmas.Option.{none-some, same_Some, slice_get-get_or, slice_get_past}
use Rattle.std.proofs.lemmas.Str.{IsCharBoundary-at_seam, IsCharBoundary-end, IsCharBoundary-start}
use Rattle.prom_exporter.specs.Pieces.{pieces, AreCuts}

-- ---- one more behind the others

pub drop-whole : (bytes more : List ℕ) → drop (length bytes) (bytes ++ more) ≡ more
drop-whole [] more = refl
drop-whole (b ∷ bytes) more = drop-whole bytes more

take-all : (xs : List ℕ) → take (length xs) xs ≡ xs
take-all [] = refl
take-all (x ∷ xs) = ap (λ l. x ∷ l) (take-all xs)

take-whole : (more : List ℕ) (n : ℕ) → n ≡ length more → take n more ≡ more
take-whole more n is = rw is (take-all more)

part-more : (bytes more : List ℕ) (begin end : ℕ) → begin ≤ end → end ≤ length bytes → slice_range (bytes ++ more) begin end ≡ slice_range bytes begin end
part-more bytes more begin end up within =
    let begins : begin ≤ length bytes = omega (arith, up, within) in
    let left = length-drop begin bytes in
    let ends : end - begin ≤ length (drop begin bytes) = omega (arith, left, up, within) in
    ap (take (end - begin)) (drop-append-le begin bytes more begins) ∙ take-append-le (end - begin) (drop begin bytes) more ends

part-last : (bytes more : List ℕ) → slice_range (bytes ++ more) (length bytes) (length (bytes ++ more)) ≡ more
part-last bytes more =
    let long = length-append bytes more in
    let left : length (bytes ++ more) - length bytes ≡ length more = omega (arith, long) in
    ap (take (length (bytes ++ more) - length bytes)) (drop-whole bytes more) ∙ take-whole more _ left

pub within : {i n : ℕ} → nat_lt i n ≡ true → i < n
within {i} {n} is = grind (arith, nat_tests)

pub beyond : {i n : ℕ} → nat_lt i n ≡ false → n ≤ i
beyond {i} {n} is = grind (arith, nat_tests)

-- a character begins at the place in the longer text too
lead-more : (bytes more : List ℕ) (i : ℕ) (b : Bool) → nat_lt i (length bytes) ≡ b → IsCharBoundary bytes i → IsCharBoundary (bytes ++ more) (length bytes)
    → i < length (bytes ++ more) → 128 ≤ slice_index (bytes ++ more) i → 192 ≤ slice_index (bytes ++ more) i
lead-more bytes more i true is here seam inside lead =
    let same = get_or_append_left bytes more 0 i (within is) in
    subst (λ n. 192 ≤ n) (sym same) (here.1 (within is) (subst (λ n. 128 ≤ n) same lead))
lead-more bytes more i false is here seam inside lead =
    let past = beyond is in
    let upto = here.0 in
    let last : length bytes ≡ i = omega (arith, past, upto) in
    subst (λ k. k < length (bytes ++ more) → 128 ≤ slice_index (bytes ++ more) k → 192 ≤ slice_index (bytes ++ more) k) last seam.1 inside lead

boundary-more : (bytes more : List ℕ) (i : ℕ) → IsCharBoundary bytes i → IsCharBoundary (bytes ++ more) (length bytes) → IsCharBoundary (bytes ++ more) i
boundary-more bytes more i here seam =
    let long = length-append bytes more in
    let upto = here.0 in
    let fits : i ≤ length (bytes ++ more) = omega (arith, long, upto) in
    (fits, lead-more bytes more i (nat_lt i (length bytes)) refl here seam)

-- the texts so far stay, and the new one stands behind them
pub pieces-more : (bytes more : List ℕ) (begin : ℕ) (ends : List ℕ) → AreCuts bytes begin ends → pieces (bytes ++ more) begin (ends ++ length (bytes ++ more) ∷ []) ≡ pieces bytes begin ends ++ more ∷ []
pieces-more bytes more begin [] cuts = ap (λ b. slice_range (bytes ++ more) b (length (bytes ++ more)) ∷ []) cuts ∙ ap (λ t. t ∷ []) (part-last bytes more)
pieces-more bytes more begin (end ∷ ends) cuts = (λ j. part-more bytes more begin end cuts.0 cuts.1.0 j ∷ pieces-more bytes more end ends cuts.2 j)

pub cuts-more : (bytes more : List ℕ) (begin : ℕ) (ends : List ℕ) → IsCharBoundary (bytes ++ more) (length bytes) → AreCuts bytes begin ends → AreCuts (bytes ++ more) begin (ends ++ length (bytes ++ more) ∷ [])
cuts-more bytes more begin [] seam cuts = ((let long = length-append bytes more in omega (arith, cuts, long)), IsCharBoundary-end (bytes ++ more), refl)
cuts-more bytes more begin (end ∷ ends) seam cuts = (cuts.0, boundary-more bytes more end cuts.1 seam, cuts-more bytes more end ends seam cuts.2)

-- ---- the one at a place

-- what stands at a place, if anything does, begins where the one before it ends
pub record IsPieceAt (bytes : List ℕ) (texts : List (List ℕ)) (place begin end : ℕ) : Type 0 where
  pub text : slice_get texts place ≡ Some (slice_range bytes begin end)
  pub up : begin ≤ end
  pub front : IsCharBoundary bytes begin
  pub back : IsCharBoundary bytes end

pub piece-at : (bytes : List ℕ) (begin : ℕ) (ends : List ℕ) (place end : ℕ) → IsCharBoundary bytes begin → AreCuts bytes begin ends → slice_get ends place ≡ Some end → IsPieceAt bytes (pieces bytes begin ends) place (get_or (begin ∷ ends) place 0) end
piece-at bytes begin [] place end first cuts at = absurd (none-some end at)
piece-at bytes begin (e ∷ ends) zero end first cuts at =
    let same : e ≡ end = same_Some e end at in
    record { text = ap (λ k. Some (slice_range bytes begin k)) same; up = subst (λ k. begin ≤ k) same cuts.0; front = first; back = subst (IsCharBoundary bytes) same cuts.1 }
piece-at bytes begin (e ∷ ends) (suc place) end first cuts at =
    let there = piece-at bytes e ends place end cuts.1 cuts.2 at in
    record { text = there.text; up = there.up; front = there.front; back = there.back }

pub no_piece-at : (bytes : List ℕ) (begin : ℕ) (ends : List ℕ) (place : ℕ) → slice_get ends place ≡ None → slice_get (pieces bytes begin ends) place ≡ None
no_piece-at bytes begin [] place none = refl
no_piece-at bytes begin (e ∷ ends) zero none = absurd (none-some e (sym none))
no_piece-at bytes begin (e ∷ ends) (suc place) none = no_piece-at bytes e ends place none

pub length-pieces : (bytes : List ℕ) (begin : ℕ) (ends : List ℕ) → length (pieces bytes begin ends) ≡ length ends
length-pieces bytes begin [] = refl
length-pieces bytes begin (e ∷ ends) = ap suc (length-pieces bytes e ends)

-- what stands at a place of a list, if it is within it
pub stands-at : {Y : Type 0} (ys : List Y) (i : ℕ) (y : Y) → true ≡ nat_lt i (length ys) → y ≡ get_or ys i y → slice_get ys i ≡ Some y
stands-at ys i y inside is = slice_get-get_or ys i y (within (sym inside)) ∙ ap Some (sym is)

pub past-end : {Y : Type 0} (ys : List Y) (i : ℕ) → false ≡ nat_lt i (length ys) → slice_get ys i ≡ None
past-end ys i outside = slice_get_past ys i (beyond (sym outside))

pub index-behind : (x : ℕ) (xs : List ℕ) (n : ℕ) → 0 < n → slice_index (x ∷ xs) n ≡ slice_index xs (n - 1)
index-behind x xs zero some = let none : ⊥ = omega (arith, some) in absurd none
index-behind x xs (suc n) some = let e : n ≡ suc n - 1 = omega arith in ap (slice_index xs) e

-- a place where a character begins is one where the text may be split
pub split-there : (bytes : List ℕ) (n k : ℕ) → n ≡ k → IsCharBoundary bytes k → IsSplitPoint bytes n
split-there bytes n k is here = subst (IsSplitPoint bytes) (sym is) (here.0, λ some. here.1)

-- the place where a text ends and another one begins
pub seam : (bytes head : List ℕ) → IsUtf8 head → IsCharBoundary (bytes ++ head) (length bytes)
seam bytes head utf8 = IsCharBoundary-at_seam (bytes ++ head) bytes head refl utf8

-- what the program finds at a place
pub found-at : (bytes text ends places : List ℕ) (place begin end : ℕ) → text ≡ bytes → IsUtf8 text → places ≡ ends → true ≡ nat_lt place (length places) → end ≡ get_or places place end
    → begin ≡ slice_index (0 ∷ places) place → AreCuts bytes 0 ends → IsPieceAt text (pieces bytes 0 ends) place begin end
found-at bytes text ends places place begin end same utf8 listed inside is from cuts =
    let there = piece-at bytes 0 ends place end (IsCharBoundary-start bytes (subst IsUtf8 same utf8)) cuts (subst (λ l. slice_get l place ≡ Some end) listed (stands-at places place end inside is)) in
    subst (λ t. IsPieceAt t (pieces bytes 0 ends) place begin end) (sym same)
    (subst (λ b. IsPieceAt bytes (pieces bytes 0 ends) place b end) (sym (from ∙ ap (λ l. slice_index (0 ∷ l) place) listed)) there)

-- ---- some from the front

cut-up : (bytes : List ℕ) (begin : ℕ) (ends : List ℕ) (n : ℕ) → n ≤ length ends → AreCuts bytes begin ends → begin ≤ get_or (begin ∷ ends) n 0
cut-up bytes begin ends zero few cuts = omega arith
cut-up bytes begin [] (suc n) few cuts = let none : ⊥ = omega (arith, few) in absurd none
cut-up bytes begin (e ∷ ends) (suc n) few cuts =
    let later = cut-up bytes e ends n (let short : n ≤ length ends = omega (arith, few) in short) cuts.2 in
    let here = cuts.0 in
    omega (arith, later, here)

-- a front of a text that a character ends has the same parts before its end
part-front : (bytes : List ℕ) (cut begin end : ℕ) → cut ≤ length bytes → begin ≤ end → end ≤ cut → slice_range (take cut bytes) begin end ≡ slice_range bytes begin end
part-front bytes cut begin end inside up before =
    let long = length-take-le cut bytes inside in
    let within : end ≤ length (take cut bytes) = omega (arith, long, before) in
    sym (part-more (take cut bytes) (drop cut bytes) begin end up within) ∙ ap (λ l. slice_range l begin end) (take-append-drop cut bytes)

boundary-front : (bytes : List ℕ) (cut i : ℕ) → cut ≤ length bytes → i ≤ cut → IsCharBoundary bytes i → IsCharBoundary (take cut bytes) i
boundary-front bytes cut i inside before here =
    let long = length-take-le cut bytes inside in
    let fits : i ≤ length (take cut bytes) = omega (arith, long, before) in (
      fits,
      λ within lead.
          (let same : slice_index bytes i ≡ slice_index (take cut bytes) i = ap (λ l. slice_index l i) (sym (take-append-drop cut bytes)) ∙ get_or_append_left (take cut bytes) (drop cut bytes) 0 i within in
          subst (λ n. 192 ≤ n) same (here.1 (let some : i < length bytes = omega (arith, within, long, inside) in some) (subst (λ n. 128 ≤ n) (sym same) lead))),
    )

cut-inside : (bytes : List ℕ) (begin : ℕ) (ends : List ℕ) (n : ℕ) → n ≤ length ends → begin ≤ length bytes → AreCuts bytes begin ends → get_or (begin ∷ ends) n 0 ≤ length bytes
cut-inside bytes begin ends zero few start cuts = start
cut-inside bytes begin [] (suc n) few start cuts = let none : ⊥ = omega (arith, few) in absurd none
cut-inside bytes begin (e ∷ ends) (suc n) few start cuts = cut-inside bytes e ends n (let short : n ≤ length ends = omega (arith, few) in short) cuts.1.0 cuts.2

pub pieces-take : (bytes : List ℕ) (begin : ℕ) (ends : List ℕ) (n : ℕ) → n ≤ length ends → begin ≤ length bytes → AreCuts bytes begin ends → pieces (take (get_or (begin ∷ ends) n 0) bytes) begin (take n ends) ≡ take n (pieces bytes begin ends)
pieces-take bytes begin ends zero few start cuts = refl
pieces-take bytes begin [] (suc n) few start cuts = refl
pieces-take bytes begin (e ∷ ends) (suc n) few start cuts =
    let short : n ≤ length ends = omega (arith, few) in
    let cut = get_or (e ∷ ends) n 0 in
    (λ j. part-front bytes cut begin e (cut-inside bytes e ends n short cuts.1.0 cuts.2) cuts.0 (cut-up bytes e ends n short cuts.2) j ∷ pieces-take bytes e ends n short cuts.1.0 cuts.2 j)

pub cuts-take : (bytes : List ℕ) (begin : ℕ) (ends : List ℕ) (n : ℕ) → n ≤ length ends → begin ≤ length bytes → AreCuts bytes begin ends → AreCuts (take (get_or (begin ∷ ends) n 0) bytes) begin (take n ends)
cuts-take bytes begin ends zero few start cuts = sym (length-take-le begin bytes start)
cuts-take bytes begin [] (suc n) few start cuts = let none : ⊥ = omega (arith, few) in absurd none
cuts-take bytes begin (e ∷ ends) (suc n) few start cuts =
    let short : n ≤ length ends = omega (arith, few) in
    let cut = get_or (e ∷ ends) n 0 in
    (cuts.0, boundary-front bytes cut e (cut-inside bytes e ends n short cuts.1.0 cuts.2) (cut-up bytes e ends n short cuts.2) cuts.1, cuts-take bytes e ends n short cuts.1.0 cuts.2)

-- the texts that are left, and the end of the last of them
pub record AreFront (bytes : List ℕ) (ends : List ℕ) (n cut : ℕ) : Type 0 where
  pub boundary : IsCharBoundary bytes cut
  pub cuts : AreCuts (take cut bytes) 0 (take n ends)
  pub texts : pieces (take cut bytes) 0 (take n ends) ≡ take n (pieces bytes 0 ends)

boundary-at : (bytes : List ℕ) (begin : ℕ) (ends : List ℕ) (n : ℕ) → n ≤ length ends → IsCharBoundary bytes begin → AreCuts bytes begin ends → IsCharBoundary bytes (get_or (begin ∷ ends) n 0)
boundary-at bytes begin ends zero few start cuts = start
boundary-at bytes begin [] (suc n) few start cuts = let none : ⊥ = omega (arith, few) in absurd none
boundary-at bytes begin (e ∷ ends) (suc n) few start cuts = boundary-at bytes e ends n (let short : n ≤ length ends = omega (arith, few) in short) cuts.1 cuts.2

pub are_front : (bytes ends : List ℕ) (n cut : ℕ) → IsUtf8 bytes → n ≤ length ends → cut ≡ slice_index (0 ∷ ends) n → AreCuts bytes 0 ends → AreFront bytes ends n cut
are_front bytes ends n cut utf8 few is cuts =
    let start = IsCharBoundary-start bytes utf8 in
    subst (AreFront bytes ends n) (sym is) (record { boundary = boundary-at bytes 0 ends n few start cuts; cuts = cuts-take bytes 0 ends n few start.0 cuts; texts = pieces-take bytes 0 ends n few start.0 cuts })

pub take-everything : {Y : Type 0} (n : ℕ) (ys : List Y) → length ys ≤ n → take n ys ≡ ys
take-everything zero [] few = refl
take-everything (suc n) [] few = refl
take-everything zero (y ∷ ys) few = let none : ⊥ = omega (arith, few) in absurd none
take-everything (suc n) (y ∷ ys) few = ap (λ l. y ∷ l) (take-everything n ys (let short : length ys ≤ n = omega (arith, few) in short))
