-- The lengths before payloads are set one after another.
use Rattle.std.proofs.Common.{◌≡◌, ℕ, zero, suc, ◌+◌, ◌<◌, ◌≤◌, true, List, [], ◌∷◌, ◌++◌, length, map, take, drop, get_or, w32, refl, sym, ap, subst, ◌∙◌, arith, append_assoc, length-append, inl, inr}
use Rattle.std.specs.Prelude.{All}
use Rattle.std.specs.Int.{to_le_bytes}
use Rattle.std.proofs.lemmas.Bool.{cases_lt}
use Rattle.std.proofs.lemmas.List.{append-nil, drop-append-le, drop_all, drop_at, length-drop, map_push, take-append-drop, take_all, take_at}
use Rattle.std.proofs.lemmas.List.Elements.{All-head, All-tail, All-cons, All-nil}
use Rattle.dsd_writer.specs.Cuts.{AreWithin, joined}
use Rattle.dsd_writer.specs.Lines.{framed}
use Rattle.dsd_writer.specs.Packing.{IsPacked, framed_payloads, payloads_at, pieces_at, starts_of}
use Rattle.dsd_writer.proofs.Pieces.{HasPieces, has_pieces, length-pieces_at}
use Rattle.dsd_writer.proofs.Joined.{joined-append}

-- a piece with its length before it
abbrev pub led : List ℕ → List ℕ
led piece = framed true (drop 4 piece)

-- the buffer with the lengths before the first pieces set
abbrev pub set_so_far : ℕ → List (List ℕ) → List ℕ
set_so_far k pieces = joined (map led (take k pieces) ++ drop k pieces)

length-led : (piece : List ℕ) → 4 ≤ length piece → length (led piece) ≡ length piece
length-led piece room = omega (arith, length-drop 4 piece)

-- the first pieces are as long with their lengths set
pub length-first : (k : ℕ) (pieces : List (List ℕ)) → All (λ piece. 4 ≤ length piece) pieces → length (joined (map led (take k pieces))) ≡ length (joined (take k pieces))
length-first zero pieces room = refl
length-first (suc k) [] room = refl
length-first (suc k) (piece ∷ pieces) room =
    let own = length-led piece (All-head (λ (piece : List ℕ). 4 ≤ length piece) piece pieces room) in
    let rest = length-first k pieces (All-tail (λ (piece : List ℕ). 4 ≤ length piece) piece pieces room) in
    omega (arith, own, rest, length-append (led piece) (joined (map led (take k pieces))), length-append piece (joined (take k pieces)))

-- where a piece begins
pub start_at : (start k d : ℕ) (pieces : List (List ℕ)) → k < length pieces → get_or (starts_of start pieces) k d ≡ start + length (joined (take k pieces))
start_at start k d [] low = absurd (omega arith)
start_at start zero d (piece ∷ pieces) low = omega arith
start_at start (suc k) d (piece ∷ pieces) low =
    omega (arith, start_at (start + length piece) k d pieces (omega arith), length-append piece (joined (take k pieces)))

-- a piece, what stands before it and what stands behind it
pub record Around (limit k : ℕ) (pieces : List (List ℕ)) (piece : List ℕ) : Type 0 where
  pub at : drop k pieces ≡ piece ∷ drop (k + 1) pieces
  pub up_to : take (k + 1) pieces ≡ take k pieces ++ piece ∷ []
  pub room : 4 ≤ length piece
  pub short : length (drop 4 piece) ≤ limit

pub around : (limit k : ℕ) (pieces : List (List ℕ)) → All (λ piece. 4 ≤ length piece) pieces → AreWithin limit (map (λ piece. drop 4 piece) pieces) → k < length pieces
    → (piece : List ℕ) × Around limit k pieces piece
around limit k [] room within low = absurd (omega arith)
around limit zero (piece ∷ pieces) room within low = (
  piece,
  record {
    at = refl;
    up_to = refl;
    room = All-head (λ (piece : List ℕ). 4 ≤ length piece) piece pieces room;
    short = All-head (λ (text : List ℕ). length text ≤ limit) (drop 4 piece) (map (λ piece. drop 4 piece) pieces) within;
  },
)
around limit (suc k) (first ∷ pieces) room within low =
    let (piece, there) = around limit k pieces (All-tail (λ (piece : List ℕ). 4 ≤ length piece) first pieces room)
    (All-tail (λ (text : List ℕ). length text ≤ limit) (drop 4 first) (map (λ piece. drop 4 piece) pieces) within) (omega arith) in
    let next : suc k + 1 ≡ suc (k + 1) = omega arith in (
      piece,
      record {
        at = there.at ∙ ap (λ n. piece ∷ drop n (first ∷ pieces)) (sym next);
        up_to = ap (λ n. take n (first ∷ pieces)) next ∙ ap (λ rest. first ∷ rest) there.up_to;
        room = there.room;
        short = there.short;
      },
    )

-- the buffer around a piece
pub set_around : (limit k : ℕ) (pieces : List (List ℕ)) (piece : List ℕ) → Around limit k pieces piece
    → set_so_far k pieces ≡ joined (map led (take k pieces)) ++ (piece ++ joined (drop (k + 1) pieces))
set_around limit k pieces piece there =
    joined-append (map led (take k pieces)) (drop k pieces) ∙ ap (λ rest. joined (map led (take k pieces)) ++ joined rest) there.at

-- the length of one more piece is set
pub set_one : (limit k : ℕ) (pieces : List (List ℕ)) (piece bytes bytes_after : List ℕ) (start n : ℕ) → Around limit k pieces piece → All (λ piece. 4 ≤ length piece) pieces
    → bytes ≡ set_so_far k pieces → start ≡ length (joined (take k pieces)) → n + 4 ≡ length piece
    → bytes_after ≡ take start bytes ++ (to_le_bytes w32 n ++ drop 4 (drop start bytes)) → bytes_after ≡ set_so_far (k + 1) pieces
set_one limit k pieces piece bytes bytes_after start n there room bytes_are at size after =
    let before = joined (map led (take k pieces)) in
    let behind = joined (drop (k + 1) pieces) in
    let same : length before ≡ start = length-first k pieces room ∙ sym at in
    let now = bytes_are ∙ set_around limit k pieces piece there in
    let front : take start bytes ≡ before = ap (take start) now ∙ take_at before (piece ++ behind) start same in
    let back : drop 4 (drop start bytes) ≡ drop 4 piece ++ behind =
    ap (λ b. drop 4 (drop start b)) now ∙ ap (drop 4) (drop_at before (piece ++ behind) start same) ∙ drop-append-le 4 piece behind there.room in
    let own : n ≡ length (drop 4 piece) = omega (arith, length-drop 4 piece) in
    let all : map led (take (k + 1) pieces) ≡ map led (take k pieces) ++ led piece ∷ [] = ap (map led) there.up_to ∙ map_push led (take k pieces) piece in
    after
    ∙ (λ j. front j ++ (to_le_bytes w32 (own j) ++ back j))
    ∙ ap (λ rest. before ++ rest) (sym (append_assoc (to_le_bytes w32 (length (drop 4 piece))) (drop 4 piece) behind))
    ∙ sym (append_assoc before (led piece) behind)
    ∙ ap (λ first. first ++ behind) (ap (λ last. before ++ last) (sym (append-nil (led piece))) ∙ sym (joined-append (map led (take k pieces)) (led piece ∷ [])) ∙ ap joined (sym all))
    ∙ sym (joined-append (map led (take (k + 1) pieces)) (drop (k + 1) pieces))

-- how far a piece reaches
reach : (limit k : ℕ) (pieces : List (List ℕ)) (piece : List ℕ) → Around limit k pieces piece → length (joined (take (k + 1) pieces)) ≡ length (joined (take k pieces)) + length piece
reach limit k pieces piece there =
    ap (λ first. length (joined first)) there.up_to ∙ ap length (joined-append (take k pieces) (piece ∷ []))
    ∙ length-append (joined (take k pieces)) (piece ++ []) ∙ ap (λ last. length (joined (take k pieces)) + length last) (append-nil piece)

-- a piece of a packed buffer: where it begins and ends
pub record IsPiece (limit : ℕ) (bytes starts : List ℕ) (k end : ℕ) (piece : List ℕ) : Type 0 where
  pub there : Around limit k (pieces_at starts bytes) piece
  pub begin : get_or starts k 0 ≡ length (joined (take k (pieces_at starts bytes)))
  pub size : end ≡ get_or starts k 0 + length piece
  pub within : end ≤ length bytes

module _ (limit : ℕ) (bytes starts : List ℕ) (packed : IsPacked limit true bytes starts) where
  begins_at : (k d : ℕ) → k < length starts → get_or starts k d ≡ length (joined (take k (pieces_at starts bytes)))
  begins_at k d low =
      let pieces = pieces_at starts bytes in
      let found = ap (λ s. get_or s k d) (sym packed.begin) ∙ start_at 0 k d pieces (omega (arith, length-pieces_at starts bytes)) in
      omega (arith, found)

  taken : (k : ℕ) → length (joined (take k (pieces_at starts bytes))) ≤ length bytes
  taken k =
      let pieces = pieces_at starts bytes in
      let whole = ap length (sym packed.whole ∙ ap joined (sym (take-append-drop k pieces)) ∙ joined-append (take k pieces) (drop k pieces)) in
      omega (arith, whole, length-append (joined (take k pieces)) (joined (drop k pieces)))

  -- with the piece that begins next
  pub piece_before : (k end d : ℕ) → k + 1 < length starts → end ≡ get_or starts (k + 1) d → (piece : List ℕ) × IsPiece limit bytes starts k end piece
  piece_before k end d low is =
      let pieces = pieces_at starts bytes in
      let (piece, there) = around limit k pieces packed.led packed.within (omega (arith, length-pieces_at starts bytes)) in
      let begin = begins_at k 0 (omega arith) in
      let next = begins_at (k + 1) d low in
      let far = reach limit k pieces piece there in
      (piece, record { there = there; begin = begin; size = omega (arith, is, next, far, begin); within = omega (arith, is, next, taken (k + 1)) })

  -- the last piece
  pub piece_last : (k end : ℕ) → k < length starts → length starts ≤ k + 1 → end ≡ length bytes → (piece : List ℕ) × IsPiece limit bytes starts k end piece
  piece_last k end low last is =
      let pieces = pieces_at starts bytes in
      let (piece, there) = around limit k pieces packed.led packed.within (omega (arith, length-pieces_at starts bytes)) in
      let begin = begins_at k 0 low in
      let far = reach limit k pieces piece there in
      let all : take (k + 1) pieces ≡ pieces = take_all (k + 1) pieces (omega (arith, length-pieces_at starts bytes)) in
      let whole = ap length (ap joined all ∙ packed.whole) in
      (piece, record { there = there; begin = begin; size = omega (arith, is, whole, far, begin); within = omega (arith, is) })

  pub piece_at : (k end : ℕ) → k < length starts → (k + 1 < length starts → end ≡ get_or starts (k + 1) 0) → (length starts ≤ k + 1 → end ≡ length bytes)
      → (piece : List ℕ) × IsPiece limit bytes starts k end piece
  piece_at k end low next last =
      elim (cases_lt (k + 1) (length starts)) [
        | inl more ↦ piece_before k end 0 more (next more)
        | inr none ↦ piece_last k end low none (last none)
      ]

  -- at the end all lengths are set
  pub all_set : (k : ℕ) (bytes_after : List ℕ) → length starts ≤ k → bytes_after ≡ set_so_far k (pieces_at starts bytes) → bytes_after ≡ joined (framed_payloads true (payloads_at true starts bytes))
  all_set k bytes_after last is =
      let pieces = pieces_at starts bytes in
      let all : take k pieces ≡ pieces = take_all k pieces (omega (arith, length-pieces_at starts bytes)) in
      let none : drop k pieces ≡ [] = drop_all k pieces (omega (arith, length-pieces_at starts bytes)) in
      is ∙ (λ j. joined (map led (all j) ++ none j)) ∙ ap joined (append-nil (map led pieces)) ∙ ap joined (led_all pieces)
    where
      led_all : (pieces : List (List ℕ)) → map led pieces ≡ framed_payloads true (map (λ piece. drop 4 piece) pieces)
      led_all [] = refl
      led_all (piece ∷ pieces) = ap (λ rest. led piece ∷ rest) (led_all pieces)

-- ---- what the buffer then holds

starts_of-led : (start : ℕ) (pieces : List (List ℕ)) → All (λ piece. 4 ≤ length piece) pieces → starts_of start (framed_payloads true (map (λ piece. drop 4 piece) pieces)) ≡ starts_of start pieces
starts_of-led start [] room = refl
starts_of-led start (piece ∷ pieces) room =
    let own : start + length (led piece) ≡ start + length piece = omega (arith, length-led piece (All-head (λ (piece : List ℕ). 4 ≤ length piece) piece pieces room)) in
    ap (λ next. start ∷ starts_of next (framed_payloads true (map (λ piece. drop 4 piece) pieces))) own
    ∙ ap (λ rest. start ∷ rest) (starts_of-led (start + length piece) pieces (All-tail (λ (piece : List ℕ). 4 ≤ length piece) piece pieces room))

room_for_length : (payloads : List (List ℕ)) → All (λ piece. 4 ≤ length piece) (framed_payloads true payloads)
room_for_length [] = All-nil (λ (piece : List ℕ). 4 ≤ length piece)
room_for_length (payload ∷ payloads) =
    All-cons (λ (piece : List ℕ). 4 ≤ length piece) (framed true payload) (framed_payloads true payloads) (omega arith) (room_for_length payloads)

payloads_again : (payloads : List (List ℕ)) → map (λ piece. drop 4 piece) (framed_payloads true payloads) ≡ payloads
payloads_again [] = refl
payloads_again (payload ∷ payloads) = ap (λ rest. payload ∷ rest) (payloads_again payloads)

pub lengths_set : (limit : ℕ) (bytes bytes_after starts : List ℕ) → IsPacked limit true bytes starts → bytes_after ≡ joined (framed_payloads true (payloads_at true starts bytes))
    → HasPieces limit true bytes_after starts (framed_payloads true (payloads_at true starts bytes))
lengths_set limit bytes bytes_after starts packed after =
    let payloads = payloads_at true starts bytes in
    let P : List (List ℕ) → Type 0 = λ payloads. AreWithin limit payloads in
    has_pieces limit true bytes_after starts (framed_payloads true payloads) after
    (sym packed.begin ∙ sym (starts_of-led 0 (pieces_at starts bytes) packed.led))
    (room_for_length payloads) (subst P (sym (payloads_again payloads)) packed.within) packed.short
