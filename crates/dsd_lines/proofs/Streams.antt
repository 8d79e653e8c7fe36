-- Frames one after another: bytes have one list of them.
use Rattle.std.proofs.Common.{◌≡◌, ℕ, ◌+◌, ◌-◌, ◌^◌, ◌<◌, ◌≤◌, true, List, [], ◌∷◌, ◌++◌, length, get_or, take, drop, refl, sym, ap, subst, ◌∙◌, zero, suc, drop-drop, append_assoc, append-nil, arith}
use Rattle.std.specs.Prelude.{All}
use Rattle.std.specs.Int.{w32, to_le_bytes, from_le_bytes}
use Rattle.std.proofs.lemmas.Nat.{from_le_bytes-to_le_bytes_4, le_bytes_4}
use Rattle.std.proofs.lemmas.List.{take_rest, length-append, length-take-le, take-append-drop, take_at, drop_at}
use Rattle.std.proofs.lemmas.List.Elements.{All-nil, All-head, All-tail, All-push}
use Rattle.std.proofs.lemmas.Grind.{flat_map-append}
use Rattle.dsd_writer.specs.Lines.{framed}
use Rattle.dsd_lines.specs.Frames.{stream_of, IsFrame, BeginsFrame, BeginsNoFrame, Splits, AreFrames}

-- the length of a frame as it leads it
abbrev lead : List ℕ → List ℕ
lead frame = to_le_bytes w32 (length frame)

-- ---- one frame

-- the length in front of a frame, and the bytes behind that
lead_same : (f g r s : List ℕ) → framed true f ++ r ≡ framed true g ++ s → lead f ≡ lead g
lead_same f g r s e = ap (take 4) e

behind_same : (f g r s : List ℕ) → framed true f ++ r ≡ framed true g ++ s → f ++ r ≡ g ++ s
behind_same f g r s e = ap (drop 4) e

length_same : (f g : List ℕ) → IsFrame f → IsFrame g → lead f ≡ lead g → length f ≡ length g
length_same f g hf hg e = sym (from_le_bytes-to_le_bytes_4 (length f) hf) ∙ ap (from_le_bytes w32) e ∙ from_le_bytes-to_le_bytes_4 (length g) hg

frame_told : (f g r s : List ℕ) → IsFrame f → IsFrame g → framed true f ++ r ≡ framed true g ++ s → (f ≡ g) × (r ≡ s)
frame_told f g r s hf hg e =
    let same = length_same f g hf hg (lead_same f g r s e) in
    let behind = behind_same f g r s e in (
      sym (take_at f r (length f) refl) ∙ (λ j. take (same j) (behind j)) ∙ take_at g s (length g) refl,
      sym (drop_at f r (length f) refl) ∙ (λ j. drop (same j) (behind j)) ∙ drop_at g s (length g) refl,
    )

-- ---- several

one_list : (frames others : List (List ℕ)) (r s : List ℕ) → All IsFrame frames → All IsFrame others → BeginsNoFrame r → BeginsNoFrame s → stream_of frames ++ r ≡ stream_of others ++ s → frames ≡ others
one_list [] [] r s hf hg nr ns e = refl
one_list [] (g ∷ others) r s hf hg nr ns e =
    absurd (nr g (stream_of others ++ s) (All-head IsFrame g others hg) (e ∙ append_assoc (framed true g) (stream_of others) s))
one_list (f ∷ frames) [] r s hf hg nr ns e =
    absurd (ns f (stream_of frames ++ r) (All-head IsFrame f frames hf) (sym e ∙ append_assoc (framed true f) (stream_of frames) r))
one_list (f ∷ frames) (g ∷ others) r s hf hg nr ns e =
    let split = sym (append_assoc (framed true f) (stream_of frames) r) ∙ e ∙ append_assoc (framed true g) (stream_of others) s in
    let told = frame_told f g (stream_of frames ++ r) (stream_of others ++ s) (All-head IsFrame f frames hf) (All-head IsFrame g others hg) split in
    (λ j. told.0 j ∷ one_list frames others r s (All-tail IsFrame f frames hf) (All-tail IsFrame g others hg) nr ns told.1 j)

pub frames_told : (bytes : List ℕ) (frames others : List (List ℕ)) → AreFrames bytes frames → AreFrames bytes others → frames ≡ others
frames_told bytes frames others h k =
    one_list frames others h.rest k.rest h.split.are_frames k.split.are_frames h.no_more k.no_more (sym h.split.whole ∙ k.split.whole)

-- ---- a stream that grows, and frames that are taken

pub no_bytes : Splits [] [] []
no_bytes = record { whole = refl; are_frames = All-nil IsFrame }

pub grown : (bytes : List ℕ) (frames : List (List ℕ)) (rest piece : List ℕ) → Splits bytes frames rest → Splits (bytes ++ piece) frames (rest ++ piece)
grown bytes frames rest piece h = record {
  whole = ap (λ l. l ++ piece) h.whole ∙ append_assoc (stream_of frames) rest piece;
  are_frames = h.are_frames;
}

pub taken : (bytes : List ℕ) (frames : List (List ℕ)) (rest frame more : List ℕ) → rest ≡ framed true frame ++ more → IsFrame frame → Splits bytes frames rest → Splits bytes (frames ++ frame ∷ []) more
taken bytes frames rest frame more e is_frame h = record {
  whole =
      h.whole ∙ ap (λ l. stream_of frames ++ l) e ∙ sym (append_assoc (stream_of frames) (framed true frame) more)
      ∙ ap (λ l. (stream_of frames ++ l) ++ more) (sym (append-nil (framed true frame)))
      ∙ ap (λ l. l ++ more) (sym (flat_map-append (framed true) frames (frame ∷ [])));
  are_frames = All-push IsFrame frames frame h.are_frames is_frame;
}

pub all_taken : (bytes : List ℕ) (frames : List (List ℕ)) (rest : List ℕ) → BeginsNoFrame rest → Splits bytes frames rest → AreFrames bytes frames
all_taken bytes frames rest none h = record { rest = rest; split = h; no_more = none }

-- ---- the frame at the front

four : (xs : List ℕ) → length xs ≡ 4 → get_or xs 0 0 ∷ get_or xs 1 0 ∷ get_or xs 2 0 ∷ get_or xs 3 0 ∷ [] ≡ xs
four [] len = absurd (omega (arith, len))
four (a ∷ []) len = absurd (omega (arith, len))
four (a ∷ b ∷ []) len = absurd (omega (arith, len))
four (a ∷ b ∷ c ∷ []) len = absurd (omega (arith, len))
four (a ∷ b ∷ c ∷ d ∷ []) len = refl
four (a ∷ b ∷ c ∷ d ∷ e ∷ xs) len = absurd (omega (arith, len))

frame_length : (frame rest : List ℕ) → length (framed true frame ++ rest) ≡ 4 + length frame + length rest
frame_length frame rest = omega (arith, length-append (framed true frame) rest, length-append (lead frame) frame)

pub too_short : (bytes : List ℕ) → length bytes < 4 → BeginsNoFrame bytes
too_short bytes short = λ frame rest is_frame e. omega (arith, short, ap length e, frame_length frame rest)

pub fits_front : (n : ℕ) (bytes : List ℕ) → ((i : ℕ) → get_or bytes i 0 < 256) → (i : ℕ) → get_or (take n bytes) i 0 < 256
fits_front zero [] fits i = fits i
fits_front (suc n) [] fits i = fits i
fits_front zero (b ∷ bytes) fits i = omega arith
fits_front (suc n) (b ∷ bytes) fits zero = fits 0
fits_front (suc n) (b ∷ bytes) fits (suc i) = fits_front n bytes (λ k. fits (suc k)) i

-- front is the first four bytes, and n is the number in them
module _ (bytes front behind : List ℕ) (n : ℕ) (front_is : front ≡ take 4 bytes) (behind_is : behind ≡ drop 4 bytes) (enough : 4 ≤ length bytes)
    (read : n ≡ from_le_bytes w32 (get_or front 0 0 ∷ get_or front 1 0 ∷ get_or front 2 0 ∷ get_or front 3 0 ∷ [])) where
  front_length : length front ≡ 4
  front_length = ap length front_is ∙ length-take-le 4 bytes enough

  read_front : n ≡ from_le_bytes w32 front
  read_front = read ∙ ap (from_le_bytes w32) (four front front_length)

  whole : bytes ≡ front ++ behind
  whole = sym (take-append-drop 4 bytes) ∙ (λ j. sym front_is j ++ sym behind_is j)

  pub cut_short : length behind < n → BeginsNoFrame bytes
  cut_short short = λ frame rest is_frame e.
      let same : front ++ behind ≡ framed true frame ++ rest = sym whole ∙ e in
      let lead_is : front ≡ lead frame = front_is ∙ ap (take 4) e in
      let told : n ≡ length frame = read_front ∙ ap (from_le_bytes w32) lead_is ∙ from_le_bytes-to_le_bytes_4 (length frame) is_frame in
      omega (arith, short, told, ap length same, length-append front behind, front_length, frame_length frame rest)

  pub begins : (payload : List ℕ) → n < 2 ^ 32 → n ≤ length behind → ((i : ℕ) → get_or front i 0 < 256) → payload ≡ take n behind → BeginsFrame bytes payload
  begins payload small within bytes_fit is =
      let count : length payload ≡ n = ap length is ∙ length-take-le n behind within in
      let lead_is : lead payload ≡ front = ap (to_le_bytes w32) count ∙ le_bytes_4 front n front_length bytes_fit read_front in
      record {
        rest = drop n behind;
        whole = whole ∙ ap (λ l. front ++ l) (sym (take-append-drop n behind)) ∙ (λ j. sym lead_is j ++ (sym is j ++ drop n behind)) ∙ sym (append_assoc (lead payload) payload (drop n behind));
        is_frame = omega (arith, count, small);
      }

-- what is left behind a frame that was taken
pub left_behind : (bytes : List ℕ) (begin n : ℕ) (old frame rest : List ℕ) → drop begin bytes ≡ old → old ≡ framed true frame ++ rest → n ≡ length frame → drop (begin + (4 + n)) bytes ≡ rest
left_behind bytes begin n old frame rest view split count =
    let size : 4 + n ≡ length (framed true frame) = omega (arith, count, length-append (lead frame) frame) in
    sym (drop-drop (4 + n) begin bytes) ∙ ap (drop (4 + n)) (view ∙ split) ∙ drop_at (framed true frame) rest (4 + n) (sym size)

-- a frame that stands in front of what is left of a stream
pub record IsTaken (old frame new : List ℕ) : Type 0 where
  pub split : old ≡ framed true frame ++ new
  pub is_frame : IsFrame frame

-- the bytes are seen from a place on, and the frame is a copy of the payload in front there
pub frame_taken : (bytes slice : List ℕ) (begin : ℕ) (old payload frame : List ℕ) → slice ≡ bytes → drop begin bytes ≡ old → BeginsFrame (take (length slice - begin) (drop begin slice)) payload → frame ≡ payload
    → IsTaken old frame (drop (begin + (4 + length payload)) bytes)
frame_taken bytes slice begin old payload frame same view h copy =
    let seen : take (length slice - begin) (drop begin slice) ≡ old = take_rest slice begin ∙ ap (drop begin) same ∙ view in
    let front : BeginsFrame old frame = subst (BeginsFrame old) (sym copy) (subst (λ l. BeginsFrame l payload) seen h) in
    let left = left_behind bytes begin (length payload) old frame front.rest view front.whole (ap length (sym copy)) in
    record { split = front.whole ∙ ap (λ l. framed true frame ++ l) (sym left); is_frame = front.is_frame }
