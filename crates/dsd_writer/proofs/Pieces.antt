-- Pieces that stand one after another are found again by where they begin, and a line is put behind them.
use Rattle.std.proofs.Common.{◌≡◌, ℕ, zero, suc, ◌+◌, ◌-◌, ◌<◌, ◌≤◌, Bool, true, false, cond, List, [], ◌∷◌, ◌++◌, length, map, take, drop, get_or, replicate, refl, sym, ap, ◌∙◌, arith, subst, append_assoc, length-append, inl, inr}
use Rattle.std.specs.Prelude.{All, min, nat_le, slice_get, Some, None}
use Rattle.std.proofs.Math.Seq.{take-append_seam, drop-append_seam}
use Rattle.std.proofs.lemmas.Bool.{cases_lt, false≢true, leb-true}
use Rattle.std.proofs.lemmas.List.{append-nil, drop-append-le, drop_all, drop_at, length-drop, length-map, length-replicate, length-take, map_push, take_all}
use Rattle.std.proofs.lemmas.List.Elements.{All-head, All-tail, All-cons, All-nil, All-push}
use Rattle.std.proofs.lemmas.Slice.{between_is}
use Rattle.dsd_writer.specs.Cuts.{AreWithin, joined}
use Rattle.dsd_writer.specs.Packing.{IsPacked, before_line, behind_last, framed_payloads, last_takes, payloads_at, pieces_at, prefix_length, start_of_line, starts_of, stored_length, with_line}
use Rattle.dsd_writer.proofs.Joined.{joined_push}

-- ---- pieces and where they begin

pieces_at-starts_of : (before : List ℕ) (pieces : List (List ℕ)) → pieces_at (starts_of (length before) pieces) (before ++ joined pieces) ≡ pieces
pieces_at-starts_of before [] = refl
pieces_at-starts_of before (piece ∷ []) = ap (λ last. last ∷ []) (drop-append_seam before (piece ++ []) ∙ append-nil piece)
pieces_at-starts_of before (piece ∷ next ∷ pieces) =
    let rest = joined (next ∷ pieces) in
    let place : length before + length piece ≡ length (before ++ piece) = sym (length-append before piece) in
    let whole : before ++ (piece ++ rest) ≡ (before ++ piece) ++ rest = sym (append_assoc before piece rest) in
    let first : drop (length before) (take (length (before ++ piece)) ((before ++ piece) ++ rest)) ≡ piece =
    ap (drop (length before)) (take-append_seam (before ++ piece) rest) ∙ drop-append_seam before piece in
    (λ j. drop (length before) (take (place j) (whole j)) ∷ pieces_at (starts_of (place j) (next ∷ pieces)) (whole j))
    ∙ (λ j. first j ∷ pieces_at-starts_of (before ++ piece) (next ∷ pieces) j)

pub record HasPieces (limit : ℕ) (on_stream : Bool) (bytes starts : List ℕ) (pieces : List (List ℕ)) : Type 0 where
  pub packed : IsPacked limit on_stream bytes starts
  pub are : pieces_at starts bytes ≡ pieces

pub has_pieces : (limit : ℕ) (on_stream : Bool) (bytes starts : List ℕ) (pieces : List (List ℕ)) → bytes ≡ joined pieces → starts ≡ starts_of 0 pieces
    → All (λ piece. prefix_length on_stream ≤ length piece) pieces → AreWithin limit (map (λ piece. drop (prefix_length on_stream) piece) pieces) → limit ≤ 4294967295
    → HasPieces limit on_stream bytes starts pieces
has_pieces limit on_stream bytes starts pieces bytes_are starts_are led within short =
    let are : pieces_at starts bytes ≡ pieces = (λ j. pieces_at (starts_are j) (bytes_are j)) ∙ pieces_at-starts_of [] pieces in
    let P : List (List ℕ) → Type 0 = λ pieces. All (λ piece. prefix_length on_stream ≤ length piece) pieces in
    let Q : List (List ℕ) → Type 0 = λ pieces. AreWithin limit (map (λ piece. drop (prefix_length on_stream) piece) pieces) in
    record {
      packed = record {
        begin = ap (starts_of 0) are ∙ sym starts_are;
        whole = ap joined are ∙ sym bytes_are;
        led = subst P (sym are) led;
        within = subst Q (sym are) within;
        short = short;
      };
      are = are;
    }

-- ---- a text behind the last piece

joined-behind_last : (first : List ℕ) (pieces : List (List ℕ)) (text : List ℕ) → joined (behind_last (first ∷ pieces) text) ≡ joined (first ∷ pieces) ++ text
joined-behind_last first [] text = append_assoc first text [] ∙ ap (λ t. first ++ t) (append-nil text) ∙ ap (λ f. f ++ text) (sym (append-nil first))
joined-behind_last first (next ∷ pieces) text =
    ap (λ rest. first ++ rest) (joined-behind_last next pieces text) ∙ sym (append_assoc first (joined (next ∷ pieces)) text)

starts_of-behind_last : (start : ℕ) (first : List ℕ) (pieces : List (List ℕ)) (text : List ℕ) → starts_of start (behind_last (first ∷ pieces) text) ≡ starts_of start (first ∷ pieces)
starts_of-behind_last start first [] text = refl
starts_of-behind_last start first (next ∷ pieces) text = ap (λ rest. start ∷ rest) (starts_of-behind_last (start + length first) next pieces text)

drop-behind_last : (n : ℕ) (first : List ℕ) (pieces : List (List ℕ)) (text : List ℕ) → All (λ piece. n ≤ length piece) (first ∷ pieces)
    → map (λ piece. drop n piece) (behind_last (first ∷ pieces) text) ≡ behind_last (map (λ piece. drop n piece) (first ∷ pieces)) text
drop-behind_last n first [] text led = ap (λ last. last ∷ []) (drop-append-le n first text (All-head (λ (piece : List ℕ). n ≤ length piece) first [] led))
drop-behind_last n first (next ∷ pieces) text led =
    ap (λ rest. drop n first ∷ rest) (drop-behind_last n next pieces text (All-tail (λ (piece : List ℕ). n ≤ length piece) first (next ∷ pieces) led))

led-behind_last : (n : ℕ) (first : List ℕ) (pieces : List (List ℕ)) (text : List ℕ) → All (λ piece. n ≤ length piece) (first ∷ pieces) → All (λ piece. n ≤ length piece) (behind_last (first ∷ pieces) text)
led-behind_last n first [] text led =
    let own = All-head (λ (piece : List ℕ). n ≤ length piece) first [] led in
    All-cons (λ (piece : List ℕ). n ≤ length piece) (first ++ text) [] (omega (arith, own, length-append first text)) (All-nil (λ (piece : List ℕ). n ≤ length piece))
led-behind_last n first (next ∷ pieces) text led =
    All-cons (λ (piece : List ℕ). n ≤ length piece) first (behind_last (next ∷ pieces) text) (All-head (λ (piece : List ℕ). n ≤ length piece) first (next ∷ pieces) led)
    (led-behind_last n next pieces text (All-tail (λ (piece : List ℕ). n ≤ length piece) first (next ∷ pieces) led))

within-behind_last : (limit : ℕ) (payloads : List (List ℕ)) (line : List ℕ) → last_takes limit payloads (length line) ≡ true → AreWithin limit payloads → AreWithin limit (behind_last payloads line)
within-behind_last limit [] line takes within = All-nil (λ (text : List ℕ). length text ≤ limit)
within-behind_last limit (payload ∷ []) line takes within =
    let fits = leb-true (length payload + length line) limit takes in
    All-cons (λ (text : List ℕ). length text ≤ limit) (payload ++ line) [] (omega (arith, fits, length-append payload line)) (All-nil (λ (text : List ℕ). length text ≤ limit))
within-behind_last limit (payload ∷ next ∷ payloads) line takes within =
    All-cons (λ (text : List ℕ). length text ≤ limit) payload (behind_last (next ∷ payloads) line) (All-head (λ (text : List ℕ). length text ≤ limit) payload (next ∷ payloads) within)
    (within-behind_last limit (next ∷ payloads) line takes (All-tail (λ (text : List ℕ). length text ≤ limit) payload (next ∷ payloads) within))

-- ---- one more piece

starts_of-push : (start : ℕ) (pieces : List (List ℕ)) (piece : List ℕ) → starts_of start (pieces ++ piece ∷ []) ≡ starts_of start pieces ++ (start + length (joined pieces)) ∷ []
starts_of-push start [] piece =
    let same : start ≡ start + 0 = omega arith in
    ap (λ s. s ∷ []) same
starts_of-push start (first ∷ pieces) piece =
    let same : start + length first + length (joined pieces) ≡ start + length (first ++ joined pieces) = omega (arith, length-append first (joined pieces)) in
    ap (λ rest. start ∷ rest) (starts_of-push (start + length first) pieces piece ∙ ap (λ s. starts_of (start + length first) pieces ++ s ∷ []) same)

-- ---- a line

-- a buffer after a line
pub record IsPlaced (limit : ℕ) (on_stream : Bool) (bytes starts bytes_after starts_after line : List ℕ) : Type 0 where
  pub packed : IsPacked limit on_stream bytes_after starts_after
  pub payloads : payloads_at on_stream starts_after bytes_after ≡ with_line limit (payloads_at on_stream starts bytes) line

module _ (limit : ℕ) (on_stream : Bool) (bytes starts bytes_after starts_after line : List ℕ) (packed : IsPacked limit on_stream bytes starts) where
  placed_new : length line ≤ limit → bytes_after ≡ (bytes ++ replicate (prefix_length on_stream) 0) ++ line → starts_after ≡ starts ++ length bytes ∷ []
      → HasPieces limit on_stream bytes_after starts_after (pieces_at starts bytes ++ (replicate (prefix_length on_stream) 0 ++ line) ∷ [])
  placed_new short bytes_are starts_are =
      let n = prefix_length on_stream in
      let before : List ℕ = replicate n 0 in
      let pieces = pieces_at starts bytes in
      let piece = before ++ line in
      let room : length before ≡ n = length-replicate n 0 in
      let own : drop n piece ≡ line = drop_at before line n room in
      let all : bytes_after ≡ joined (pieces ++ piece ∷ []) =
      bytes_are ∙ append_assoc bytes before line ∙ ap (λ b. b ++ piece) (sym packed.whole) ∙ sym (joined_push pieces piece) in
      let known : starts_of 0 pieces ++ length (joined pieces) ∷ [] ≡ starts ++ length bytes ∷ [] = λ j. packed.begin j ++ length (packed.whole j) ∷ [] in
      let from_start : length (joined pieces) ≡ 0 + length (joined pieces) = omega arith in
      let begin : starts_after ≡ starts_of 0 (pieces ++ piece ∷ []) =
      starts_are ∙ sym known ∙ ap (λ s. starts_of 0 pieces ++ s ∷ []) from_start ∙ sym (starts_of-push 0 pieces piece) in
      let led = All-push (λ (piece : List ℕ). n ≤ length piece) pieces piece packed.led (omega (arith, room, length-append before line)) in
      let payloads : map (λ piece. drop n piece) (pieces ++ piece ∷ []) ≡ payloads_at on_stream starts bytes ++ line ∷ [] =
      map_push (λ piece. drop n piece) pieces piece ∙ ap (λ last. payloads_at on_stream starts bytes ++ last ∷ []) own in
      let P : List (List ℕ) → Type 0 = λ payloads. AreWithin limit payloads in
      has_pieces limit on_stream bytes_after starts_after (pieces ++ piece ∷ []) all begin led
      (subst P (sym payloads) (All-push (λ (text : List ℕ). length text ≤ limit) (payloads_at on_stream starts bytes) line packed.within short)) packed.short

  -- a line that begins a payload
  begins_payload : length line ≤ limit → bytes_after ≡ (bytes ++ replicate (prefix_length on_stream) 0) ++ line → starts_after ≡ starts ++ length bytes ∷ []
      → IsPacked limit on_stream bytes_after starts_after × (payloads_at on_stream starts_after bytes_after ≡ payloads_at on_stream starts bytes ++ line ∷ [])
  begins_payload short bytes_are starts_are =
      let n = prefix_length on_stream in
      let before : List ℕ = replicate n 0 in
      let has = placed_new short bytes_are starts_are in
      let own : drop n (before ++ line) ≡ line = drop_at before line n (length-replicate n 0) in (
        has.packed,
        ap (map (λ piece. drop n piece)) has.are ∙ map_push (λ piece. drop n piece) (pieces_at starts bytes) (before ++ line)
            ∙ ap (λ last. payloads_at on_stream starts bytes ++ last ∷ []) own,
      )

  -- a line that goes into the last payload
  goes_in : (pieces : List (List ℕ)) → pieces_at starts bytes ≡ pieces → last_takes limit (map (λ piece. drop (prefix_length on_stream) piece) pieces) (length line) ≡ true
      → bytes_after ≡ bytes ++ line → starts_after ≡ starts → HasPieces limit on_stream bytes_after starts_after (behind_last pieces line)
  goes_in [] are takes bytes_are starts_are = absurd (false≢true takes)
  goes_in (first ∷ pieces) are takes bytes_are starts_are =
      let n = prefix_length on_stream in
      let P : List (List ℕ) → Type 0 = λ pieces. All (λ piece. n ≤ length piece) pieces in
      let Q : List (List ℕ) → Type 0 = λ payloads. AreWithin limit payloads in
      let led : P (first ∷ pieces) = subst P are packed.led in
      let within = within-behind_last limit (map (λ piece. drop n piece) (first ∷ pieces)) line takes (subst Q (ap (map (λ piece. drop n piece)) are) packed.within) in
      has_pieces limit on_stream bytes_after starts_after (behind_last (first ∷ pieces) line)
      (bytes_are ∙ ap (λ b. b ++ line) (sym packed.whole ∙ ap joined are) ∙ sym (joined-behind_last first pieces line))
      (starts_are ∙ sym packed.begin ∙ ap (starts_of 0) are ∙ sym (starts_of-behind_last 0 first pieces line))
      (led-behind_last n first pieces line led)
      (subst Q (sym (drop-behind_last n first pieces line led)) within)
      packed.short

  payloads-behind_last : (pieces : List (List ℕ)) → pieces_at starts bytes ≡ pieces
      → map (λ piece. drop (prefix_length on_stream) piece) (behind_last pieces line) ≡ behind_last (map (λ piece. drop (prefix_length on_stream) piece) pieces) line
  payloads-behind_last [] are = refl
  payloads-behind_last (first ∷ pieces) are =
      let n = prefix_length on_stream in
      let P : List (List ℕ) → Type 0 = λ pieces. All (λ piece. n ≤ length piece) pieces in
      drop-behind_last n first pieces line (subst P are packed.led)

  fills_last : last_takes limit (payloads_at on_stream starts bytes) (length line) ≡ true → bytes_after ≡ bytes ++ line → starts_after ≡ starts
      → IsPacked limit on_stream bytes_after starts_after × (payloads_at on_stream starts_after bytes_after ≡ behind_last (payloads_at on_stream starts bytes) line)
  fills_last takes bytes_are starts_are =
      let has = goes_in (pieces_at starts bytes) refl takes bytes_are starts_are in
      (has.packed, ap (map (λ piece. drop (prefix_length on_stream) piece)) has.are ∙ payloads-behind_last (pieces_at starts bytes) refl)

  pub placed : (takes : Bool) → takes ≡ last_takes limit (payloads_at on_stream starts bytes) (length line) → length line ≤ limit
      → bytes_after ≡ (bytes ++ before_line on_stream takes) ++ line → starts_after ≡ starts ++ start_of_line takes bytes
      → IsPlaced limit on_stream bytes starts bytes_after starts_after line
  placed true is short bytes_are starts_are =
      let filled = fills_last (sym is) (bytes_are ∙ ap (λ b. b ++ line) (append-nil bytes)) (starts_are ∙ append-nil starts) in
      let payloads = payloads_at on_stream starts bytes in
      record { packed = filled.0; payloads = filled.1 ∙ ap (λ b. cond b (behind_last payloads line) (payloads ++ line ∷ [])) is }
  placed false is short bytes_are starts_are =
      let begun = begins_payload short bytes_are starts_are in
      let payloads = payloads_at on_stream starts bytes in
      record { packed = begun.0; payloads = begun.1 ∙ ap (λ b. cond b (behind_last payloads line) (payloads ++ line ∷ [])) is }

-- ---- how long the buffer is

length-joined_pieces : (on_stream : Bool) (pieces : List (List ℕ)) → All (λ piece. prefix_length on_stream ≤ length piece) pieces
    → length (joined pieces) ≡ stored_length on_stream (map (λ piece. drop (prefix_length on_stream) piece) pieces)
length-joined_pieces on_stream [] led = refl
length-joined_pieces on_stream (piece ∷ pieces) led =
    let n = prefix_length on_stream in
    let own = All-head (λ (piece : List ℕ). n ≤ length piece) piece pieces led in
    let rest = length-joined_pieces on_stream pieces (All-tail (λ (piece : List ℕ). n ≤ length piece) piece pieces led) in
    omega (arith, own, rest, length-append piece (joined pieces), length-drop n piece)

pub length-packed : (limit : ℕ) (on_stream : Bool) (bytes starts : List ℕ) → IsPacked limit on_stream bytes starts → length bytes ≡ stored_length on_stream (payloads_at on_stream starts bytes)
length-packed limit on_stream bytes starts packed = ap length (sym packed.whole) ∙ length-joined_pieces on_stream (pieces_at starts bytes) packed.led

length-starts_of : (start : ℕ) (pieces : List (List ℕ)) → length (starts_of start pieces) ≡ length pieces
length-starts_of start [] = refl
length-starts_of start (piece ∷ pieces) = omega (arith, length-starts_of (start + length piece) pieces)

pub length-starts : (limit : ℕ) (on_stream : Bool) (bytes starts : List ℕ) → IsPacked limit on_stream bytes starts → length starts ≡ length (payloads_at on_stream starts bytes)
length-starts limit on_stream bytes starts packed =
    ap length (sym packed.begin) ∙ length-starts_of 0 (pieces_at starts bytes) ∙ sym (length-map (pieces_at starts bytes) (λ piece. drop (prefix_length on_stream) piece))

-- ---- the last piece

abbrev pub last_of : List ℕ → List (List ℕ) → List ℕ
last_of first [] = first
last_of first (next ∷ pieces) = last_of next pieces

abbrev pub last_start : ℕ → List ℕ → List (List ℕ) → ℕ
last_start start first [] = start
last_start start first (next ∷ pieces) = last_start (start + length first) next pieces

get_last : (start : ℕ) (first : List ℕ) (pieces : List (List ℕ)) → slice_get (starts_of start (first ∷ pieces)) (length pieces) ≡ Some (last_start start first pieces)
get_last start first [] = refl
get_last start first (next ∷ pieces) = get_last (start + length first) next pieces

last_end : (start : ℕ) (first : List ℕ) (pieces : List (List ℕ)) → last_start start first pieces + length (last_of first pieces) ≡ start + length (joined (first ∷ pieces))
last_end start first [] = omega (arith, ap length (append-nil first))
last_end start first (next ∷ pieces) = omega (arith, last_end (start + length first) next pieces, length-append first (joined (next ∷ pieces)))

led_last : (k : ℕ) (first : List ℕ) (pieces : List (List ℕ)) → All (λ piece. k ≤ length piece) (first ∷ pieces) → k ≤ length (last_of first pieces)
led_last k first [] led = All-head (λ (piece : List ℕ). k ≤ length piece) first [] led
led_last k first (next ∷ pieces) led = led_last k next pieces (All-tail (λ (piece : List ℕ). k ≤ length piece) first (next ∷ pieces) led)

last_takes-last : (limit k n : ℕ) (first : List ℕ) (pieces : List (List ℕ)) → last_takes limit (map (λ piece. drop k piece) (first ∷ pieces)) n ≡ nat_le (length (drop k (last_of first pieces)) + n) limit
last_takes-last limit k n first [] = refl
last_takes-last limit k n first (next ∷ pieces) = last_takes-last limit k n next pieces

-- whether the last payload takes a line, by where it begins
pub record TakesBy (limit : ℕ) (on_stream : Bool) (bytes starts : List ℕ) (start : ℕ) : Type 0 where
  pub room : start + prefix_length on_stream ≤ length bytes
  pub takes : (n : ℕ) → last_takes limit (payloads_at on_stream starts bytes) n ≡ nat_le (length bytes - start - prefix_length on_stream + n) limit

some_is : (x y : ℕ) → Some x ≡ Some y → x ≡ y
some_is x y e = cc

none_is : (x : ℕ) {B : Type 0} → None ≡ Some x → B
none_is x e = cc

module _ (limit : ℕ) (on_stream : Bool) (bytes starts : List ℕ) (packed : IsPacked limit on_stream bytes starts) where
  takes_from : (pieces : List (List ℕ)) (start : ℕ) → pieces_at starts bytes ≡ pieces → slice_get starts (length starts - 1) ≡ Some start → TakesBy limit on_stream bytes starts start
  takes_from [] start are last = none_is start (sym (ap (λ s. slice_get s (length s - 1)) (sym packed.begin ∙ ap (starts_of 0) are)) ∙ last)
  takes_from (first ∷ pieces) start are last =
      let n = prefix_length on_stream in
      let starts_are : starts ≡ starts_of 0 (first ∷ pieces) = sym packed.begin ∙ ap (starts_of 0) are in
      let count : length starts - 1 ≡ length pieces = omega (arith, ap length starts_are, length-starts_of (0 + length first) pieces) in
      let at : start ≡ last_start 0 first pieces =
      some_is start (last_start 0 first pieces) (sym last ∙ (λ j. slice_get (starts_are j) (count j)) ∙ get_last 0 first pieces) in
      let P : List (List ℕ) → Type 0 = λ pieces. All (λ piece. n ≤ length piece) pieces in
      let led = led_last n first pieces (subst P are packed.led) in
      let size : length bytes ≡ length (joined (first ∷ pieces)) = ap length (sym packed.whole ∙ ap joined are) in
      let end = last_end 0 first pieces in
      let own : length (drop n (last_of first pieces)) ≡ length bytes - start - n = omega (arith, length-drop n (last_of first pieces), led, size, end, at) in
      record {
        room = omega (arith, led, size, end, at);
        takes = λ k. ap (λ ps. last_takes limit (map (λ piece. drop n piece) ps) k) are ∙ last_takes-last limit n k first pieces ∙ ap (λ m. nat_le (m + k) limit) own;
      }

  pub takes_by : (start : ℕ) → slice_get starts (length starts - 1) ≡ Some start → TakesBy limit on_stream bytes starts start
  takes_by start last = takes_from (pieces_at starts bytes) start refl last

  takes_none_from : (pieces : List (List ℕ)) (n : ℕ) → pieces_at starts bytes ≡ pieces → slice_get starts (length starts - 1) ≡ None → last_takes limit (payloads_at on_stream starts bytes) n ≡ false
  takes_none_from [] n are last = ap (λ ps. last_takes limit (map (λ piece. drop (prefix_length on_stream) piece) ps) n) are
  takes_none_from (first ∷ pieces) n are last =
      let starts_are : starts ≡ starts_of 0 (first ∷ pieces) = sym packed.begin ∙ ap (starts_of 0) are in
      let count : length starts - 1 ≡ length pieces = omega (arith, ap length starts_are, length-starts_of (0 + length first) pieces) in
      none_is (last_start 0 first pieces) (sym last ∙ (λ j. slice_get (starts_are j) (count j)) ∙ get_last 0 first pieces)

  pub takes_none : (n : ℕ) → slice_get starts (length starts - 1) ≡ None → last_takes limit (payloads_at on_stream starts bytes) n ≡ false
  takes_none n last = takes_none_from (pieces_at starts bytes) n refl last

-- ---- how many pieces there are

pub length-pieces_at : (starts bytes : List ℕ) → length (pieces_at starts bytes) ≡ length starts
length-pieces_at [] bytes = refl
length-pieces_at (start ∷ []) bytes = refl
length-pieces_at (start ∷ next ∷ starts) bytes = omega (arith, length-pieces_at (next ∷ starts) bytes)

-- ---- a piece apart

-- where a piece ends: where the next one begins, or at the end
pub record EndsAt (starts : List ℕ) (k n end : ℕ) : Type 0 where
  pub low : k < length starts
  pub next : k + 1 < length starts → end ≡ get_or starts (k + 1) 0
  pub last : length starts ≤ k + 1 → end ≡ n

ends_behind : (start : ℕ) (starts : List ℕ) (k n end : ℕ) → EndsAt (start ∷ starts) (suc k) n end → EndsAt starts k n end
ends_behind start starts k n end ends =
    let more : suc k + 1 ≡ suc (k + 1) = omega arith in
    record {
      low = omega (arith, ends.low);
      next = λ low. ends.next (omega arith) ∙ ap (λ m. get_or (start ∷ starts) m 0) more;
      last = λ high. ends.last (omega arith);
    }

pub piece_apart : (starts bytes : List ℕ) (k end : ℕ) → EndsAt starts k (length bytes) end
    → drop k (pieces_at starts bytes) ≡ drop (get_or starts k 0) (take end bytes) ∷ drop (k + 1) (pieces_at starts bytes)
piece_apart [] bytes k end ends = absurd (omega (arith, ends.low))
piece_apart (start ∷ []) bytes zero end ends =
    ap (λ b. drop start b ∷ []) (sym (take_all end bytes (omega (arith, ends.last (omega arith)))))
piece_apart (start ∷ []) bytes (suc k) end ends = absurd (omega (arith, ends.low))
piece_apart (start ∷ next ∷ starts) bytes zero end ends =
    ap (λ e. drop start (take e bytes) ∷ pieces_at (next ∷ starts) bytes) (sym (ends.next (omega arith)))
piece_apart (start ∷ next ∷ starts) bytes (suc k) end ends =
    let more : suc k + 1 ≡ suc (k + 1) = omega arith in
    piece_apart (next ∷ starts) bytes k end (ends_behind start (next ∷ starts) k (length bytes) end ends)
    ∙ ap (λ m. drop (get_or (next ∷ starts) k 0) (take end bytes) ∷ drop m (pieces_at (start ∷ next ∷ starts) bytes)) (sym more)

-- the same part of a list, as far as it is there
pub part_is : (bytes : List ℕ) (start end low high : ℕ) → high ≡ min end (length bytes) → low ≡ min start high → take (high - low) (drop low bytes) ≡ drop start (take end bytes)
part_is bytes start end low high high_is low_is =
    between_is bytes low high ∙ ap (drop low) ends ∙ begins
  where
    ends : take high bytes ≡ take end bytes
    ends = elim (cases_lt (length bytes) end) [
      | inl past ↦ take_all high bytes (omega (arith, high_is)) ∙ sym (take_all end bytes (omega arith))
      | inr there ↦ ap (λ n. take n bytes) (omega (arith, high_is))
    ]

    begins : drop low (take end bytes) ≡ drop start (take end bytes)
    begins = elim (cases_lt high start) [
      | inl past ↦ drop_all low (take end bytes) (omega (arith, low_is, high_is, length-take end bytes)) ∙ sym (drop_all start (take end bytes) (omega (arith, low_is, high_is, length-take end bytes)))
      | inr there ↦ ap (λ n. drop n (take end bytes)) (omega (arith, low_is))
    ]

-- ---- payloads that nothing stands before

pub framed_bare : (pieces : List (List ℕ)) → pieces ≡ framed_payloads false (map (λ piece. drop 0 piece) pieces)
framed_bare [] = refl
framed_bare (piece ∷ pieces) = ap (λ rest. piece ∷ rest) (framed_bare pieces)
