-- Payloads are filled line by line with the lines of many values.
use Rattle.std.proofs.Common.{◌≡◌, ℕ, ◌+◌, ◌<◌, ◌≤◌, Bool, List, [], ◌∷◌, ◌++◌, length, map, take, drop, refl, sym, ap, ◌∙◌, arith, append_assoc, length-append}
use Rattle.std.proofs.Math.Seq.{take-append_seam}
use Rattle.std.proofs.lemmas.List.{append-nil, length-map, take-append-drop}
use Rattle.std.proofs.lemmas.List.Elements.{filter-append}
use Rattle.std.specs.Prelude.{nat_lt}
use Rattle.std.specs.declared.snapshot.Snapshot.{Snapshot}
use Rattle.dsd_writer.specs.Lines.{ItemText, left_out_values, line_of, lines_of}
use Rattle.dsd_writer.specs.Packing.{IsPacked, before_line, filled, last_takes, noted, payloads_at, start_of_line, stored_length, with_line}
use Rattle.dsd_writer.specs.Runs.{IsRun, short_values}
use Rattle.dsd_writer.proofs.Filled.{grow, length-with_line, stored_length-with_line}
use Rattle.dsd_writer.proofs.LineLengths.{left_out-short, length-line_of, lines_of-none, lines_of-run}
use Rattle.dsd_writer.proofs.Pieces.{length-packed, length-starts, placed}

pub record IsFilling (limit : ℕ) (on_stream : Bool) (item : ItemText) (values rest : List (List ℕ)) (bytes_before starts_before bytes starts : List ℕ) (lines left_out : ℕ) : Type 0 where
  pub packed : IsPacked limit on_stream bytes starts
  pub to_come : filled limit (payloads_at on_stream starts bytes) (lines_of limit item rest) ≡ filled limit (payloads_at on_stream starts_before bytes_before) (lines_of limit item values)
  pub counted : lines + length (lines_of limit item rest) ≡ length (lines_of limit item values)
  pub dropped : left_out + length (left_out_values limit item rest) ≡ length (left_out_values limit item values)
  pub bytes_kept : take (length bytes_before) bytes ≡ bytes_before
  pub starts_kept : take (length starts_before) starts ≡ starts_before

-- a list that begins another one begins it still with more behind it
kept_more : {A : Type 0} (before now more : List A) → take (length before) now ≡ before → take (length before) (now ++ more) ≡ before
kept_more before now more kept =
    let rest = drop (length before) now in
    let split : now ++ more ≡ before ++ (rest ++ more) =
    ap (λ n. n ++ more) (sym (take-append-drop (length before) now) ∙ ap (λ b. b ++ rest) kept) ∙ append_assoc before rest more in
    ap (take (length before)) split ∙ take-append_seam before (rest ++ more)

module _ (limit : ℕ) (on_stream : Bool) (item : ItemText) (values : List (List ℕ)) (bytes_before starts_before : List ℕ) where
  pub filling_starts : IsPacked limit on_stream bytes_before starts_before → IsFilling limit on_stream item values values bytes_before starts_before bytes_before starts_before 0 0
  filling_starts packed = record {
    packed = packed;
    to_come = refl;
    counted = omega arith;
    dropped = omega arith;
    bytes_kept = ap (take (length bytes_before)) (sym (append-nil bytes_before)) ∙ take-append_seam bytes_before [];
    starts_kept = ap (take (length starts_before)) (sym (append-nil starts_before)) ∙ take-append_seam starts_before [];
  }

  -- how many values of a run are left out
  out : (room : ℕ) (front behind : List (List ℕ)) (used left : ℕ) → room + length (line_of item []) ≡ limit → IsRun room front behind used left
      → length (left_out_values limit item (front ++ behind)) ≡ left + length (left_out_values limit item behind)
  out room front behind used left split run =
      let all = left_out-short limit room item split (front ++ behind) in
      let rest = left_out-short limit room item split behind in
      let both = ap length (filter-append (λ value. nat_lt (length value) room) front behind) in
      omega (arith, all, rest, both, run.dropped, length-append front behind, length-append (short_values room front) (short_values room behind))

  -- a run without values is the rest
  pub filling_skips : (room : ℕ) (front behind : List (List ℕ)) (bytes starts : List ℕ) (lines left_out used left : ℕ) → room + length (line_of item []) ≡ limit
      → IsFilling limit on_stream item values (front ++ behind) bytes_before starts_before bytes starts lines left_out → IsRun room front behind used left → used ≡ 0
      → IsFilling limit on_stream item values behind bytes_before starts_before bytes starts lines (left_out + left)
  filling_skips room front behind bytes starts lines left_out used left split filling run none =
      let nothing = lines_of-none limit room item split front behind used left run none in
      let no_more : lines_of limit item behind ≡ [] = ap (lines_of limit item) (run.none none) in
      record {
        packed = filling.packed;
        to_come = ap (filled limit (payloads_at on_stream starts bytes)) (no_more ∙ sym nothing) ∙ filling.to_come;
        counted = omega (arith, filling.counted, ap length nothing, ap length no_more);
        dropped = omega (arith, filling.dropped, out room front behind used left split run);
        bytes_kept = filling.bytes_kept;
        starts_kept = filling.starts_kept;
      }

  -- the line of a run
  pub filling_fills : (room : ℕ) (front behind : List (List ℕ)) (bytes starts bytes_after starts_after : List ℕ) (lines left_out used left : ℕ) → room + length (line_of item []) ≡ limit
      → IsFilling limit on_stream item values (front ++ behind) bytes_before starts_before bytes starts lines left_out → IsRun room front behind used left → 0 < used
      → bytes_after ≡ (bytes ++ before_line on_stream (last_takes limit (payloads_at on_stream starts bytes) (length (line_of item (short_values room front))))) ++ line_of item (short_values room front)
      → starts_after ≡ starts ++ start_of_line (last_takes limit (payloads_at on_stream starts bytes) (length (line_of item (short_values room front)))) bytes
      → IsFilling limit on_stream item values behind bytes_before starts_before bytes_after starts_after (lines + 1) (left_out + left)
  filling_fills room front behind bytes starts bytes_after starts_after lines left_out used left split filling run some bytes_are starts_are =
      let line = line_of item (short_values room front) in
      let takes = last_takes limit (payloads_at on_stream starts bytes) (length line) in
      let next = lines_of-run limit room item split front behind used left run some in
      let short : length line ≤ limit = omega (arith, length-line_of item (short_values room front), run.weight, run.fits) in
      let now = placed limit on_stream bytes starts bytes_after starts_after line filling.packed takes refl short bytes_are starts_are in
      record {
        packed = now.packed;
        to_come = ap (λ payloads. filled limit payloads (lines_of limit item behind)) now.payloads
            ∙ ap (filled limit (payloads_at on_stream starts bytes)) (sym next) ∙ filling.to_come;
        counted = omega (arith, filling.counted, ap length next);
        dropped = omega (arith, filling.dropped, out room front behind used left split run);
        bytes_kept = ap (take (length bytes_before)) (bytes_are ∙ append_assoc bytes (before_line on_stream takes) line) ∙ kept_more bytes_before bytes (before_line on_stream takes ++ line) filling.bytes_kept;
        starts_kept = ap (take (length starts_before)) starts_are ∙ kept_more starts_before starts (start_of_line takes bytes) filling.starts_kept;
      }

  -- with room for all lines there is room for the next one
  pub room_for_line : (room : ℕ) (front behind : List (List ℕ)) (bytes starts : List ℕ) (lines left_out used left bytes_room starts_room : ℕ) → room + length (line_of item []) ≡ limit
      → IsFilling limit on_stream item values (front ++ behind) bytes_before starts_before bytes starts lines left_out → IsRun room front behind used left → 0 < used
      → stored_length on_stream (filled limit (payloads_at on_stream starts_before bytes_before) (lines_of limit item values)) ≤ bytes_room
      → length (filled limit (payloads_at on_stream starts_before bytes_before) (lines_of limit item values)) ≤ starts_room
      → (length bytes + length (before_line on_stream (last_takes limit (payloads_at on_stream starts bytes) (length (line_of item (short_values room front))))) + length (line_of item (short_values room front)) ≤ bytes_room)
      × (length starts + length (start_of_line (last_takes limit (payloads_at on_stream starts bytes) (length (line_of item (short_values room front)))) bytes) ≤ starts_room)
  room_for_line room front behind bytes starts lines left_out used left bytes_room starts_room split filling run some bytes_enough starts_enough =
      let line = line_of item (short_values room front) in
      let payloads = payloads_at on_stream starts bytes in
      let next = lines_of-run limit room item split front behind used left run some in
      let end : filled limit (with_line limit payloads line) (lines_of limit item behind) ≡ filled limit (payloads_at on_stream starts_before bytes_before) (lines_of limit item values) =
      ap (filled limit payloads) (sym next) ∙ filling.to_come in
      let more = grow limit on_stream (with_line limit payloads line) (lines_of limit item behind) in
      let stored = stored_length-with_line limit on_stream payloads line in
      let count = length-with_line limit payloads line bytes in
      let size = length-packed limit on_stream bytes starts filling.packed in
      let places = length-starts limit on_stream bytes starts filling.packed in (
        omega (arith, more.stored, stored, size, ap (stored_length on_stream) end),
        omega (arith, more.no_fewer, count, places, ap length end),
      )

-- ---- the lengths that are noted beside them

pub record IsNoting (limit : ℕ) (item : ItemText) (values rest : List (List ℕ)) (lengths_before lengths : List (Snapshot ℕ)) : Type 0 where
  pub to_note : noted lengths ++ map length (lines_of limit item rest) ≡ noted lengths_before ++ map length (lines_of limit item values)
  pub kept : take (length lengths_before) lengths ≡ lengths_before

module _ (limit : ℕ) (item : ItemText) (values : List (List ℕ)) (lengths_before : List (Snapshot ℕ)) where
  pub noting_starts : IsNoting limit item values values lengths_before lengths_before
  noting_starts = record { to_note = refl; kept = ap (take (length lengths_before)) (sym (append-nil lengths_before)) ∙ take-append_seam lengths_before [] }

  -- a run without values is the rest
  pub noting_skips : (room : ℕ) (front behind : List (List ℕ)) (lengths : List (Snapshot ℕ)) (used left : ℕ) → room + length (line_of item []) ≡ limit
      → IsNoting limit item values (front ++ behind) lengths_before lengths → IsRun room front behind used left → used ≡ 0
      → IsNoting limit item values behind lengths_before lengths
  noting_skips room front behind lengths used left split noting run none =
      let nothing = lines_of-none limit room item split front behind used left run none in
      let no_more : lines_of limit item behind ≡ [] = ap (lines_of limit item) (run.none none) in
      record { to_note = ap (λ lines. noted lengths ++ map length lines) (no_more ∙ sym nothing) ∙ noting.to_note; kept = noting.kept }

  -- the length of the line of a run
  pub noting_fills : (room : ℕ) (front behind : List (List ℕ)) (lengths lengths_after : List (Snapshot ℕ)) (n used left : ℕ) → room + length (line_of item []) ≡ limit
      → IsNoting limit item values (front ++ behind) lengths_before lengths → IsRun room front behind used left → 0 < used
      → n ≡ length (line_of item (short_values room front)) → noted lengths_after ≡ noted lengths ++ n ∷ [] → take (length lengths) lengths_after ≡ lengths
      → IsNoting limit item values behind lengths_before lengths_after
  noting_fills room front behind lengths lengths_after n used left split noting run some size now kept =
      let next = lines_of-run limit room item split front behind used left run some in
      let rest = map length (lines_of limit item behind) in
      let more = drop (length lengths) lengths_after in
      let longer : lengths_after ≡ lengths ++ more = sym (take-append-drop (length lengths) lengths_after) ∙ ap (λ l. l ++ more) kept in
      record {
        to_note = ap (λ l. l ++ rest) now ∙ append_assoc (noted lengths) (n ∷ []) rest ∙ ap (λ m. noted lengths ++ m ∷ rest) size
            ∙ ap (λ lines. noted lengths ++ map length lines) (sym next) ∙ noting.to_note;
        kept = ap (take (length lengths_before)) longer ∙ kept_more lengths_before lengths more noting.kept;
      }

  -- with room for all lengths there is room for the next one
  pub room_for_note : (room : ℕ) (front behind : List (List ℕ)) (lengths : List (Snapshot ℕ)) (used left notes : ℕ) → room + length (line_of item []) ≡ limit
      → IsNoting limit item values (front ++ behind) lengths_before lengths → IsRun room front behind used left → 0 < used
      → length lengths_before + length (lines_of limit item values) ≤ notes → length lengths < notes
  room_for_note room front behind lengths used left notes split noting run some enough =
      let next = ap length (lines_of-run limit room item split front behind used left run some) in
      let lines = lines_of limit item (front ++ behind) in
      let all = lines_of limit item values in
      omega (
        arith,
        next,
        enough,
        ap length noting.to_note,
        length-append (noted lengths) (map length lines),
        length-append (noted lengths_before) (map length all),
        length-map lengths (λ (l : Snapshot ℕ). l.value),
        length-map lengths_before (λ (l : Snapshot ℕ). l.value),
        length-map lines (λ (l : List ℕ). length l),
        length-map all (λ (l : List ℕ). length l),
      )
