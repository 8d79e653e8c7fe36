-- What a write of one line does to a buffer of payloads.
use Rattle.std.proofs.Common.{◌≡◌, ℕ, ◌+◌, ◌<◌, ◌≤◌, Bool, true, false, cond, List, [], ◌∷◌, ◌++◌, length, refl, sym, ap, ◌∙◌, arith, subst}
use Rattle.std.specs.Prelude.{Result, Ok, Err, IsErr, Vec, vec_len, vec_capacity, map}
use Rattle.std.specs.declared.snapshot.Snapshot.{Snapshot}
use Rattle.std.proofs.lemmas.List.{append-nil}
use Rattle.dsd_writer.specs.Appending.{Appends}
use Rattle.dsd_writer.specs.Cuts.{full_cut}
use Rattle.dsd_writer.specs.Lines.{ItemText, line_fits, line_of, lines_of}
use Rattle.dsd_writer.specs.Packing.{IsPacked, before_line, filled, last_takes, noted, payloads_at, start_of_line, stored_length, with_line}
use Rattle.dsd_writer.proofs.Filled.{length-with_line, stored_length-with_line}
use Rattle.dsd_writer.proofs.Pieces.{length-packed, length-starts, placed}

-- ---- the lines of one value

pub one_line : (limit : ℕ) (item : ItemText) (value : List ℕ) → line_fits limit item (value ∷ []) ≡ true → lines_of limit item (value ∷ []) ≡ line_of item (value ∷ []) ∷ []
one_line limit item value fits = ap (λ b. map (line_of item) (full_cut (line_fits limit item) (cond b (value ∷ []) []))) fits

pub no_line : (limit : ℕ) (item : ItemText) (value : List ℕ) → line_fits limit item (value ∷ []) ≡ false → lines_of limit item (value ∷ []) ≡ []
no_line limit item value past = ap (λ b. map (line_of item) (full_cut (line_fits limit item) (cond b (value ∷ []) []))) past

-- ---- a write

module _ {T E A B C : Type 0} (limit : ℕ) (on_stream : Bool) (bytes bytes_after : Vec ℕ A) (starts starts_after : Vec ℕ B) (lengths lengths_after : Vec (Snapshot ℕ) C) (packed : IsPacked limit on_stream bytes.items starts.items) where
  pub appends_line : (value : T) (line : List ℕ) (lines : List (List ℕ)) → lines ≡ line ∷ [] → length line ≤ limit
      → bytes_after.items ≡ (bytes.items ++ before_line on_stream (last_takes limit (payloads_at on_stream starts.items bytes.items) (length line))) ++ line
      → starts_after.items ≡ starts.items ++ start_of_line (last_takes limit (payloads_at on_stream starts.items bytes.items) (length line)) bytes.items
      → noted lengths_after.items ≡ noted lengths.items ++ length line ∷ []
      → vec_capacity bytes ≤ vec_capacity bytes_after → vec_capacity starts ≤ vec_capacity starts_after → vec_capacity lengths ≤ vec_capacity lengths_after
      → Appends {E = E} (Ok value) limit on_stream bytes bytes_after starts starts_after lengths lengths_after lines
  appends_line value line lines lines_are short bytes_are starts_are lengths_are bytes_room starts_room lengths_room =
      let takes = last_takes limit (payloads_at on_stream starts.items bytes.items) (length line) in
      let now = placed limit on_stream bytes.items starts.items bytes_after.items starts_after.items line packed takes refl short bytes_are starts_are in
      record {
        packed = now.packed;
        ok = now.payloads ∙ ap (filled limit (payloads_at on_stream starts.items bytes.items)) (sym lines_are);
        err = tt;
        lengths_now = lengths_are ∙ ap (λ lines. noted lengths.items ++ map length lines) (sym lines_are);
        lengths_kept = tt;
        bytes_capacity = bytes_room;
        starts_capacity = starts_room;
        lengths_capacity = lengths_room;
        no_memory = λ _ _ _. refl;
      }

  -- refused, where room was wanted
  pub appends_refused : (result : Result T E) (line : List ℕ) (lines : List (List ℕ)) → IsErr result → lines ≡ line ∷ [] → bytes_after.items ≡ bytes.items → starts_after.items ≡ starts.items → lengths_after.items ≡ lengths.items
      → vec_capacity bytes ≤ vec_capacity bytes_after → vec_capacity starts ≤ vec_capacity starts_after → vec_capacity lengths ≤ vec_capacity lengths_after
      → (vec_len bytes + length (before_line on_stream (last_takes limit (payloads_at on_stream starts.items bytes.items) (length line))) + length line ≤ vec_capacity bytes
      → vec_len starts + length (start_of_line (last_takes limit (payloads_at on_stream starts.items bytes.items) (length line)) bytes.items) ≤ vec_capacity starts → vec_len lengths < vec_capacity lengths → ⊥)
      → Appends result limit on_stream bytes bytes_after starts starts_after lengths lengths_after lines
  appends_refused (Ok value) line lines is lines_are bytes_are starts_are lengths_are bytes_room starts_room lengths_room wanted = cc
  appends_refused (Err refused) line lines is lines_are bytes_are starts_are lengths_are bytes_room starts_room lengths_room wanted =
      let P : List ℕ → List ℕ → Type 0 = λ b s. IsPacked limit on_stream b s in
      let payloads = payloads_at on_stream starts.items bytes.items in
      let stored = stored_length-with_line limit on_stream payloads line in
      let count = length-with_line limit payloads line bytes.items in
      let size = length-packed limit on_stream bytes.items starts.items packed in
      let places = length-starts limit on_stream bytes.items starts.items packed in
      let all : filled limit payloads lines ≡ with_line limit payloads line = ap (filled limit payloads) lines_are in
      record {
        packed = subst (λ (b : List ℕ). P b starts_after.items) (sym bytes_are) (subst (λ (s : List ℕ). P bytes.items s) (sym starts_are) packed);
        ok = tt;
        err = λ j. payloads_at on_stream (starts_are j) (bytes_are j);
        lengths_now = tt;
        lengths_kept = ap noted lengths_are;
        bytes_capacity = bytes_room;
        starts_capacity = starts_room;
        lengths_capacity = lengths_room;
        no_memory = λ bytes_enough starts_enough lengths_enough.
            absurd (wanted (omega (arith, stored, size, bytes_enough, ap (stored_length on_stream) all)) (omega (arith, count, places, starts_enough, ap length all)) (omega (arith, lengths_enough, ap length lines_are)));
      }

-- nothing is written
pub appends_nothing : {T E A B C : Type 0} (value : T) (limit : ℕ) (on_stream : Bool) (bytes : Vec ℕ A) (starts : Vec ℕ B) (lengths : Vec (Snapshot ℕ) C) (lines : List (List ℕ)) → IsPacked limit on_stream bytes.items starts.items → lines ≡ []
    → Appends {E = E} (Ok value) limit on_stream bytes bytes starts starts lengths lengths lines
appends_nothing value limit on_stream bytes starts lengths lines packed none = record {
  packed = packed;
  ok = ap (filled limit (payloads_at on_stream starts.items bytes.items)) (sym none);
  err = tt;
  lengths_now = sym (append-nil (noted lengths.items)) ∙ ap (λ lines. noted lengths.items ++ map length lines) (sym none);
  lengths_kept = tt;
  bytes_capacity = omega arith;
  starts_capacity = omega arith;
  lengths_capacity = omega arith;
  no_memory = λ _ _ _. refl;
}
