-- How many bytes further lines add to payloads, and that room for them is enough.
use Rattle.std.proofs.Common.{◌≡◌, ℕ, ◌+◌, ◌-◌, ◌*◌, ◌≤◌, Bool, true, false, cond, List, [], ◌∷◌, ◌++◌, length, map, refl, sym, ap, ◌∙◌, arith, length-append}
use Rattle.std.specs.Prelude.{Result, Ok, Err, IsOk, OnOk, Vec, vec_capacity}
use Rattle.std.specs.declared.snapshot.Snapshot.{Snapshot}
use Rattle.std.proofs.lemmas.List.{length-map}
use Rattle.dsd_writer.specs.Appending.{Appends}
use Rattle.dsd_writer.specs.Cuts.{joined}
use Rattle.dsd_writer.specs.Lines.{framed, payloads_of}
use Rattle.dsd_writer.specs.Packing.{IsPacked, filled, framed_payloads, noted, payloads_at, prefix_length, stored_length}
use Rattle.dsd_writer.specs.Writers.{room_in, stored_bytes}
use Rattle.dsd_writer.proofs.Filled.{lines_add}
use Rattle.dsd_writer.proofs.Pieces.{length-packed, length-starts}
use Rattle.dsd_writer.proofs.Stored.{filled-of}

length-framed : (on_stream : Bool) (payload : List ℕ) → length (framed on_stream payload) ≡ prefix_length on_stream + length payload
length-framed true payload = omega arith
length-framed false payload = omega arith

stored_length-is : (on_stream : Bool) (payloads : List (List ℕ)) → length (joined (framed_payloads on_stream payloads)) ≡ stored_length on_stream payloads
stored_length-is on_stream [] = omega arith
stored_length-is on_stream (payload ∷ payloads) =
    omega (arith, length-append (framed on_stream payload) (joined (framed_payloads on_stream payloads)), length-framed on_stream payload, stored_length-is on_stream payloads)

-- what lines add, by the payloads that are filled with them
pub added-is : (on_stream : Bool) (limit : ℕ) (lines more : List (List ℕ))
    → stored_bytes on_stream limit (lines ++ more) - stored_bytes on_stream limit lines ≡ stored_length on_stream (filled limit (payloads_of limit lines) more) - stored_length on_stream (payloads_of limit lines)
added-is on_stream limit lines more =
    let after : stored_bytes on_stream limit (lines ++ more) ≡ stored_length on_stream (filled limit (payloads_of limit lines) more) =
    stored_length-is on_stream (payloads_of limit (lines ++ more)) ∙ ap (stored_length on_stream) (sym (filled-of limit lines more)) in
    let before = stored_length-is on_stream (payloads_of limit lines) in
    omega (arith, after, before)

-- lines add at least their own bytes
pub added_at_least : (on_stream : Bool) (limit : ℕ) (lines more : List (List ℕ)) → length (joined more) ≤ stored_bytes on_stream limit (lines ++ more) - stored_bytes on_stream limit lines
added_at_least on_stream limit lines more =
    let add = lines_add limit on_stream (payloads_of limit lines) more in
    omega (arith, added-is on_stream limit lines more, add.least)

-- and at most what stands before a payload for each line besides
pub added_at_most : (on_stream : Bool) (limit : ℕ) (lines more : List (List ℕ))
    → stored_bytes on_stream limit (lines ++ more) - stored_bytes on_stream limit lines ≤ length (joined more) + prefix_length on_stream * length more
added_at_most on_stream limit lines more =
    let add = lines_add limit on_stream (payloads_of limit lines) more in
    omega (arith, added-is on_stream limit lines more, add.most)

-- the room in a buffer that is begun anew where its payloads were handed out
pub room_anew : {A B C : Type 0} (handed_out : Bool) (bytes bytes_after : Vec ℕ A) (starts starts_after : Vec ℕ B) (lengths lengths_after : Vec (Snapshot ℕ) C)
    → bytes_after.items ≡ cond handed_out [] bytes.items → starts_after.items ≡ cond handed_out [] starts.items → lengths_after.items ≡ cond handed_out [] lengths.items
    → vec_capacity bytes_after ≡ vec_capacity bytes → vec_capacity starts_after ≡ vec_capacity starts → vec_capacity lengths_after ≡ vec_capacity lengths
    → room_in handed_out bytes starts lengths ≡ room_in false bytes_after starts_after lengths_after
room_anew true bytes bytes_after starts starts_after lengths lengths_after bytes_are starts_are lengths_are bytes_room starts_room lengths_room =
    omega (arith, ap length bytes_are, ap length starts_are, ap length lengths_are)
room_anew false bytes bytes_after starts starts_after lengths lengths_after bytes_are starts_are lengths_are bytes_room starts_room lengths_room =
    omega (arith, ap length bytes_are, ap length starts_are, ap length lengths_are)

-- handed out, the buffer has room for all that it can hold
pub room_emptied : {A B C : Type 0} (bytes sealed : Vec ℕ A) (starts : Vec ℕ B) (lengths : Vec (Snapshot ℕ) C) → vec_capacity sealed ≡ vec_capacity bytes
    → room_in false bytes starts lengths ≤ room_in true sealed starts lengths
room_emptied bytes sealed starts lengths same = omega (arith, same)

module _ {A B C T E : Type 0} (result : Result T E) (limit : ℕ) (on_stream : Bool) (bytes bytes_after : Vec ℕ A) (starts starts_after : Vec ℕ B) (lengths lengths_after : Vec (Snapshot ℕ) C) (lines more : List (List ℕ)) where
  pub record HasSpare : Type 0 where
    pub no_memory : stored_bytes on_stream limit (lines ++ more) - stored_bytes on_stream limit lines ≤ room_in false bytes starts lengths → IsOk result
    pub spare : OnOk result (room_in false bytes starts lengths ≤ room_in false bytes_after starts_after lengths_after + (stored_bytes on_stream limit (lines ++ more) - stored_bytes on_stream limit lines))

pub has_spare : {A B C T E : Type 0} (result : Result T E) (limit : ℕ) (on_stream : Bool) (bytes bytes_after : Vec ℕ A) (starts starts_after : Vec ℕ B) (lengths lengths_after : Vec (Snapshot ℕ) C) (lines more : List (List ℕ))
    → IsPacked limit on_stream bytes.items starts.items → payloads_of limit lines ≡ payloads_at on_stream starts.items bytes.items → 5 * length more ≤ length (joined more)
    → Appends result limit on_stream bytes bytes_after starts starts_after lengths lengths_after more
    → HasSpare result limit on_stream bytes bytes_after starts starts_after lengths lengths_after lines more
has_spare (Ok value) limit on_stream bytes bytes_after starts starts_after lengths lengths_after lines more packed payloads_are five appends =
    let payloads = payloads_at on_stream starts.items bytes.items in
    let add = lines_add limit on_stream payloads more in
    let added = added-is on_stream limit lines more ∙ ap (λ before. stored_length on_stream (filled limit before more) - stored_length on_stream before) payloads_are in
    record {
      no_memory = λ _. refl;
      spare = omega (
        arith,
        added,
        five,
        add.least,
        add.one_each,
        add.no_fewer,
        length-packed limit on_stream bytes.items starts.items packed,
        length-starts limit on_stream bytes.items starts.items packed,
        length-packed limit on_stream bytes_after.items starts_after.items appends.packed,
        length-starts limit on_stream bytes_after.items starts_after.items appends.packed,
        ap (stored_length on_stream) appends.ok,
        ap length appends.ok,
        ap length appends.lengths_now,
        length-append (noted lengths.items) (map length more),
        length-map more (λ (line : List ℕ). length line),
        length-map lengths.items (λ (l : Snapshot ℕ). l.value),
        length-map lengths_after.items (λ (l : Snapshot ℕ). l.value),
        appends.bytes_capacity,
        appends.starts_capacity,
        appends.lengths_capacity,
      );
    }
has_spare (Err refused) limit on_stream bytes bytes_after starts starts_after lengths lengths_after lines more packed payloads_are five appends =
    let payloads = payloads_at on_stream starts.items bytes.items in
    let add = lines_add limit on_stream payloads more in
    let added = added-is on_stream limit lines more ∙ ap (λ before. stored_length on_stream (filled limit before more) - stored_length on_stream before) payloads_are in
    let size = length-packed limit on_stream bytes.items starts.items packed in
    let places = length-starts limit on_stream bytes.items starts.items packed in
    record {
      no_memory = λ within. appends.no_memory
          (omega (arith, added, within, add.least, size))
          (omega (arith, added, within, five, add.least, add.one_each, places))
          (omega (arith, added, within, five, add.least));
      spare = tt;
    }
