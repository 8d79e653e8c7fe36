-- A write over the buffer that a writer keeps.
use Rattle.std.proofs.Common.{◌≡◌, ℕ, ◌<◌, Bool, false, cond, List, [], ◌++◌, length, refl, sym, ap, ◌∙◌, subst}
use Rattle.std.specs.Prelude.{Result, Ok, Err, IfOk, OnOk, OnErr, Vec, vec_capacity}
use Rattle.std.specs.declared.snapshot.Snapshot.{Snapshot}
use Rattle.metrics_core.specs.Keys.{LabelText}
use Rattle.dsd_writer.specs.Appending.{Appends}
use Rattle.dsd_writer.specs.Cuts.{joined}
use Rattle.dsd_writer.specs.Lines.{ItemText, lines_of, payloads_of}
use Rattle.dsd_writer.specs.Packing.{noted, payloads_at}
use Rattle.dsd_writer.specs.Results.{Written, written_of}
use Rattle.dsd_writer.specs.Writers.{AreStored, IsKept, IsWithinSpare, SameSettings, Writes, WriterText, lines_in, lines_kept, room_in}
use Rattle.dsd_writer.proofs.Best.{lines_within}
use Rattle.dsd_writer.proofs.LineRooms.{AreSome, five_bytes_each}
use Rattle.dsd_writer.proofs.Spare.{has_spare, room_anew}
use Rattle.dsd_writer.proofs.Stored.{IsAnew, anew, kept_anew, stored_more}

-- what a write leaves: the lines with its own behind them, and after an error the lines as they were
record AreWritten {T E : Type 0} (result : Result T E) (limit : ℕ) (on_stream : Bool) (bytes starts : List ℕ) (lengths : List (Snapshot ℕ)) (before lines : List (List ℕ)) : Type 0 where
  stored : AreStored limit (noted lengths) (payloads_at on_stream starts bytes)
  ok : OnOk result (lines_in (noted lengths) (joined (payloads_at on_stream starts bytes)) ≡ before ++ lines)
  err : OnErr result (lines_in (noted lengths) (joined (payloads_at on_stream starts bytes)) ≡ before)

written_after : {T E A B C : Type 0} (result : Result T E) (limit : ℕ) (on_stream : Bool) (item : ItemText) (values : List (List ℕ)) (bytes bytes_after : Vec ℕ A) (starts starts_after : Vec ℕ B) (lengths lengths_after : Vec (Snapshot ℕ) C) (before : List (List ℕ))
    → IsAnew limit on_stream bytes.items starts.items lengths.items before
    → Appends result limit on_stream bytes bytes_after starts starts_after lengths lengths_after (lines_of limit item values)
    → AreWritten result limit on_stream bytes_after.items starts_after.items lengths_after.items before (lines_of limit item values)
written_after (Ok value) limit on_stream item values bytes bytes_after starts starts_after lengths lengths_after before is appends =
    let lines = lines_of limit item values in
    let more = stored_more limit (noted lengths.items) (noted lengths_after.items) (payloads_at on_stream starts.items bytes.items) (payloads_at on_stream starts_after.items bytes_after.items) lines
    is.stored (lines_within limit item values) appends.ok appends.lengths_now in
    record { stored = more.stored; ok = more.lines_are ∙ ap (λ old. old ++ lines) is.lines_are; err = tt }
written_after (Err refused) limit on_stream item values bytes bytes_after starts starts_after lengths lengths_after before is appends =
    let P : List ℕ → List (List ℕ) → Type 0 = λ l p. AreStored limit l p in
    let payloads_after = payloads_at on_stream starts_after.items bytes_after.items in
    record {
      stored = subst (λ (l : List ℕ). P l payloads_after) (sym appends.lengths_kept) (subst (λ (p : List (List ℕ)). P (noted lengths.items) p) (sym appends.err) is.stored);
      ok = tt;
      err = (λ j. lines_in (appends.lengths_kept j) (joined (appends.err j))) ∙ is.lines_are;
    }

-- what contracts see of a writer with these settings and this buffer
abbrev pub kept_writer : {A B C : Type 0} → ℕ → Bool → List LabelText → Bool → Vec ℕ A → Vec ℕ B → Vec (Snapshot ℕ) C → WriterText
kept_writer limit on_stream global_tags handed_out bytes starts lengths = record {
  limit = limit;
  on_stream = on_stream;
  global_tags = global_tags;
  lines = lines_kept handed_out on_stream bytes.items starts.items (noted lengths.items);
  spare = room_in handed_out bytes starts lengths;
}

-- the buffer that a write begins with, anew where its payloads were handed out
pub record BeginsAnew {A B C : Type 0} (handed_out : Bool) (bytes bytes_after : Vec ℕ A) (starts starts_after : Vec ℕ B) (lengths lengths_after : Vec (Snapshot ℕ) C) : Type 0 where
  pub bytes_are : bytes_after.items ≡ cond handed_out [] bytes.items
  pub starts_are : starts_after.items ≡ cond handed_out [] starts.items
  pub lengths_are : lengths_after.items ≡ cond handed_out [] lengths.items
  pub bytes_capacity : vec_capacity bytes_after ≡ vec_capacity bytes
  pub starts_capacity : vec_capacity starts_after ≡ vec_capacity starts
  pub lengths_capacity : vec_capacity lengths_after ≡ vec_capacity lengths

module _ {E A B C : Type 0} (result : Result Written E) (limit : ℕ) (on_stream handed_out : Bool) (global_tags : List LabelText)
    (bytes bytes_now bytes_after : Vec ℕ A) (starts starts_now starts_after : Vec ℕ B) (lengths lengths_now lengths_after : Vec (Snapshot ℕ) C) where
  pub record IsWritten (handed_out_after : Bool) (item : ItemText) (values : List (List ℕ)) : Type 0 where
    pub writes : Writes result (kept_writer limit on_stream global_tags handed_out bytes starts lengths) (kept_writer limit on_stream global_tags handed_out_after bytes_after starts_after lengths_after) item values
    pub kept : IsKept limit on_stream handed_out_after bytes_after.items starts_after.items (noted lengths_after.items)

  pub written_in : (handed_out_after : Bool) (item same : ItemText) (values : List (List ℕ)) → IsKept limit on_stream handed_out bytes.items starts.items (noted lengths.items)
      → BeginsAnew handed_out bytes bytes_now starts starts_now lengths lengths_now → handed_out_after ≡ false
      → Appends result limit on_stream bytes_now bytes_after starts_now starts_after lengths_now lengths_after (lines_of limit item values)
      → IfOk result (λ written. written ≡ written_of limit item values) → item ≡ same → 0 < length same.type → AreSome values
      → IsWritten handed_out_after same values
  written_in handed_out_after item same values kept begin done appends counted is type some =
      let old = kept_writer limit on_stream global_tags handed_out bytes starts lengths in
      let new = kept_writer limit on_stream global_tags false bytes_after starts_after lengths_after in
      let begun = anew limit on_stream handed_out bytes.items bytes_now.items starts.items starts_now.items lengths.items lengths_now.items kept begin.bytes_are begin.starts_are begin.lengths_are in
      let written = written_after result limit on_stream item values bytes_now bytes_after starts_now starts_after lengths_now lengths_after old.lines begun appends in
      let five = five_bytes_each limit item values (subst (λ (i : ItemText). 0 < length i.type) (sym is) type) some in
      let payloads_are = ap (payloads_of limit) (sym begun.lines_are) ∙ begun.stored.packed in
      let spare = has_spare result limit on_stream bytes_now bytes_after starts_now starts_after lengths_now lengths_after old.lines (lines_of limit item values) begun.packed payloads_are five appends in
      let room = room_anew handed_out bytes bytes_now starts starts_now lengths lengths_now begin.bytes_are begin.starts_are begin.lengths_are begin.bytes_capacity begin.starts_capacity begin.lengths_capacity in
      let settings : SameSettings old new = record { same_limit = refl; same_start = refl; same_tags = refl } in
      let within : IsWithinSpare result old new (lines_of limit item values) =
      subst (λ (n : ℕ). IsWithinSpare result (record old { spare = n }) new (lines_of limit item values)) (sym room) (record { no_memory = spare.no_memory; spare = spare.spare }) in
      let whole : Writes result old new item values =
      record { settings = settings; lines = written.ok; written = counted; err = written.err; spare = within } in
      subst (λ (b : Bool). IsWritten b same values) (sym done)
      (record { writes = subst (λ (i : ItemText). Writes result old new i values) is whole; kept = kept_anew limit on_stream bytes_after.items starts_after.items (noted lengths_after.items) appends.packed written.stored })
