-- What a write of lines does to a buffer of payloads, and to the lengths of lines that are noted beside it.
use Rattle.std.specs.Prelude.{◌≡◌, ℕ, ◌+◌, ◌≤◌, Bool, List, ◌++◌, length, map, Vec, Result, IsOk, OnOk, OnErr, vec_len, vec_capacity}
use Rattle.std.specs.declared.snapshot.Snapshot.{Snapshot}
use Rattle.dsd_writer.specs.Packing.{IsPacked, filled, noted, payloads_at, stored_length}

-- The payloads are filled with the lines, whose lengths are noted; or nothing has changed. Room that was there is still there, and
-- where it is enough no memory is taken.
pub record Appends {T E A B C : Type 0} (result : Result T E) (limit : ℕ) (on_stream : Bool) (bytes bytes_after : Vec ℕ A) (starts starts_after : Vec ℕ B) (lengths lengths_after : Vec (Snapshot ℕ) C) (lines : List (List ℕ)) : Type 0 where
  pub packed : IsPacked limit on_stream bytes_after.items starts_after.items
  pub ok : OnOk result (payloads_at on_stream starts_after.items bytes_after.items ≡ filled limit (payloads_at on_stream starts.items bytes.items) lines)
  pub err : OnErr result (payloads_at on_stream starts_after.items bytes_after.items ≡ payloads_at on_stream starts.items bytes.items)
  pub lengths_now : OnOk result (noted lengths_after.items ≡ noted lengths.items ++ map length lines)
  pub lengths_kept : OnErr result (noted lengths_after.items ≡ noted lengths.items)
  pub bytes_capacity : vec_capacity bytes ≤ vec_capacity bytes_after
  pub starts_capacity : vec_capacity starts ≤ vec_capacity starts_after
  pub lengths_capacity : vec_capacity lengths ≤ vec_capacity lengths_after
  pub no_memory : stored_length on_stream (filled limit (payloads_at on_stream starts.items bytes.items) lines) ≤ vec_capacity bytes
      → length (filled limit (payloads_at on_stream starts.items bytes.items) lines) ≤ vec_capacity starts
      → vec_len lengths + length lines ≤ vec_capacity lengths → IsOk result
