-- What contracts see of a writer of payloads, and how its lines stand in its buffer.
use Rattle.std.specs.Prelude.{◌≡◌, ℕ, ◌+◌, ◌-◌, ◌*◌, ◌≤◌, min, Bool, false, ℤ, codes, List, [], ◌∷◌, ◌++◌, length, map, take, drop, Option, None, option_map, Vec, Result, IsOk, IfOk, OnOk, OnErr, vec_len, vec_capacity, if◌then◌else◌}
use Rattle.std.specs.declared.snapshot.Snapshot.{Snapshot}
use Rattle.metrics_core.specs.Keys.{LabelText, KeyText}
use Rattle.metrics_core.specs.Numbers.{dogstatsd_number}
use Rattle.metrics_core.specs.declared.numbers.Fixed.{Fixed as FixedOf}
use Rattle.dsd_writer.specs.Cuts.{AreWithin, joined}
use Rattle.dsd_writer.specs.Lines.{ItemText, prefixed, line_of, lines_of, payloads_of}
use Rattle.dsd_writer.specs.Packing.{IsPacked, framed_payloads, payloads_at}
use Rattle.dsd_writer.specs.Results.{Written, written_of}

-- the limit of a payload in bytes, whether each payload is led by its length, the tags that every line has, the lines so
-- far, and how many bytes can be written without memory
pub record WriterText : Type 0 where
  pub limit : ℕ
  pub on_stream : Bool
  pub global_tags : List LabelText
  pub lines : List (List ℕ)
  pub spare : ℕ

-- the limit, the length before a payload and the tags of every line are the same
pub record SameSettings (old new : WriterText) : Type 0 where
  pub same_limit : new.limit ≡ old.limit
  pub same_start : new.on_stream ≡ old.on_stream
  pub same_tags : new.global_tags ≡ old.global_tags

-- the lines were handed out as payloads, and no room is lost
pub record IsEmptied (old new : WriterText) : Type 0 where
  pub settings : SameSettings old new
  pub lines : new.lines ≡ []
  pub spare : old.spare ≤ new.spare

-- What the lines of a series say beside their values, without sample rate and timestamp: the tags of the series stand before
-- those that every line has.
abbrev pub item_of : List ℕ → Option (List ℕ) → KeyText → List LabelText → ItemText
item_of type prefix key global_tags = record {
  name = prefixed prefix key.name;
  type = type;
  rate = None;
  tags = key.labels ++ global_tags;
  timestamp = None;
}

-- the same in a writer
abbrev pub item_in : WriterText → List ℕ → Option (List ℕ) → KeyText → ItemText
item_in writer type prefix key = item_of type prefix key writer.global_tags

-- the same at a moment in seconds, where there is one
abbrev pub timed : Option ℕ → ItemText → ItemText
timed timestamp item = record item { timestamp = timestamp }

-- the same with a sample rate, where there is one
abbrev pub sampled : Option FixedOf → ItemText → ItemText
sampled rate item = record item { rate = option_map (λ rate. rate.0) rate }

-- the line of a gauge
pub record IsGaugeLine (line : List ℕ) : Type 0 where
  pub item : ItemText
  pub value : ℤ
  pub type : item.type ≡ codes "g"
  pub is : line ≡ line_of item (dogstatsd_number value ∷ [])

-- lists of these lengths, one after another at the front of the bytes
abbrev pub lines_in : List ℕ → List ℕ → List (List ℕ)
lines_in [] bytes = []
lines_in (n ∷ lengths) bytes = take n bytes ∷ lines_in lengths (drop n bytes)

-- the payloads are those of lines of these lengths, each within the limit
pub record AreStored (limit : ℕ) (lengths : List ℕ) (payloads : List (List ℕ)) : Type 0 where
  pub sizes : map length (lines_in lengths (joined payloads)) ≡ lengths
  pub packed : payloads_of limit (lines_in lengths (joined payloads)) ≡ payloads
  pub within : AreWithin limit (lines_in lengths (joined payloads))

-- Payloads that were handed out stay in the buffer until the next write, and their lines are the writer's no more.
abbrev pub lines_kept : Bool → Bool → List ℕ → List ℕ → List ℕ → List (List ℕ)
lines_kept handed_out on_stream bytes starts lengths =
    if handed_out then [] else lines_in lengths (joined (payloads_at on_stream starts bytes))

-- the buffer holds the payloads of the lines, unless they were handed out
pub record IsKept (limit : ℕ) (on_stream handed_out : Bool) (bytes starts lengths : List ℕ) : Type 0 where
  pub packed : handed_out ≡ false → IsPacked limit on_stream bytes starts
  pub stored : handed_out ≡ false → AreStored limit lengths (payloads_at on_stream starts bytes)
  pub short : limit ≤ 4294967295

-- room for so many bytes, and for a payload and a line of each five of them: no line is shorter
abbrev pub room_in : {A B C : Type 0} → Bool → Vec ℕ A → Vec ℕ B → Vec (Snapshot ℕ) C → ℕ
room_in handed_out bytes starts lengths =
    if handed_out then min (vec_capacity bytes) (5 * min (vec_capacity starts) (vec_capacity lengths))
    else min (vec_capacity bytes - vec_len bytes) (5 * min (vec_capacity starts - vec_len starts) (vec_capacity lengths - vec_len lengths))

-- how many bytes the payloads of lines take, the lengths before them included
abbrev pub stored_bytes : Bool → ℕ → List (List ℕ) → ℕ
stored_bytes on_stream limit lines = length (joined (framed_payloads on_stream (payloads_of limit lines)))

-- how many bytes further lines add
abbrev pub added_bytes : WriterText → List (List ℕ) → ℕ
added_bytes writer lines =
    stored_bytes writer.on_stream writer.limit (writer.lines ++ lines) - stored_bytes writer.on_stream writer.limit writer.lines

-- a write of these lines takes no memory
abbrev pub HasRoomFor : WriterText → List (List ℕ) → Type 0
HasRoomFor writer lines = added_bytes writer lines ≤ writer.spare

-- a write of lines takes no memory where what it adds is within the spare bytes, and uses up at most what it adds
pub record IsWithinSpare {T E : Type 0} (result : Result T E) (old new : WriterText) (lines : List (List ℕ)) : Type 0 where
  pub no_memory : added_bytes old lines ≤ old.spare → IsOk result
  pub spare : OnOk result (old.spare ≤ new.spare + added_bytes old lines)

-- A write of an item with these values: its lines stand behind those that were there, and the answer counts them and the values
-- that are left out; or the lines are as they were. Where there is room enough it takes no memory.
pub record Writes {E : Type 0} (result : Result Written E) (old new : WriterText) (item : ItemText) (values : List (List ℕ)) : Type 0 where
  pub settings : SameSettings old new
  pub lines : OnOk result (new.lines ≡ old.lines ++ lines_of old.limit item values)
  pub written : IfOk result (λ written. written ≡ written_of old.limit item values)
  pub err : OnErr result (new.lines ≡ old.lines)
  pub spare : IsWithinSpare result old new (lines_of old.limit item values)
