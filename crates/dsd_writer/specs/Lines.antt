-- DogStatsD datagrams, protocol 1.3: a line is `NAME:VALUE[:VALUE ..]|TYPE[|@RATE][|#TAGS][|TSECONDS]` and a newline, and a
-- payload is such lines, one after another. Nothing is escaped.
use Rattle.std.specs.Prelude.{ℕ, Bool, not, nat_le, List, [], ◌∷◌, ◌++◌, map, length, ℤ, Option, Some, None, codes, decimal, flat_map, filter, if◌then◌else◌}
use Rattle.std.specs.List.{join_by}
use Rattle.std.specs.Int.{w32, to_le_bytes}
use Rattle.metrics_core.specs.Characters.{line, colon, full_stop}
use Rattle.metrics_core.specs.Numbers.{dogstatsd_number}
use Rattle.metrics_core.specs.Keys.{LabelText}
use Rattle.metrics_core.specs.declared.numbers.Fixed.{Fixed as FixedOf}
use Rattle.dsd_writer.specs.Cuts.{joined, full_cut, IsBestCut}

-- what lines of one series say beside their values: the name with the prefix, the type (`c`, `g`, `h` or `d`), and where
-- there are any a sample rate in billionths, tags and a timestamp in seconds
pub record ItemText : Type 0 where
  pub name : List ℕ
  pub type : List ℕ
  pub rate : Option ℤ
  pub tags : List LabelText
  pub timestamp : Option ℕ

-- a name behind its prefix
abbrev pub prefixed : Option (List ℕ) → List ℕ → List ℕ
prefixed None name = name
prefixed (Some prefix) name = prefix ++ full_stop ∷ name

-- a tag is KEY:VALUE, or KEY where the value is empty
abbrev pub value_behind : List ℕ → List ℕ
value_behind [] = []
value_behind (c ∷ value) = colon ∷ c ∷ value

abbrev pub tag_text : LabelText → List ℕ
tag_text tag = tag.key ++ value_behind tag.value

abbrev pub tags_text : List LabelText → List ℕ
tags_text [] = []
tags_text (tag ∷ tags) = codes "|#" ++ join_by tag_text (codes ",") (tag ∷ tags)

abbrev pub rate_text : Option ℤ → List ℕ
rate_text None = []
rate_text (Some rate) = codes "|@" ++ dogstatsd_number rate

abbrev pub timestamp_text : Option ℕ → List ℕ
timestamp_text None = []
timestamp_text (Some seconds) = codes "|T" ++ decimal seconds

-- tags behind something that isn't a tag, and behind a tag
abbrev pub tags_behind : List ℕ → List LabelText → List ℕ
tags_behind before [] = []
tags_behind before (tag ∷ tags) = before ++ tag_text tag ++ tags_behind (codes ",") tags

-- what stands before a tag behind these ones
abbrev pub before_next : List ℕ → List LabelText → List ℕ
before_next before [] = before
before_next before (tag ∷ tags) = codes ","

-- the texts of values in billionths
abbrev pub spelled_values : List FixedOf → List (List ℕ)
spelled_values values = map (λ value. dogstatsd_number value.0) values

-- the texts of values, each behind a colon
abbrev pub values_text : List (List ℕ) → List ℕ
values_text values = flat_map (λ value. colon ∷ value) values

-- what stands behind the values
abbrev pub ending_of : ItemText → List ℕ
ending_of item = line (codes "|" ++ item.type ++ rate_text item.rate ++ tags_text item.tags ++ timestamp_text item.timestamp)

-- the line of an item with these values
abbrev pub line_of : ItemText → List (List ℕ) → List ℕ
line_of item values = item.name ++ values_text values ++ ending_of item

-- whether the line with these values is within the limit
abbrev pub line_fits : ℕ → ItemText → List (List ℕ) → Bool
line_fits limit item values = nat_le (length (line_of item values)) limit

-- a value is left out where the line with this value alone passes the limit
abbrev pub is_left_out : ℕ → ItemText → List ℕ → Bool
is_left_out limit item value = not (line_fits limit item (value ∷ []))

abbrev pub kept_values : ℕ → ItemText → List (List ℕ) → List (List ℕ)
kept_values limit item values = filter (λ value. line_fits limit item (value ∷ [])) values

abbrev pub left_out_values : ℕ → ItemText → List (List ℕ) → List (List ℕ)
left_out_values limit item values = filter (is_left_out limit item) values

-- the lines of an item: the full cut of its kept values
abbrev pub lines_of : ℕ → ItemText → List (List ℕ) → List (List ℕ)
lines_of limit item values = map (line_of item) (full_cut (line_fits limit item) (kept_values limit item values))

-- the lines of an item are a full cut of its kept values, and no other cut within the limit has fewer
abbrev pub IsBestLines : ℕ → ItemText → List (List ℕ) → Type 0
IsBestLines limit item values = IsBestCut (line_fits limit item) (kept_values limit item values) (full_cut (line_fits limit item) (kept_values limit item values))

-- whether lines together are within the limit of a payload
abbrev pub payload_fits : ℕ → List (List ℕ) → Bool
payload_fits limit lines = nat_le (length (joined lines)) limit

-- the payloads of lines: their full cut
abbrev pub payloads_of : ℕ → List (List ℕ) → List (List ℕ)
payloads_of limit lines = map joined (full_cut (payload_fits limit) lines)

-- on a stream a payload is led by its length in four bytes, little-endian, which doesn't count for the limit
abbrev pub framed : Bool → List ℕ → List ℕ
framed on_stream payload = if on_stream then to_le_bytes w32 (length payload) ++ payload else payload
