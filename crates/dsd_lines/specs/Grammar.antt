-- The lines that a receiver reads: DogStatsD datagrams, protocol 1.3, `NAME:VALUE[:VALUE ..]|TYPE[|@RATE][|#TAGS][|TSECONDS]`
-- without the newline. Of the types this project reads `c`, `g`, `h` and `d`, and no line with other fields. In the dialect of
-- StatsD (its README, "Metric types") a gauge's value with a sign in front moves the gauge, and `ms` is a timer in milliseconds.
use Rattle.std.specs.Prelude.{◌≡◌, ℕ, ◌+◌, ◌-◌, ◌*◌, ◌^◌, ◌<◌, ◌≤◌, ◌==◌, ◌||◌, Bool, false, List, [], ◌∷◌, ◌++◌, map, length, ℤ, pos, neg_ℤ, int_div, codes, decimal, IsUtf8, All, Option, None, Some, if◌then◌else◌}
use Rattle.std.specs.List.{AllZip, join_with_byte}
use Rattle.std.specs.Str.Parse.{AllDigits, digits_value}
use Rattle.metrics_core.specs.Characters.{newline, comma, colon, full_stop, minus_sign}
use Rattle.metrics_core.specs.Numbers.{one}
use Rattle.metrics_core.specs.Keys.{LabelText, KeyText}
use Rattle.dsd_writer.specs.Lines.{tag_text}
use Rattle.dsd_lines.specs.declared.dialects.Dialect.{Dialect}
use Rattle.dsd_lines.specs.declared.dialects.Dialect.TheVariants.{DogStatsd, Statsd}

-- ---- what a line says

-- what a value of StatsD does to its gauge, in billionths: the gauge is set to it, or moves by it
pub data StepText : Type 0 where
  SetTo : ℤ → StepText
  MoveBy : ℤ → StepText

-- the values of a line, in order: increments of a counter, or in billionths values of a gauge, its steps, samples of a histogram,
-- of a distribution, or of a timer, in seconds
pub data PointsText : Type 0 where
  Counter : List ℕ → PointsText
  Gauge : List ℤ → PointsText
  Steps : List StepText → PointsText
  Histogram : List ℤ → PointsText
  Distribution : List ℤ → PointsText
  Timer : List ℤ → PointsText

-- name and tags, values, and where there are any the sample rate in billionths and the timestamp in seconds
pub record LineText : Type 0 where
  pub key : KeyText
  pub points : PointsText
  pub rate : Option ℕ
  pub timestamp : Option ℕ

-- ---- numbers

-- NAT: the digits of a number in 64 bits, without a zero at the front
abbrev pub IsNumber : List ℕ → ℕ → Type 0
IsNumber text n = (text ≡ decimal n) × (n < 2 ^ 64)

-- a point and digits, or nothing
abbrev pub point_and : List ℕ → List ℕ
point_and [] = []
point_and (d ∷ digits) = full_stop ∷ d ∷ digits

-- a sign, or nothing
abbrev pub sign : Bool → List ℕ
sign negative = if negative then minus_sign ∷ [] else []

abbrev pub signed : Bool → ℕ → ℤ
signed negative n = if negative then neg_ℤ (pos n) else pos n

-- a whole part and the digits behind the point, in billionths
abbrev pub billionths : ℕ → List ℕ → ℕ
billionths whole digits = whole * one + digits_value 10 digits * 10 ^ (9 - length digits)

-- the greatest number of billionths that a value of this sign has in 64 bits
abbrev pub greatest : Bool → ℕ
greatest negative = if negative then 2 ^ 63 else 2 ^ 63 - 1

-- a sign spelled so, a NAT, and optionally a point and one to nine digits; the value in billionths fits 64 bits
pub record IsSigned (spelling : Bool → List ℕ) (text : List ℕ) (value : ℤ) : Type 0 where
  pub negative : Bool
  pub whole : ℕ
  pub digits : List ℕ
  pub few : length digits ≤ 9
  pub each_digit : AllDigits 10 digits
  pub spelled : text ≡ spelling negative ++ decimal whole ++ point_and digits
  pub meant : value ≡ signed negative (billionths whole digits)
  pub fits : billionths whole digits ≤ greatest negative

-- DEC: the sign is `-`, or there is none
abbrev pub IsDecimal : List ℕ → ℤ → Type 0
IsDecimal text value = IsSigned sign text value

abbrev pub plus_sign : ℕ
plus_sign = 43

-- the sign of a move, which stands there always
abbrev pub move_sign : Bool → List ℕ
move_sign negative = if negative then minus_sign ∷ [] else plus_sign ∷ []

-- STEP: a DEC without sign, to which the gauge is set, or a move
abbrev pub IsStep : List ℕ → StepText → Type 0
IsStep text (SetTo value) = (spelled : IsDecimal text value) × (spelled.negative ≡ false)
IsStep text (MoveBy value) = IsSigned move_sign text value

-- a DEC of milliseconds is so many seconds, billionths of a second rounded toward zero
abbrev pub seconds : ℤ → ℤ
seconds millis = int_div millis (pos 1000)

abbrev pub IsMillis : List ℕ → ℤ → Type 0
IsMillis text value = (millis : ℤ) × IsDecimal text millis × (value ≡ seconds millis)

-- VALUE, of which each dialect has its own for gauges, and StatsD alone timers: a NAT for a counter, a STEP for a gauge of StatsD,
-- otherwise a DEC
abbrev pub AreSpelled : Dialect → PointsText → List (List ℕ) → Type 0
AreSpelled dialect (Counter counts) values = AllZip IsNumber values counts
AreSpelled dialect (Gauge numbers) values = (dialect ≡ DogStatsd) × AllZip IsDecimal values numbers
AreSpelled dialect (Steps steps) values = (dialect ≡ Statsd) × AllZip IsStep values steps
AreSpelled dialect (Histogram numbers) values = AllZip IsDecimal values numbers
AreSpelled dialect (Distribution numbers) values = AllZip IsDecimal values numbers
AreSpelled dialect (Timer numbers) values = (dialect ≡ Statsd) × AllZip IsMillis values numbers

-- RATE: a DEC of at least 0.000001 and at most 1, so that a value stands for at most 1,000,000 samples
pub record IsRate (text : List ℕ) (rate : ℕ) : Type 0 where
  pub spelled : IsDecimal text (pos rate)
  pub least : 1000 ≤ rate
  pub most : rate ≤ one

-- ---- names and tags

abbrev pub bar : ℕ
bar = 124

-- the characters that a name can't have, those that the key of a tag can't have, and those that its value can't have
abbrev pub ends_name : ℕ → Bool
ends_name c = c == colon || c == bar || c == newline

abbrev pub ends_key : ℕ → Bool
ends_key c = c == comma || c == colon || c == bar || c == newline

abbrev pub ends_value : ℕ → Bool
ends_value c = c == comma || c == bar || c == newline

-- a text that isn't empty, is UTF-8 and has none of these characters. All that stands in a line outside such texts is ASCII, so
-- each line is UTF-8.
pub record IsPlain (ends : ℕ → Bool) (text : List ℕ) : Type 0 where
  pub some : 0 < length text
  pub utf8 : IsUtf8 text
  pub none : All (λ c. ends c ≡ false) text

-- the value of a tag; the empty one stands for a tag without value
abbrev pub IsTagValue : List ℕ → Type 0
IsTagValue [] = Unit {0}
IsTagValue (c ∷ value) = IsPlain ends_value (c ∷ value)

abbrev pub IsTag : LabelText → Type 0
IsTag tag = IsPlain ends_key tag.key × IsTagValue tag.value

-- a name and tags that a line can spell
pub record IsClean (key : KeyText) : Type 0 where
  pub name : IsPlain ends_name key.name
  pub tags : All IsTag key.labels

-- ---- lines

-- TYPE
abbrev pub type_text : PointsText → List ℕ
type_text (Counter counts) = codes "c"
type_text (Gauge numbers) = codes "g"
type_text (Steps steps) = codes "g"
type_text (Histogram numbers) = codes "h"
type_text (Distribution numbers) = codes "d"
type_text (Timer numbers) = codes "ms"

-- the part of a line with its rate, with its tags, and with its timestamp; no part where there is none
abbrev pub AreRateParts : List (List ℕ) → Option ℕ → Type 0
AreRateParts parts None = parts ≡ []
AreRateParts parts (Some rate) = (text : List ℕ) × (parts ≡ (codes "@" ++ text) ∷ []) × IsRate text rate

abbrev pub tags_parts : List LabelText → List (List ℕ)
tags_parts [] = []
tags_parts (tag ∷ tags) = (codes "#" ++ join_with_byte comma (map tag_text (tag ∷ tags))) ∷ []

abbrev pub AreTimeParts : List (List ℕ) → Option ℕ → Type 0
AreTimeParts parts None = parts ≡ []
AreTimeParts parts (Some seconds) = (text : List ℕ) × (parts ≡ (codes "T" ++ text) ∷ []) × IsNumber text seconds

-- A line of a dialect: the name and the values with a colon between each two, the type, and the other parts that there are, with a bar between
-- each two of these.
pub record IsLineIn (dialect : Dialect) (bytes : List ℕ) (said : LineText) : Type 0 where
  pub values : List (List ℕ)
  pub rate : List (List ℕ)
  pub timestamp : List (List ℕ)
  pub spelled : bytes ≡ join_with_byte bar (join_with_byte colon (said.key.name ∷ values) ∷ type_text said.points ∷ (rate ++ tags_parts said.key.labels ++ timestamp))
  pub some : 0 < length values
  pub clean : IsClean said.key
  pub are_values : AreSpelled dialect said.points values
  pub is_rate : AreRateParts rate said.rate
  pub is_timestamp : AreTimeParts timestamp said.timestamp

-- a line of DogStatsD
abbrev pub IsLine : List ℕ → LineText → Type 0
IsLine bytes said = IsLineIn DogStatsd bytes said
