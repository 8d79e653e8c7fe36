-- What is read of a line, part by part. That a line is read as what it says, and as nothing else, is proved.
use Rattle.std.specs.Prelude.{ℕ, ◌+◌, ◌-◌, ◌*◌, ◌^◌, ◌&&◌, Bool, true, false, nat_le, nat_lt, List, [], ◌∷◌, length, ℤ, pos, Option, Some, None, option_map, codes, decimal, bytes_eq, not, ◌==◌, if◌then◌else◌}
use Rattle.std.specs.Char.{is_ascii_digit}
use Rattle.std.specs.List.{list_all, list_any, slice_split, position_or_len, before_first, after_first}
use Rattle.std.specs.Str.{is_utf8}
use Rattle.std.specs.Str.Parse.{digits_value}
use Rattle.metrics_core.specs.Characters.{newline, comma, colon, full_stop, minus_sign}
use Rattle.metrics_core.specs.Keys.{LabelText}
use Rattle.metrics_core.specs.Numbers.{one}
use Rattle.dsd_lines.specs.declared.dialects.Dialect.{Dialect}
use Rattle.dsd_lines.specs.declared.dialects.Dialect.TheVariants.{DogStatsd, Statsd}
use Rattle.dsd_lines.specs.Grammar.{PointsText, Counter, Gauge, Steps, Histogram, Distribution, Timer, StepText, SetTo, MoveBy, LineText, bar, plus_sign, signed, greatest, seconds}

infixl 10 ◌>>=◌
abbrev pub ◌>>=◌ : {A B : Type 0} → Option A → (A → Option B) → Option B
None >>= f = None
(Some x) >>= f = f x

-- ---- pieces

abbrev pub is : ℕ → ℕ → Bool
is stop c = c == stop

-- the pieces of some bytes between two of a character
abbrev pub pieces : ℕ → List ℕ → List (List ℕ)
pieces stop bytes = slice_split (is stop) bytes

-- the bytes behind the first of a character, if it stands there
abbrev pub behind_first : ℕ → List ℕ → Option (List ℕ)
behind_first stop bytes =
    if nat_lt (position_or_len (is stop) bytes) (length bytes) then Some (after_first (is stop) bytes) else None

-- each of some texts is read
abbrev pub each : {A : Type 0} → (List ℕ → Option A) → List (List ℕ) → Option (List A)
each read [] = Some []
each read (text ∷ texts) = do
  first ← read text
  others ← each read texts
  Some (first ∷ others)

-- ---- numbers

-- the number that the text is the decimal form of
abbrev pub number_of : List ℕ → Option ℕ
number_of text =
    if bytes_eq (decimal (digits_value 10 text)) text && nat_lt (digits_value 10 text) (2 ^ 64) then Some (digits_value 10 text) else None

-- how many billionths these digits behind a point are, if they are one to nine
abbrev pub fraction_of : List ℕ → Option ℕ
fraction_of digits =
    if list_all is_ascii_digit digits && nat_le 1 (length digits) && nat_le (length digits) 9 then Some (digits_value 10 digits * 10 ^ (9 - length digits)) else None

-- the fraction behind a point, or none where there is no point
abbrev pub fraction_behind : Option (List ℕ) → Option ℕ
fraction_behind None = Some 0
fraction_behind (Some digits) = fraction_of digits

-- the value of this sign, if it fits
abbrev pub value_of : Bool → ℕ → Option ℤ
value_of negative n = if nat_le n (greatest negative) then Some (signed negative n) else None

-- a value behind its sign
unfoldable pub signed_of : Bool → List ℕ → Option ℤ
signed_of negative text = do
  whole ← number_of (before_first (is full_stop) text)
  fraction ← fraction_behind (behind_first full_stop text)
  value_of negative (whole * one + fraction)

abbrev pub decimal_of : List ℕ → Option ℤ
decimal_of [] = None
decimal_of (c ∷ text) = if c == minus_sign then signed_of true text else signed_of false (c ∷ text)

-- a value of a gauge of StatsD
abbrev pub step_of : List ℕ → Option StepText
step_of [] = None
step_of (c ∷ text) =
    if c == minus_sign then option_map MoveBy (signed_of true text)
    else if c == plus_sign then option_map MoveBy (signed_of false text)
    else option_map SetTo (signed_of false (c ∷ text))

-- milliseconds, in seconds
abbrev pub millis_of : List ℕ → Option ℤ
millis_of text = option_map seconds (decimal_of text)

-- a rate in billionths
abbrev pub rate_within : ℤ → Option ℕ
rate_within (pos n) = if nat_le 1000 n && nat_le n one then Some n else None
rate_within _ = None

unfoldable pub rate_of : List ℕ → Option ℕ
rate_of text = decimal_of text >>= rate_within

-- ---- names and tags

-- the text itself, if it isn't empty, is UTF-8 and has no newline
abbrev pub plain_of : List ℕ → Option (List ℕ)
plain_of text =
    if nat_lt 0 (length text) && is_utf8 text && not (list_any (is newline) text) then Some text else None

abbrev pub tag_value_of : Option (List ℕ) → Option (List ℕ)
tag_value_of None = Some []
tag_value_of (Some text) = plain_of text

unfoldable pub tag_of : List ℕ → Option LabelText
tag_of text = do
  key ← plain_of (before_first (is colon) text)
  value ← tag_value_of (behind_first colon text)
  Some (record { key = key; value = value })

-- ---- values

abbrev pub some_of : {A : Type 0} → (List ℕ → Option A) → List (List ℕ) → Option (List A)
some_of read [] = None
some_of read (text ∷ texts) = each read (text ∷ texts)

-- values in billionths, by the type of their line
unfoldable pub typed : List ℕ → List ℤ → Option PointsText
typed type numbers =
    if bytes_eq type (codes "g") then Some (Gauge numbers)
    else if bytes_eq type (codes "h") then Some (Histogram numbers)
    else if bytes_eq type (codes "d") then Some (Distribution numbers)
    else None

abbrev pub typed_values : List ℕ → List (List ℕ) → Option PointsText
typed_values type values = some_of decimal_of values >>= typed type

-- the values of a line that is no counter's, by its type, in each dialect
unfoldable pub others_of : Dialect → List ℕ → List (List ℕ) → Option PointsText
others_of DogStatsd type values = typed_values type values
others_of Statsd type values =
    if bytes_eq type (codes "g") then (some_of step_of values >>= λ steps. Some (Steps steps))
    else if bytes_eq type (codes "ms") then (some_of millis_of values >>= λ numbers. Some (Timer numbers))
    else typed_values type values

-- the values of a line, by its type
unfoldable pub points_of : Dialect → List ℕ → List (List ℕ) → Option PointsText
points_of dialect type values =
    if bytes_eq type (codes "c") then (some_of number_of values >>= λ counts. Some (Counter counts))
    else others_of dialect type values

-- ---- parts

-- the text of the first part behind this character, and the other parts
abbrev pub led : ℕ → List (List ℕ) → Option (List ℕ × List (List ℕ))
led c [] = None
led c ([] ∷ parts) = None
led c ((first ∷ text) ∷ parts) = if first == c then Some (text, parts) else None

-- what may be led by a character, and the parts behind it
abbrev pub led_by : {A : Type 0} → Option (List ℕ × List (List ℕ)) → (List ℕ → Option A) → List (List ℕ) → Option (Option A × List (List ℕ))
led_by None read parts = Some (None, parts)
led_by (Some found) read parts = do
  said ← read found.0
  Some (Some said, found.1)

abbrev pub optional : {A : Type 0} → ℕ → (List ℕ → Option A) → List (List ℕ) → Option (Option A × List (List ℕ))
optional c read parts = led_by (led c parts) read parts

abbrev pub tags_of : List ℕ → Option (List LabelText)
tags_of text = each tag_of (pieces comma text)

abbrev pub or_none : Option (List LabelText) → List LabelText
or_none None = []
or_none (Some tags) = tags

-- the tags that a line has, and the parts behind them
abbrev pub tags_at : List (List ℕ) → Option (List LabelText × List (List ℕ))
tags_at parts = do
  tags ← optional 35 tags_of parts
  Some (or_none tags.0, tags.1)

-- no part is left
abbrev pub ended : {A : Type 0} → A → List (List ℕ) → Option A
ended a [] = Some a
ended a (part ∷ parts) = None

-- the line of a name and values, behind which these parts stand
unfoldable pub line_behind : List ℕ → PointsText → List (List ℕ) → Option LineText
line_behind name points parts = do
  rate ← optional 64 rate_of parts
  tags ← tags_at rate.1
  timestamp ← optional 84 number_of tags.1
  ended (record {
    key = record { name = name; labels = tags.0 };
    points = points;
    rate = rate.0;
    timestamp = timestamp.0;
  }) timestamp.1

unfoldable pub line_of_head : Dialect → List (List ℕ) → List ℕ → List (List ℕ) → Option LineText
line_of_head dialect [] type parts = None
line_of_head dialect (text ∷ values) type parts = do
  name ← plain_of text
  points ← points_of dialect type values
  line_behind name points parts

abbrev pub line_of_parts : Dialect → List (List ℕ) → Option LineText
line_of_parts dialect [] = None
line_of_parts dialect (head ∷ []) = None
line_of_parts dialect (head ∷ type ∷ parts) = line_of_head dialect (pieces colon head) type parts

unfoldable pub line_at : Dialect → List ℕ → Option LineText
line_at dialect bytes = line_of_parts dialect (pieces bar bytes)
