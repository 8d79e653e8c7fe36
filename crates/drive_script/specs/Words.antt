-- The words of a script line (this project's format): numbers, decimals, texts and labels.
use Rattle.std.specs.Prelude.{◌≡◌, ℕ, ◌+◌, ◌-◌, ◌*◌, ◌^◌, ◌<◌, ◌≤◌, Bool, false, List, [], ◌∷◌, ◌++◌, map, fold, length, ℤ, pos, neg_ℤ, codes, decimal, IsUtf8, All, Option, None, Some, if◌then◌else◌}
use Rattle.std.specs.List.{AllZip, join_with_byte}
use Rattle.std.specs.Str.Parse.{AllDigits, digits_value}
use Rattle.metrics_core.specs.Characters.{space, full_stop, minus_sign}
use Rattle.metrics_core.specs.Numbers.{one}
use Rattle.metrics_core.specs.Keys.{LabelText, KeyText}
use Rattle.metrics_core.specs.Kinds.{KindMask, mask_has}
use Rattle.metrics_core.specs.Units.{unit_text}
use Rattle.metrics_core.specs.declared.units.Unit.{Unit as UnitOf}
use Rattle.metrics_core.specs.declared.kinds.MetricKind.{MetricKind}
use Rattle.metrics_core.specs.declared.kinds.MetricKind.TheVariants as kinds
use Rattle.metrics_registry.specs.Masks.{no_kinds, only, union_of}
use Rattle.prom_format.specs.Matchers.{MatcherText, Full, Prefix, Suffix}
use Rattle.prom_format.specs.Printed.{escaped_label_value}

-- words, one space between each two
abbrev pub spaced : List (List ℕ) → List ℕ
spaced words = join_with_byte space words

-- NAT is `decimal n`: the digits of a number, without a zero at the front; each place has a bound on n

-- a point and digits, or nothing
abbrev pub point_and : List ℕ → List ℕ
point_and [] = []
point_and (d ∷ digits) = full_stop ∷ d ∷ digits

-- a sign, or nothing
abbrev pub sign : Bool → List ℕ
sign negative = if negative then minus_sign ∷ [] else []

abbrev pub signed : Bool → ℕ → ℤ
signed negative n = if negative then neg_ℤ (pos n) else pos n

-- a whole part and the digits behind the point, in billionths
abbrev pub billionths : ℕ → List ℕ → ℕ
billionths whole digits = whole * one + digits_value 10 digits * 10 ^ (9 - length digits)

-- the greatest number of billionths that a value of this sign has in 64 bits
abbrev pub greatest : Bool → ℕ
greatest negative = if negative then 2 ^ 63 else 2 ^ 63 - 1

-- DEC: an optional `-`, a NAT, and optionally a point and one to nine digits; the value is in billionths and fits 64 bits
pub record IsDec (word : List ℕ) (value : ℤ) : Type 0 where
  pub negative : Bool
  pub whole : ℕ
  pub digits : List ℕ
  pub few : length digits ≤ 9
  pub each_digit : AllDigits 10 digits
  pub spelled : word ≡ sign negative ++ decimal whole ++ point_and digits
  pub meant : value ≡ signed negative (billionths whole digits)
  pub fits : billionths whole digits ≤ greatest negative

-- DECs, one for each value
abbrev pub AreDecs : List (List ℕ) → List ℤ → Type 0
AreDecs words values = AllZip IsDec words values

-- TEXT: the text in quotes, with the escapes `\\`, `\"` and `\n`. A text is UTF-8, and all that stands in a line
-- outside texts is ASCII, so each line is UTF-8.
abbrev pub quoted : List ℕ → List ℕ
quoted text = codes "\"" ++ escaped_label_value text ++ codes "\""

-- a label as one word: TEXT=TEXT
abbrev pub label_word : LabelText → List ℕ
label_word label = quoted label.key ++ codes "=" ++ quoted label.value

abbrev pub IsLabelUtf8 : LabelText → Type 0
IsLabelUtf8 label = IsUtf8 label.key × IsUtf8 label.value

-- the texts of a key are UTF-8
abbrev pub IsKeyUtf8 : KeyText → Type 0
IsKeyUtf8 key = IsUtf8 key.name × All IsLabelUtf8 key.labels

-- FORM: how a matcher takes its text
abbrev pub form_word : MatcherText → List ℕ
form_word (Full _) = codes "full"
form_word (Prefix _) = codes "prefix"
form_word (Suffix _) = codes "suffix"

-- UNIT: the name of a unit, or `-` where there is none
abbrev pub unit_word : Option UnitOf → List ℕ
unit_word None = codes "-"
unit_word (Some unit) = unit_text unit

-- the letter of a kind
abbrev pub kind_letter : MetricKind → ℕ
kind_letter kinds.Counter = 99
kind_letter kinds.Gauge = 103
kind_letter kinds.Histogram = 104

-- the set with one more kind
abbrev pub with_kind : KindMask → MetricKind → KindMask
with_kind mask kind = union_of mask (only kind)

-- each of these kinds is new: it is not in the set, and is none of those before it
abbrev pub AreNewKinds : KindMask → List MetricKind → Type 0
AreNewKinds mask [] = Unit {0}
AreNewKinds mask (kind ∷ kinds) = (mask_has mask kind ≡ false) × AreNewKinds (with_kind mask kind) kinds

-- MASK: the letters of one to three different kinds
pub record IsMask (word : List ℕ) (mask : KindMask) : Type 0 where
  pub kinds : List MetricKind
  pub some : 0 < length kinds
  pub different : AreNewKinds no_kinds kinds
  pub spelled : word ≡ map kind_letter kinds
  pub meant : mask ≡ fold with_kind no_kinds kinds

-- the word of a mode of aggregation, and of a kind of histogram lines
abbrev pub mode_word : Bool → List ℕ
mode_word aggressive = if aggressive then codes "aggressive" else codes "conservative"

abbrev pub histogram_word : Bool → List ℕ
histogram_word histograms = if histograms then codes "h" else codes "d"
