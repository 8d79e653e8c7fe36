-- What is read from the front of a line, from left to right. That a line is read as what it says, and as nothing
-- else, is proved.
use Rattle.std.specs.Prelude.{ℕ, zero, suc, ◌+◌, ◌-◌, ◌*◌, ◌^◌, ◌&&◌, ◌||◌, Bool, true, false, nat_le, nat_eq, List, [], ◌∷◌, ◌++◌, length, take, drop, ℤ, Option, Some, None, option_map, codes, decimal, bytes_eq, not, ◌==◌, if◌then◌else◌}
use Rattle.std.specs.Char.{is_ascii_digit}
use Rattle.std.specs.List.{starts_with, position_or_len}
use Rattle.std.specs.Str.{is_utf8}
use Rattle.std.specs.Str.Parse.{digits_value}
use Rattle.metrics_core.specs.Characters.{space, quote, backslash, newline}
use Rattle.metrics_core.specs.Keys.{LabelText}
use Rattle.metrics_core.specs.Kinds.{KindMask, mask_has}
use Rattle.metrics_core.specs.UnitLaws.{unit_of}
use Rattle.metrics_core.specs.declared.units.Unit.{Unit as UnitOf}
use Rattle.metrics_core.specs.Numbers.{one}
use Rattle.metrics_core.specs.declared.kinds.MetricKind.{MetricKind}
use Rattle.metrics_core.specs.declared.kinds.MetricKind.TheVariants as kinds
use Rattle.metrics_registry.specs.Masks.{only}
use Rattle.prom_format.specs.Matchers.{MatcherText, Full, Prefix, Suffix}
use Rattle.drive_script.specs.Words.{signed, greatest, with_kind}
use Rattle.drive_script.specs.Script as text
use Rattle.drive_script.specs.Script.{NativeLine, HeaderLine, SetupLine, Act, CallLine}
use Rattle.drive_script.specs.declared.headers.MatcherForm.{MatcherForm}
use Rattle.drive_script.specs.declared.headers.MatcherForm.TheVariants as forms
use Rattle.drive_script.specs.declared.lines.Verb.{Verb}
use Rattle.drive_script.specs.declared.lines.Verb.TheVariants as verbs

infixl 10 ◌>>=◌
abbrev pub ◌>>=◌ : {A B : Type 0} → Option A → (A → Option B) → Option B
None >>= f = None
(Some x) >>= f = f x

infixr 10 ◌or◌
abbrev pub ◌or◌ : {A : Type 0} → Option A → Option A → Option A
None or other = other
(Some x) or other = Some x

-- what is read at the front, and the bytes behind it
abbrev pub Reader : Type 0 → Type 0
Reader A = List ℕ → Option (A × List ℕ)

-- one thing, and then another, which may depend on it
abbrev pub both : {A B : Type 0} → Reader A → (A → Reader B) → Reader (A × B)
both first second bytes = do
  a ← first bytes
  b ← second a.0 a.1
  Some ((a.0, b.0), b.1)

-- what is read, seen as something else
abbrev pub seen : {A B : Type 0} → (A → B) → Reader A → Reader B
seen f read bytes = do
  a ← read bytes
  Some (f a.0, a.1)

-- the bytes behind a literal
unfoldable pub behind : List ℕ → List ℕ → Option (List ℕ)
behind literal bytes = if starts_with nat_eq bytes literal then Some (drop (length literal) bytes) else None

-- a literal, and then something
abbrev pub after : {A : Type 0} → List ℕ → Reader A → Reader A
after literal read bytes = behind literal bytes >>= read

-- a literal that stands for something
abbrev pub standing : {A : Type 0} → List ℕ → A → Reader A
standing literal a bytes = do
  rest ← behind literal bytes
  Some (a, rest)

-- the end of a line
abbrev pub end_at : List ℕ → Option (Unit {0})
end_at [] = Some tt
end_at (b ∷ bytes) = None

-- some things to the end, each behind a space; there are at most so many
abbrev pub some_spaced_at : {A : Type 0} → Reader A → ℕ → Reader (List A)
some_spaced_at read most [] = Some ([], [])
some_spaced_at read zero (b ∷ bytes) = None
some_spaced_at read (suc most) (b ∷ bytes) =
    after (codes " ") read (b ∷ bytes) >>= λ first. some_spaced_at read most first.1 >>= λ others. Some (first.0 ∷ others.0, others.1)

abbrev pub each_at : {A : Type 0} → Reader A → Reader (List A)
each_at read bytes = some_spaced_at read (length bytes) bytes

-- what is read to the end of a line
abbrev pub whole : {A : Type 0} → Reader A → List ℕ → Option A
whole read line = do
  a ← read line
  _ ← end_at a.1
  Some a.0

-- ---- numbers

-- how many digits stand at the front
abbrev pub digit_count : List ℕ → ℕ
digit_count bytes = position_or_len (λ b. not (is_ascii_digit b)) bytes

-- the number that these digits are the decimal form of, if it is at most `most`
abbrev pub number_of : ℕ → List ℕ → Option ℕ
number_of most digits =
    if bytes_eq (decimal (digits_value 10 digits)) digits && nat_le (digits_value 10 digits) most then Some (digits_value 10 digits) else None

-- a number of at most `most`, in all the digits at the front
unfoldable pub number_at : ℕ → Reader ℕ
number_at most bytes = do
  n ← number_of most (take (digit_count bytes) bytes)
  Some (n, drop (digit_count bytes) bytes)

-- a number from 1 to `most`
unfoldable pub positive_at : ℕ → Reader ℕ
positive_at most bytes = do
  n ← number_at most bytes
  if nat_le 1 n.0 then Some n else None

-- ---- decimals

-- how many billionths these digits behind a point are, if they are one to nine
abbrev pub fraction_of : List ℕ → Option ℕ
fraction_of digits =
    if nat_le 1 (length digits) && nat_le (length digits) 9 then Some (digits_value 10 digits * 10 ^ (9 - length digits)) else None

-- the fraction in all the digits behind a point, or none where there is no point
abbrev pub fraction_behind : Option (List ℕ) → Reader ℕ
fraction_behind None bytes = Some (0, bytes)
fraction_behind (Some digits) bytes = do
  n ← fraction_of (take (digit_count digits) digits)
  Some (n, drop (digit_count digits) digits)

unfoldable pub fraction_at : Reader ℕ
fraction_at bytes = fraction_behind (behind (codes ".") bytes) bytes

-- the value of this sign, if it fits
abbrev pub value_of : Bool → ℕ → Option ℤ
value_of negative n = if nat_le n (greatest negative) then Some (signed negative n) else None

-- a value behind its sign
abbrev pub signed_at : Bool → Reader ℤ
signed_at negative bytes = do
  parts ← both (number_at 9223372036) (λ _. fraction_at) bytes
  value ← value_of negative (parts.0.0 * one + parts.0.1)
  Some (value, parts.1)

abbrev pub sign_behind : Option (List ℕ) → Reader ℤ
sign_behind None bytes = signed_at false bytes
sign_behind (Some rest) bytes = signed_at true rest

-- a value
unfoldable pub fixed_at : Reader ℤ
fixed_at bytes = sign_behind (behind (codes "-") bytes) bytes

-- values to the end, each behind a space
unfoldable pub values_at : Reader (List ℤ)
values_at = each_at fixed_at

-- ---- texts

-- the character that an escape stands for
abbrev pub escaped_by : ℕ → Option ℕ
escaped_by c =
    if c == backslash then Some backslash else if c == quote then Some quote else if c == 110 then Some newline else None

abbrev pub escape_at : Reader ℕ
escape_at [] = None
escape_at (c ∷ bytes) = escaped_by c >>= λ d. Some (d, bytes)

-- the character that begins with a byte: the byte itself, or what the escape with the next one stands for
abbrev pub character_at : ℕ → Reader ℕ
character_at c bytes = if c == newline then None else if c == backslash then escape_at bytes else Some (c, bytes)

-- the characters before the next quote, and the bytes behind it; there are at most so many
abbrev pub some_characters_at : ℕ → Reader (List ℕ)
some_characters_at most [] = None
some_characters_at zero (c ∷ bytes) = None
some_characters_at (suc most) (c ∷ bytes) =
    if c == quote then Some ([], bytes)
    else character_at c bytes >>= λ first. some_characters_at most first.1 >>= λ others. Some (first.0 ∷ others.0, others.1)

abbrev pub characters_at : Reader (List ℕ)
characters_at bytes = some_characters_at (length bytes) bytes

-- how many bytes at the front stand for themselves in a text: they are no quote, no backslash and no newline
abbrev pub run_length : List ℕ → ℕ
run_length bytes = position_or_len (λ b. b == quote || b == backslash || b == newline) bytes

-- what was read before, and then something
abbrev pub and_then : {A : Type 0} → List A → Option (List A × List ℕ) → Option (List A × List ℕ)
and_then done None = None
and_then done (Some others) = Some (done ++ others.0, others.1)

-- characters that are UTF-8
abbrev pub text_of : List ℕ × List ℕ → Option (List ℕ × List ℕ)
text_of text = if is_utf8 text.0 then Some text else None

-- a text, behind what was read of it before
abbrev pub text_behind : List ℕ → Reader (List ℕ)
text_behind run bytes = and_then run (characters_at bytes) >>= text_of

-- a text in quotes
unfoldable pub text_at : Reader (List ℕ)
text_at bytes = after (codes "\"") characters_at bytes >>= text_of

-- ---- labels

-- a label
unfoldable pub label_at : Reader LabelText
label_at = seen (λ texts. record { key = texts.0; value = texts.1 }) (both text_at (λ _. after (codes "=") text_at))

-- labels to the end, each behind a space
unfoldable pub labels_at : Reader (List LabelText)
labels_at = each_at label_at

-- ---- matchers

unfoldable pub matcher_form_at : Reader MatcherForm
matcher_form_at bytes =
    standing (codes "full ") forms.Full bytes or standing (codes "prefix ") forms.Prefix bytes or standing (codes "suffix ") forms.Suffix bytes

abbrev pub matcher_of : MatcherForm → List ℕ → MatcherText
matcher_of forms.Full text = Full text
matcher_of forms.Prefix text = Prefix text
matcher_of forms.Suffix text = Suffix text

-- a matcher
unfoldable pub matcher_at : Reader MatcherText
matcher_at = seen (λ parts. matcher_of parts.0 parts.1) (both matcher_form_at (λ _. text_at))

-- ---- units

-- how many bytes stand before the next space
abbrev pub word_length : List ℕ → ℕ
word_length bytes = position_or_len (λ b. b == space) bytes

-- the unit of a name, or none for `-`
abbrev pub unit_named : List ℕ → Option (Option UnitOf)
unit_named word = if bytes_eq word (codes "-") then Some None else (unit_of word >>= λ unit. Some (Some unit))

-- a unit, or none, in the bytes before the next space
unfoldable pub unit_at : Reader (Option UnitOf)
unit_at bytes = do
  unit ← unit_named (take (word_length bytes) bytes)
  Some (unit, drop (word_length bytes) bytes)

-- ---- sets of kinds

abbrev pub kind_of_letter : ℕ → Option MetricKind
kind_of_letter c =
    if c == 99 then Some kinds.Counter else if c == 103 then Some kinds.Gauge else if c == 104 then Some kinds.Histogram else None

-- the kind of one letter
abbrev pub kind_at : Reader MetricKind
kind_at [] = None
kind_at (c ∷ bytes) = kind_of_letter c >>= λ kind. Some (kind, bytes)

-- what stands where there is none, or what is made of the one
abbrev pub where_one : {A B : Type 0} → Option A → B → (A → B) → B
where_one None other f = other
where_one (Some x) other f = f x

-- the kinds of all letters at the front, beside those of the set; none comes twice
abbrev pub more_kinds_at : KindMask → Reader KindMask
more_kinds_at mask [] = Some (mask, [])
more_kinds_at mask (c ∷ bytes) =
    where_one (kind_of_letter c) (Some (mask, c ∷ bytes)) (λ kind. if mask_has mask kind then None else more_kinds_at (with_kind mask kind) bytes)

-- a set of kinds, by their letters
unfoldable pub mask_at : Reader KindMask
mask_at bytes = do
  first ← kind_at bytes
  more_kinds_at (only first.0) first.1

-- ---- words

-- what a call line does, before its handle and its argument
unfoldable pub verb_at : Reader Verb
verb_at bytes =
    standing (codes " inc ") verbs.Inc bytes or standing (codes " abs ") verbs.Abs bytes or standing (codes " add ") verbs.Add bytes
    or standing (codes " sub ") verbs.Sub bytes or standing (codes " set ") verbs.Set bytes
    or standing (codes " rec ") verbs.Rec bytes or standing (codes " recn ") verbs.RecN bytes

-- the word of a kind, and the space behind it
unfoldable pub kind_word_at : Reader MetricKind
kind_word_at bytes =
    standing (codes "counter ") kinds.Counter bytes or standing (codes "gauge ") kinds.Gauge bytes
    or standing (codes "histogram ") kinds.Histogram bytes

-- the first words of a register line
unfoldable pub registered_kind_at : Reader MetricKind
registered_kind_at bytes = after (codes "register ") kind_word_at bytes

abbrev pub argument_at : Verb → Reader Act
argument_at verbs.Inc = seen text.Inc (number_at (2 ^ 64 - 1))
argument_at verbs.Abs = seen text.Abs (number_at (2 ^ 64 - 1))
argument_at verbs.Add = seen text.Add fixed_at
argument_at verbs.Sub = seen text.Sub fixed_at
argument_at verbs.Set = seen text.Set fixed_at
argument_at verbs.Rec = seen text.Rec fixed_at
argument_at verbs.RecN = seen (λ samples. text.RecN samples.0 samples.1) (both fixed_at (λ _. after (codes " ") (positive_at 1000000)))

-- ---- the forms of line

-- the values of a quantiles line
unfoldable pub quantiles_at : List ℕ → Option (List ℤ)
quantiles_at line = whole (after (codes "quantiles") values_at) line

-- the values of a buckets line
unfoldable pub buckets_at : List ℕ → Option (List ℤ)
buckets_at line = whole (after (codes "buckets") values_at) line

-- the matcher and the values of a buckets-for line
unfoldable pub buckets_for_at : List ℕ → Option (MatcherText × List ℤ)
buckets_for_at line = whole (after (codes "buckets-for ") (both matcher_at (λ _. values_at))) line

-- the factor, the greatest number of buckets and the threshold of a native-for line
abbrev pub native_numbers_at : Reader (ℤ × (ℕ × ℤ))
native_numbers_at = both fixed_at (λ _. after (codes " ") (both (number_at (2 ^ 32 - 1)) (λ _. after (codes " ") fixed_at)))

-- a native-for line
abbrev pub native_of_parts : MatcherText × (ℤ × (ℕ × ℤ)) → NativeLine
native_of_parts parts = record { matcher = parts.0; factor = parts.1.0; max_buckets = parts.1.1.0; threshold = parts.1.1.1 }

unfoldable pub native_for_at : List ℕ → Option NativeLine
native_for_at line = whole (after (codes "native-for ") (seen native_of_parts (both matcher_at (λ _. after (codes " ") native_numbers_at)))) line

-- the bucket count and the bucket duration of a summary line
unfoldable pub summary_at : List ℕ → Option (ℕ × ℕ)
summary_at line = whole (after (codes "summary ") (both (positive_at (2 ^ 32 - 1)) (λ _. after (codes " ") (number_at (2 ^ 64 - 1))))) line

-- the kinds and the timeout of an idle line
unfoldable pub idle_at : List ℕ → Option (KindMask × ℕ)
idle_at line = whole (after (codes "idle ") (both mask_at (λ _. after (codes " ") (number_at (2 ^ 64 - 1))))) line

-- a label behind the first word of a line
unfoldable pub label_line_at : List ℕ → List ℕ → Option LabelText
label_line_at word line = whole (after word (seen (λ texts. record { key = texts.0; value = texts.1 }) (both text_at (λ _. after (codes " ") text_at)))) line

-- the limit of a series-limit line
unfoldable pub series_limit_at : List ℕ → Option ℕ
series_limit_at line = whole (after (codes "series-limit ") (positive_at (2 ^ 32 - 1))) line

-- the limit of a dsd-limit line
unfoldable pub limit_at : List ℕ → Option ℕ
limit_at line = whole (after (codes "dsd-limit ") (number_at (2 ^ 64 - 1))) line

-- the prefix of a dsd-prefix line
unfoldable pub prefix_at : List ℕ → Option (List ℕ)
prefix_at line = whole (after (codes "dsd-prefix ") text_at) line

-- a header line whose bytes are always the same
abbrev pub switch_at : List ℕ → Option HeaderLine
switch_at line =
    if bytes_eq line (codes "naming on") then Some text.Naming
    else if bytes_eq line (codes "units on") then Some text.Units
    else if bytes_eq line (codes "dsd-mode conservative") then Some (text.Mode false)
    else if bytes_eq line (codes "dsd-mode aggressive") then Some (text.Mode true)
    else if bytes_eq line (codes "dsd-kind h") then Some (text.HistogramKind true)
    else if bytes_eq line (codes "dsd-kind d") then Some (text.HistogramKind false)
    else None

-- a header line of payloads that is not always the same
abbrev pub payload_line_at : List ℕ → Option HeaderLine
payload_line_at line =
    option_map text.GlobalTag (label_line_at (codes "dsd-global ") line) or option_map text.Limit (limit_at line)
    or option_map text.NamePrefix (prefix_at line)

-- the moment of a round line
unfoldable pub round_at : List ℕ → Option ℕ
round_at line = whole (after (codes "round ") (number_at (2 ^ 64 - 1))) line

-- a describe line
abbrev pub description_of_parts : MetricKind × (List ℕ × (Option UnitOf × List ℕ)) → SetupLine
description_of_parts parts = text.Describe parts.0 parts.1.0 parts.1.1.0 parts.1.1.1

abbrev pub description_at : Reader (MetricKind × (List ℕ × (Option UnitOf × List ℕ)))
description_at = both kind_word_at (λ _. both text_at (λ _. after (codes " ") (both unit_at (λ _. after (codes " ") text_at))))

unfoldable pub describe_at : List ℕ → Option SetupLine
describe_at line = whole (after (codes "describe ") (seen description_of_parts description_at)) line

-- what a register line registers: a kind, and a key's name and labels
abbrev pub Registered : Type 0
Registered = MetricKind × (List ℕ × List LabelText)

unfoldable pub register_at : List ℕ → Option Registered
register_at line = whole (both registered_kind_at (λ _. both text_at (λ _. labels_at))) line

-- the parts of a call line: its lane, what it does, its handle, its argument
abbrev pub CallParts : Type 0
CallParts = ℕ × (Verb × (ℕ × Act))

abbrev pub call_parts_at : Reader CallParts
call_parts_at = both (number_at 7) (λ _. both verb_at (λ verb. both (number_at (2 ^ 32 - 1)) (λ _. after (codes " ") (argument_at verb))))

abbrev pub call_of_parts : CallParts → CallLine
call_of_parts parts = record { lane = parts.0; handle = parts.1.1.0; act = parts.1.1.1 }

-- a call line
unfoldable pub call_at : List ℕ → Option CallLine
call_at line = whole (seen call_of_parts call_parts_at) line
