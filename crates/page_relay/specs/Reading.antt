-- What is read from the front of a line: a word that stands there, or nothing where none does. That each word is read
-- in one way is proved.
use Rattle.std.specs.Prelude.{◌≡◌, ◌≢◌, ℕ, Bool, true, false, ◌&&◌, ◌||◌, ◌==◌, IsTrue, List, [], ◌∷◌, ◌++◌, ◌+◌, ◌-◌, take, drop, length, replicate, ℤ, codes, flat_map, All, IsUtf8, Option, MatchOption, string_bytes}
use Rattle.std.specs.declared.alloc.Global.{Global}
use Rattle.std.specs.declared.string.String.{String}
use Rattle.std.specs.List.{position_or_len}
use Rattle.std.specs.Int.{w128}
use Rattle.std.specs.Int.RustNames.{FitsSigned}
use Rattle.metrics_core.specs.Characters.{quote, backslash, full_stop, is_digit}
use Rattle.metrics_core.specs.Keys.{LabelText}
use Rattle.metrics_core.specs.Numbers.{page_number}
use Rattle.prom_format.specs.Names.{begins_metric_name, begins_label_name, is_name, IsMetricName, IsLabelName}
use Rattle.prom_format.specs.Printed.{escaped_character, escaped_description}
use Rattle.prom_format.specs.Pages.{Row, type_text, label_text, label_set_text}
use Rattle.prom_format.specs.declared.families.FamilyType.{FamilyType}

-- ---- names: that of a metric may have colons, that of a label has none

abbrev pub begins_name : Bool → ℕ → Bool
begins_name true = begins_metric_name
begins_name false = begins_label_name

abbrev pub stands_in_name : Bool → ℕ → Bool
stands_in_name colons c = begins_name colons c || is_digit c

abbrev pub IsNamed : Bool → List ℕ → Type 0
IsNamed colons text = IsTrue (is_name (begins_name colons) text)

-- no character of a kind stands at the front
abbrev pub Ends : (ℕ → Bool) → List ℕ → Type 0
Ends kind [] = Unit {0}
Ends kind (c ∷ rest) = kind c ≡ false

abbrev pub NameEnds : Bool → List ℕ → Type 0
NameEnds colons rest = Ends (stands_in_name colons) rest

abbrev pub NoName : Bool → List ℕ → Type 0
NoName colons bytes = (name rest : List ℕ) → IsNamed colons name → NameEnds colons rest → bytes ≢ name ++ rest

pub record TakesName (colons : Bool) (bytes name rest : List ℕ) : Type 0 where
  pub named : IsNamed colons name
  pub ends : NameEnds colons rest
  pub split : bytes ≡ name ++ rest

-- ---- texts: that of a label value ends at a quote, that of a help line at the end of the line

abbrev pub escaped : Bool → List ℕ → List ℕ
escaped in_label text = flat_map (escaped_character in_label) text

-- the escape of a character by a backslash and this one, or none
abbrev pub NoEscape : Bool → ℕ → Type 0
NoEscape in_label second = (c : ℕ) → escaped_character in_label c ≢ backslash ∷ second ∷ []

abbrev pub NoCharacter : Bool → List ℕ → Type 0
NoCharacter in_label bytes = (c : ℕ) (rest : List ℕ) → bytes ≢ escaped_character in_label c ++ rest

abbrev pub TextEnds : Bool → List ℕ → Type 0
TextEnds in_label [] = Unit {0}
TextEnds in_label (c ∷ rest) = (in_label && c == quote) ≡ true

abbrev pub NoText : Bool → List ℕ → Type 0
NoText in_label bytes =
    (text rest : List ℕ) → IsUtf8 text → TextEnds in_label rest → bytes ≢ escaped in_label text ++ rest

pub record TakesText (in_label : Bool) (bytes text rest : List ℕ) : Type 0 where
  pub utf8 : IsUtf8 text
  pub ends : TextEnds in_label rest
  pub split : bytes ≡ escaped in_label text ++ rest

-- ---- labels

pub record IsReadableLabel (label : LabelText) : Type 0 where
  pub named : IsLabelName label.key
  pub utf8 : IsUtf8 label.value

abbrev pub NoLabel : List ℕ → Type 0
NoLabel bytes = (label : LabelText) (rest : List ℕ) → IsReadableLabel label → bytes ≢ label_text label ++ rest

pub record TakesLabel (bytes : List ℕ) (label : LabelText) (rest : List ℕ) : Type 0 where
  pub readable : IsReadableLabel label
  pub split : bytes ≡ label_text label ++ rest

-- a label set, and the space behind it
abbrev pub NoLabelSet : List ℕ → Type 0
NoLabelSet bytes =
    (labels : List LabelText) (rest : List ℕ) → All IsReadableLabel labels
    → bytes ≢ label_set_text labels ++ codes " " ++ rest

pub record TakesLabelSet (bytes : List ℕ) (labels : List LabelText) (rest : List ℕ) : Type 0 where
  pub readable : All IsReadableLabel labels
  pub split : bytes ≡ label_set_text labels ++ codes " " ++ rest

-- ---- values

-- the text without its first point, with zeros behind it up to nine places behind the point
abbrev pub all_places : List ℕ → List ℕ
all_places text =
    take (position_or_len (λ c. c == full_stop) text) text
    ++ drop (position_or_len (λ c. c == full_stop) text + 1) text
    ++ replicate (9 - (length text - position_or_len (λ c. c == full_stop) text - 1)) 48

abbrev pub NoValue : List ℕ → Type 0
NoValue text = (value : ℤ) → FitsSigned w128 value → text ≢ page_number value

-- ---- the forms of line, without their newlines

pub record IsHelpLine (line name text : List ℕ) : Type 0 where
  pub named : IsMetricName name
  pub utf8 : IsUtf8 text
  pub spelled : line ≡ codes "# HELP " ++ name ++ codes " " ++ escaped_description text

pub record IsTypeLine (line name : List ℕ) (type : FamilyType) : Type 0 where
  pub named : IsMetricName name
  pub spelled : line ≡ codes "# TYPE " ++ name ++ codes " " ++ type_text type

pub record IsRowLine (line : List ℕ) (row : Row) : Type 0 where
  pub named : IsMetricName row.name
  pub labels : All IsReadableLabel row.labels
  pub fits : FitsSigned w128 row.value
  pub spelled : line ≡ row.name ++ label_set_text row.labels ++ codes " " ++ page_number row.value

-- what a function that reads a value answers: the value that the text is the spelling of
abbrev pub IsValueOf : List ℕ → Option ℤ → Type 0
IsValueOf text read = MatchOption read (NoValue text) (λ value. (text ≡ page_number value) × FitsSigned w128 value)

-- what is read of a type line
abbrev pub IsTypeOf : List ℕ → Option (String Global × FamilyType) → Type 0
IsTypeOf line read = MatchOption read
    ((name : List ℕ) (type : FamilyType) → ¬ IsTypeLine line name type)
    (λ read. IsTypeLine line (string_bytes read.0) read.1)
