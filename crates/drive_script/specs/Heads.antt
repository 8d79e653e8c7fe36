-- A table from heads of keys to keys, by the text of a head: two register lines of one kind with the same head have equal keys.
use Rattle.std.specs.Prelude.{string_bytes, ◌≡◌, ℕ, List, ◌++◌, map, Option, Some, None, Bool, bytes_eq, codes, slice_get, All}
use Rattle.std.specs.Map.{lookup}
use Rattle.std.specs.declared.string.String.{String}
use Rattle.std.specs.declared.alloc.Global.{Global}
use Rattle.metrics_core.specs.Kinds.{kind_text}
use Rattle.metrics_core.specs.Keys.{LabelText, KeyText, SameKey}
use Rattle.prom_format.specs.Names.{sanitized_label_name}
use Rattle.prom_format.specs.Lines.{head_text}
use Rattle.prom_format.specs.PlainKeys.{PrintsPlainly}
use Rattle.drive_script.specs.declared.heads.HeadTable.{HeadTable}
use Rattle.drive_script.specs.Valid.{Registration, head_of}

-- the text of what is registered: its kind, and what its rows begin with
abbrev pub text_of_head : List LabelText → Registration → List ℕ
text_of_head globals r = kind_text r.kind ++ codes " " ++ head_text (head_of globals r.key).name (head_of globals r.key).labels

abbrev pub keys_by_head : List (String Global × KeyText) → List (List ℕ × KeyText)
keys_by_head entries = map (λ entry. (string_bytes entry.0, entry.1)) entries

abbrev pub key_at : List (List ℕ × KeyText) → List ℕ → Option KeyText
key_at table text = lookup (bytes_eq text) table

-- under the text of each head stands a key that is equal to all keys with this head, and is one of them
pub record AreHeadsOf (globals : List LabelText) (table : List (List ℕ × KeyText)) (registered : List Registration) : Type 0 where
  pub each : All (λ r. (key : KeyText) × (key_at table (text_of_head globals r) ≡ Some key) × SameKey key r.key) registered
  pub one : (text : List ℕ) (key : KeyText) → key_at table text ≡ Some key
      → (i : ℕ) × (r : Registration) × (slice_get registered i ≡ Some r) × (text_of_head globals r ≡ text) × (r.key ≡ key)

-- the keys of these register lines all print plainly
abbrev pub AllPrintPlainly : List LabelText → List Registration → Type 0
AllPrintPlainly globals registered = All (λ r. PrintsPlainly globals r.key) registered

-- What is known of the keys so far: all print plainly, so no two different ones print alike, and there is no table; or the
-- table is of their heads.
abbrev pub AreNoted : List LabelText → Option HeadTable → List Registration → Type 0
AreNoted globals None registered = AllPrintPlainly globals registered
AreNoted globals (Some table) registered = AreHeadsOf globals (keys_by_head table.keys.entries) registered

-- whether a label is shown with the key of the label of overflow series
abbrev pub shows_overflow : LabelText → Bool
shows_overflow label = bytes_eq (sanitized_label_name label.key) (codes "overflow")
