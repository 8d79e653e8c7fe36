-- How entries of a map of texts are seen as labels.
use Rattle.std.specs.Prelude.{ℕ, List, ◌++◌, map, string_bytes}
use Rattle.std.specs.Borrow.{Bor}
use Rattle.std.specs.Hash as fed
use Rattle.std.specs.declared.string.String.{String}
use Rattle.std.specs.declared.alloc.Global.{Global}
use Rattle.metrics_core.specs.Keys.{LabelText}

abbrev pub label_of_entry : String Global × String Global → LabelText
label_of_entry (key, value) = record { key = string_bytes key; value = string_bytes value }

-- the labels of a map's entries, in their order
abbrev pub labels_of : List (String Global × String Global) → List LabelText
labels_of entries = map label_of_entry entries

-- the same where the texts are lent
abbrev pub label_of_lent : Bor (List ℕ) × Bor (List ℕ) → LabelText
label_of_lent (key, value) = record { key = key.now; value = value.now }

abbrev pub labels_of_lent : List (Bor (List ℕ) × Bor (List ℕ)) → List LabelText
labels_of_lent entries = map label_of_lent entries

-- what a hash takes of a label
abbrev pub label_hash_input : LabelText → List (List ℕ)
label_hash_input label = fed.str label.key ++ fed.str label.value
