-- How keys are stored in order, each under a number (this project's rule).
use Rattle.std.specs.Prelude.{◌≡◌, ◌++◌, ℕ, List, map, unwrap_or}
use Rattle.std.specs.BTreeMap.{BTreeMap, get}
use Rattle.std.specs.Map.{keys_of, values_of}
use Rattle.indexmap.specs.IndexMap.{values}
use Rattle.std.specs.Hash as fed
use Rattle.hash_starts.specs.Starts.{begun_hash}
use Rattle.hash_starts.specs.declared.start.HashStart.{HashStart}
use Rattle.metrics_core.specs.Hashes.{key_hash}
use Rattle.metrics_core.specs.Keys.{KeyText, key_cmp}
use Rattle.metrics_registry.specs.KeyLists.{KeysText}
use Rattle.metrics_registry.specs.declared.numbered_keys.NumberedKeys.TheInside.{Inside}

-- numbers that are kept for keys
abbrev pub NumbersText : Type 0
NumbersText = BTreeMap KeyText ℕ

-- what is hashed of a key: its hash, and its name
abbrev pub key_fed : KeyText → List (List ℕ)
key_fed key = fed.u64 (key_hash key) ++ fed.str key.name

-- the number of a key: the one that is kept for it, or else its hash from the start
abbrev pub number_of : HashStart → NumbersText → KeyText → ℕ
number_of start numbers key = unwrap_or (get key_cmp numbers key) (begun_hash start (key_fed key))

-- each of some entries is a number and a key that has it
abbrev pub AreNumbered : HashStart → NumbersText → List (ℕ × KeyText) → Type 0
AreNumbered start numbers entries = keys_of entries ≡ map (number_of start numbers) (values_of entries)

-- the keys that are stored
abbrev pub keys_of_list : Inside → KeysText
keys_of_list inside = record { keys = values inside.keys }

-- each key stands under its number
pub record StandUnderNumbers (inside : Inside) : Type 0 where
  pub numbered : AreNumbered inside.start inside.numbers inside.keys.entries
