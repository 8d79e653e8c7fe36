-- The ranks of keys, and runs of keys whose ranks rise (this project's rule).
use Rattle.std.specs.Prelude.{ℕ, ◌+◌, ◌*◌, ◌%◌, ◌^◌, ◌<◌, ◌≤◌, ◌≡◌, true, List, [], ◌∷◌, length, fold, sum_by}
use Rattle.metrics_core.specs.Numbers.{in_64_bits}
use Rattle.metrics_core.specs.Keys.{KeyText, LabelText}
use Rattle.metrics_registry.specs.KeyLists.{KeysText}
use Rattle.metrics_registry.specs.declared.key_runs.KeyRun.TheInside.{Inside}

-- a number with one more byte behind it, of which seven bytes are left
abbrev pub low_step : ℕ → ℕ → ℕ
low_step low byte = low % 2 ^ 48 * 256 + byte

-- the last seven bytes of a text as a number
abbrev pub low_bytes : List ℕ → ℕ
low_bytes text = fold low_step 0 text

-- the rank of a text: its length, and behind it its last seven bytes
abbrev pub text_rank : List ℕ → ℕ
text_rank text = in_64_bits (length text % 256 * 2 ^ 56 + low_bytes text)

abbrev pub value_rank : LabelText → ℕ
value_rank label = text_rank label.value

-- the rank of a key: the sum of those of its name and of the values of its labels, modulo 2^64
abbrev pub key_rank : KeyText → ℕ
key_rank key = in_64_bits (text_rank key.name + sum_by value_rank key.labels)

-- the ranks of keys are greater than a number
abbrev pub IsBelowRanks : ℕ → List KeyText → Type 0
IsBelowRanks rank [] = Unit {0}
IsBelowRanks rank (key ∷ keys) = (rank < key_rank key) × IsBelowRanks rank keys

-- each key has a greater rank than those before it
abbrev pub RanksRise : List KeyText → Type 0
RanksRise [] = Unit {0}
RanksRise (key ∷ keys) = IsBelowRanks (key_rank key) keys × RanksRise keys

-- no key has a greater rank than this
abbrev pub AreUpTo : ℕ → List KeyText → Type 0
AreUpTo last [] = Unit {0}
AreUpTo last (key ∷ keys) = (key_rank key ≤ last) × AreUpTo last keys

-- the keys that are stored
abbrev pub run_keys : Inside → KeysText
run_keys inside = record { keys = inside.keys.items }

-- where a run says that ranks rise they do, up to the last
pub record RiseWhereSaid (inside : Inside) : Type 0 where
  pub rise : inside.rises ≡ true → RanksRise inside.keys.items × AreUpTo inside.last inside.keys.items
