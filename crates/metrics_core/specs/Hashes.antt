-- The hash of texts, labels and keys: FNV-1a of 64 bits (Fowler, Noll and Vo), begun with a seed.
use Rattle.std.specs.Prelude.{ℕ, ◌+◌, ◌*◌, List, fold, sum_by, bit_xor}
use Rattle.metrics_core.specs.Numbers.{in_64_bits}
use Rattle.metrics_core.specs.Keys.{LabelText, KeyText}

-- the hash after one more byte
abbrev pub hash_step : ℕ → ℕ → ℕ
hash_step hash byte = in_64_bits (bit_xor hash byte * 0x100000001b3)

-- the hash of a list of bytes
unfoldable pub hash_bytes : ℕ → List ℕ → ℕ
hash_bytes seed bytes = fold hash_step (bit_xor 0xcbf29ce484222325 seed) bytes

-- the hash of a label: its key under seed 1, its value under seed 2
abbrev pub label_hash : LabelText → ℕ
label_hash label = bit_xor (hash_bytes 1 label.key) (hash_bytes 2 label.value)

-- the hash of a key: its name under seed 0, and the sum of its labels' hashes, so that their order is free
abbrev pub key_hash : KeyText → ℕ
key_hash key = in_64_bits (hash_bytes 0 key.name + sum_by label_hash key.labels)
