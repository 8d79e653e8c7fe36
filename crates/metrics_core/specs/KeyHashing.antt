-- What a hasher of keys answers after some calls.
use Rattle.std.specs.Prelude.{◌≡◌, ℕ, List, [], ◌∷◌, ◌++◌, flat_map, fold, Option, Some, None, unwrap_or}
use Rattle.std.specs.Int.{w64, to_le_bytes}
use Rattle.metrics_core.specs.declared.key_hasher.Taken.{Taken}
use Rattle.metrics_core.specs.declared.key_hasher.Taken.TheVariants.{Nothing, Number, Bytes}
use Rattle.metrics_core.specs.Hashes.{hash_step, hash_bytes}

-- a call: bytes, or a number of 64 bits
pub data HashCall : Type 0 where
  OfBytes : List ℕ → HashCall
  OfNumber : ℕ → HashCall

-- what a call adds where bytes are hashed: its bytes, or those of its number, the lowest first
abbrev pub bytes_of : HashCall → List ℕ
bytes_of (OfBytes bytes) = bytes
bytes_of (OfNumber number) = to_le_bytes w64 number

abbrev pub number_bytes : Option ℕ → List ℕ
number_bytes None = []
number_bytes (Some number) = to_le_bytes w64 number

-- the answer after calls, where the last call before them, if there was one, was a number. With numbers alone the
-- last one is the answer, and 0 where there is none. From the first bytes on all bytes are hashed, those of the last
-- number before them first.
abbrev pub answer_after : Option ℕ → List HashCall → ℕ
answer_after last [] = unwrap_or last 0
answer_after last (OfNumber number ∷ calls) = answer_after (Some number) calls
answer_after last (OfBytes bytes ∷ calls) = hash_bytes 0 (number_bytes last ++ (bytes ++ flat_map bytes_of calls))

-- the answer after calls on a new hasher
abbrev pub answer_of : List HashCall → ℕ
answer_of calls = answer_after None calls

-- the answer after further calls on a hasher
abbrev pub answer_from : Taken → List HashCall → ℕ
answer_from Nothing calls = answer_after None calls
answer_from (Number number) calls = answer_after (Some number) calls
answer_from (Bytes hash) calls = fold hash_step hash (flat_map bytes_of calls)

-- the hash of all that a hasher was given, where bytes are hashed
abbrev pub hashed : Taken → ℕ
hashed Nothing = hash_bytes 0 []
hashed (Number number) = hash_bytes 0 (to_le_bytes w64 number)
hashed (Bytes hash) = hash

-- a hasher that answers, whatever calls come next, as one on which these calls were made
abbrev pub StandsFor : Taken → List HashCall → Type 0
StandsFor hasher calls = (next : List HashCall) → answer_from hasher next ≡ answer_of (calls ++ next)
