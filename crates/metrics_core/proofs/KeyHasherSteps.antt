-- What a hasher stands for, from call to call.
use Rattle.std.proofs.Common.{◌≡◌, ℕ, List, [], ◌∷◌, ◌++◌, sym, ap, ◌∙◌, append-nil, append_assoc}
use Rattle.std.specs.Prelude.{fold, flat_map, bit_xor}
use Rattle.std.specs.Int.{w64, to_le_bytes}
use Rattle.std.proofs.lemmas.List.Sums.{fold-append}
use Rattle.metrics_core.specs.declared.key_hasher.Taken.{Taken}
use Rattle.metrics_core.specs.declared.key_hasher.Taken.TheVariants.{Nothing, Number, Bytes}
use Rattle.metrics_core.specs.Hashes.{hash_step, hash_bytes}
use Rattle.metrics_core.specs.KeyHashing.{HashCall, OfBytes, StandsFor, answer_of, answer_from, bytes_of, hashed}

-- the answer of a hasher that stands for calls is the answer to them
pub finishes : (hasher seen : Taken) (calls : List HashCall) → hasher ≡ seen → StandsFor hasher calls → answer_from seen [] ≡ answer_of calls
finishes hasher seen calls same stands =
    ap (λ h. answer_from h []) (sym same) ∙ stands [] ∙ ap answer_of (append-nil calls)

-- a hasher that answers after a call as this one did before it stands for one call more
pub stands_for_more : (old new : Taken) (calls : List HashCall) (call : HashCall) → ((next : List HashCall) → answer_from new next ≡ answer_from old (call ∷ next)) → StandsFor old calls → StandsFor new (calls ++ call ∷ [])
stands_for_more old new calls call turn stands = λ next. turn next ∙ stands (call ∷ next) ∙ ap answer_of (sym (append_assoc calls (call ∷ []) next))

-- the hash of no bytes, under seed 0
abbrev start : ℕ
start = bit_xor 0xcbf29ce484222325 0

-- bytes that are hashed on what was hashed answer as the call that hands them over
pub bytes_turn : (old : Taken) (bytes : List ℕ) (next : List HashCall) → answer_from (Bytes (fold hash_step (hashed old) bytes)) next ≡ answer_from old (OfBytes bytes ∷ next)
unfolding hash_bytes
bytes_turn Nothing bytes next = sym (fold-append hash_step start bytes (flat_map bytes_of next))
bytes_turn (Number number) bytes next =
    sym (fold-append hash_step (fold hash_step start (to_le_bytes w64 number)) bytes (flat_map bytes_of next)) ∙ sym (fold-append hash_step start (to_le_bytes w64 number) (bytes ++ flat_map bytes_of next))
bytes_turn (Bytes hash) bytes next = sym (fold-append hash_step hash bytes (flat_map bytes_of next))
