-- Payloads stand one after another in a buffer, each behind room for its length on a stream.
use Rattle.std.specs.Prelude.{◌≡◌, ℕ, ◌+◌, ◌≤◌, Bool, false, nat_le, List, [], ◌∷◌, ◌++◌, length, map, take, drop, All, fold, replicate, if◌then◌else◌}
use Rattle.std.specs.declared.snapshot.Snapshot.{Snapshot}
use Rattle.dsd_writer.specs.Cuts.{AreWithin, joined}
use Rattle.dsd_writer.specs.Lines.{framed}

-- each payload as it is handed over
abbrev pub framed_payloads : Bool → List (List ℕ) → List (List ℕ)
framed_payloads on_stream payloads = map (framed on_stream) payloads

-- ---- a line is put into payloads

-- whether the last payload takes a line of so many bytes
abbrev pub last_takes : ℕ → List (List ℕ) → ℕ → Bool
last_takes limit [] n = false
last_takes limit (payload ∷ []) n = nat_le (length payload + n) limit
last_takes limit (payload ∷ next ∷ payloads) n = last_takes limit (next ∷ payloads) n

-- a text behind the last one
abbrev pub behind_last : List (List ℕ) → List ℕ → List (List ℕ)
behind_last [] text = []
behind_last (last ∷ []) text = (last ++ text) ∷ []
behind_last (first ∷ next ∷ texts) text = first ∷ behind_last (next ∷ texts) text

-- a line goes into the last payload where that takes it, and otherwise begins a payload
abbrev pub with_line : ℕ → List (List ℕ) → List ℕ → List (List ℕ)
with_line limit payloads line = if last_takes limit payloads (length line) then behind_last payloads line else payloads ++ line ∷ []

-- payloads with lines behind one another
abbrev pub filled : ℕ → List (List ℕ) → List (List ℕ) → List (List ℕ)
filled limit payloads lines = fold (with_line limit) payloads lines

-- ---- how they stand in a buffer

-- how many bytes stand before a payload: on a stream its length in four
abbrev pub prefix_length : Bool → ℕ
prefix_length on_stream = if on_stream then 4 else 0

-- how many bytes payloads take with what stands before them
abbrev pub stored_length : Bool → List (List ℕ) → ℕ
stored_length on_stream [] = 0
stored_length on_stream (payload ∷ payloads) = prefix_length on_stream + length payload + stored_length on_stream payloads

-- where each of some pieces begins that stand one after another from a place on
abbrev pub starts_of : ℕ → List (List ℕ) → List ℕ
starts_of start [] = []
starts_of start (piece ∷ pieces) = start ∷ starts_of (start + length piece) pieces

-- the pieces that begin at these places
abbrev pub pieces_at : List ℕ → List ℕ → List (List ℕ)
pieces_at [] bytes = []
pieces_at (start ∷ []) bytes = drop start bytes ∷ []
pieces_at (start ∷ next ∷ starts) bytes = drop start (take next bytes) ∷ pieces_at (next ∷ starts) bytes

-- the payloads in the pieces that begin at these places
abbrev pub payloads_at : Bool → List ℕ → List ℕ → List (List ℕ)
payloads_at on_stream starts bytes = map (λ piece. drop (prefix_length on_stream) piece) (pieces_at starts bytes)

-- the buffer is such pieces, each with room for the length of its payload, which is within the limit
pub record IsPacked (limit : ℕ) (on_stream : Bool) (bytes starts : List ℕ) : Type 0 where
  pub begin : starts_of 0 (pieces_at starts bytes) ≡ starts
  pub whole : joined (pieces_at starts bytes) ≡ bytes
  pub led : All (λ piece. prefix_length on_stream ≤ length piece) (pieces_at starts bytes)
  pub within : AreWithin limit (payloads_at on_stream starts bytes)
  pub short : limit ≤ 4294967295

-- what stands before a line: nothing in a payload that takes it, and otherwise room for the length of a new one
abbrev pub before_line : Bool → Bool → List ℕ
before_line on_stream takes = if takes then [] else replicate (prefix_length on_stream) 0

-- where the payload begins that a line begins
abbrev pub start_of_line : Bool → List ℕ → List ℕ
start_of_line takes bytes = if takes then [] else length bytes ∷ []

-- ---- the lengths of lines

-- the lengths that are noted
abbrev pub noted : List (Snapshot ℕ) → List ℕ
noted lengths = map (λ length. length.value) lengths
