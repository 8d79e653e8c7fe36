-- Hashes from a start: SipHash-1-3 (Aumasson and Bernstein).
use Rattle.std.specs.Prelude.{ℕ, List, fold}
use Rattle.std.specs.Hash.DefaultHasher.{write, finish}
use Rattle.hash_starts.specs.declared.start.HashStart.{HashStart}

-- the hash of what a value feeds, piece by piece
unfoldable pub begun_hash : HashStart → List (List ℕ) → ℕ
begun_hash start input = finish (fold write start.hasher input)
