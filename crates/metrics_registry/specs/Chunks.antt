-- Chunks of the entries of a bag, in order.
use Rattle.std.specs.Prelude.{◌≡◌, ℕ, ◌+◌, ◌<◌, ◌≤ℤ◌, ◌⊎◌, List, [], ◌∷◌, ◌++◌, ℤ, length, flat_map, slice_get, IfSome}
use Rattle.metrics_registry.specs.declared.chunks.Chunk.{Chunk}
use Rattle.metrics_registry.specs.Bags.{repeated}

-- the entries of a chunk. Before them stands the value at which it begins, which is there 0 times
abbrev pub marked : Chunk → List (ℤ × ℕ)
marked chunk = (chunk.least, 0) ∷ chunk.entries.items

-- the entries of chunks
abbrev pub entries_of : List Chunk → List (ℤ × ℕ)
entries_of chunks = flat_map marked chunks

-- no value is below this one
abbrev pub AreFrom : ℤ → List (ℤ × ℕ) → Type 0
AreFrom low [] = Unit {0}
AreFrom low (e ∷ es) = (low ≤ℤ e.0) × AreFrom low es

-- no value is above this one
abbrev pub AreUpTo : ℤ → List (ℤ × ℕ) → Type 0
AreUpTo high [] = Unit {0}
AreUpTo high (e ∷ es) = (e.0 ≤ℤ high) × AreUpTo high es

-- no value is below one before it
abbrev pub Rise : List (ℤ × ℕ) → Type 0
Rise [] = Unit {0}
Rise (e ∷ es) = AreFrom e.0 es × Rise es

-- each chunk has as many values as it says
abbrev pub AreCounted : List Chunk → Type 0
AreCounted [] = Unit {0}
AreCounted (chunk ∷ chunks) = (chunk.count ≡ length (repeated chunk.entries.items)) × AreCounted chunks

pub record AreOrdered (chunks : List Chunk) : Type 0 where
  pub rise : Rise (entries_of chunks)
  pub counted : AreCounted chunks

-- a bag of so many values
pub record HasValues (count : ℕ) (chunks : List Chunk) : Type 0 where
  pub ordered : AreOrdered chunks
  pub counted : count ≡ length (repeated (entries_of chunks))

-- a chunk of these entries that begins at this value
pub record IsChunkOf (begin : ℤ) (held : List (ℤ × ℕ)) (chunk : Chunk) : Type 0 where
  pub least : chunk.least ≡ begin
  pub entries : chunk.entries.items ≡ held
  pub count : chunk.count ≡ length (repeated held)

-- the place of a chunk that begins at a value or below, while the next begins at it or above
pub record IsPlace (value : ℤ) (chunks : List Chunk) (place : ℕ) : Type 0 where
  pub within : place < length chunks
  pub begins : IfSome (slice_get chunks place) (λ chunk. chunk.least ≤ℤ value)
  pub ends : IfSome (slice_get chunks (place + 1)) (λ chunk. value ≤ℤ chunk.least)

-- A value is there so often more than before: by its entry, or by a new one between those of values that aren't above and of values that
-- aren't below.
pub record IsRaised (value : ℤ) (count : ℕ) (old new : List (ℤ × ℕ)) : Type 0 where
  pub front : List (ℤ × ℕ)
  pub back : List (ℤ × ℕ)
  pub held : ℕ
  pub was : (old ≡ front ++ (value, held) ∷ back) ⊎ ((old ≡ front ++ back) × (held ≡ 0) × AreUpTo value front × AreFrom value back)
  pub is : new ≡ front ++ (value, held + count) ∷ back
