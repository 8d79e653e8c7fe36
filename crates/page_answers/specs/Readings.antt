-- The reading of a head.
use Rattle.std.specs.Prelude.{◌≡◌, ℕ, ◌<◌, ◌⊎◌, List, [], ◌++◌, length, Option, Some}
use Rattle.httparse.specs.Grammar.{RequestHead, ReadsRequest, HasNoRequest, NeverHasRequest, MayBecomeRequest}
use Rattle.page_answers.specs.Connections.{Told}

-- some bytes begin with a complete head of any number of fields
abbrev pub BeginWithAHead : List ℕ → Type 0
BeginWithAHead bytes = (head : RequestHead) × (rest : List ℕ) × ReadsRequest bytes head rest

-- they begin with one, or they never will, whichever bytes follow
abbrev pub AreDecided : List ℕ → Type 0
AreDecided bytes = BeginWithAHead bytes ⊎ NeverHasRequest bytes

-- they begin with no complete head, and call for more: some bytes can follow that make a head of them, or they end inside a
-- target, whose text is judged at its end
abbrev pub CallForMore : List ℕ → Type 0
CallForMore bytes = HasNoRequest bytes × MayBecomeRequest bytes

-- a reading ended with its last read, and not before: what was read earlier called for more and was fewer than 65,536 bytes, and
-- where it ended the bytes are decided, or are 65,536, or the input had ended
pub record EndsReading (earlier bytes left : List ℕ) : Type 0 where
  pub not_before : CallForMore earlier
  pub had_room : length earlier < 65536
  pub ends : AreDecided bytes ⊎ ((length bytes ≡ 65536) ⊎ (left ≡ []))

-- these bytes were read on, of them `earlier` before the last read
abbrev pub with_read : Told → List ℕ → List ℕ → List ℕ → Told
with_read told earlier bytes left = record told { earlier = told.taken ++ earlier; taken = told.taken ++ bytes; left = left }

-- these bytes were read of a connection, and the reading ended with its last read
pub record WereRead (before : Told) (after : Option Told) (bytes : List ℕ) : Type 0 where
  pub earlier : List ℕ
  pub left : List ℕ
  pub told : after ≡ Some (with_read before earlier bytes left)
  pub ends : EndsReading earlier bytes left
