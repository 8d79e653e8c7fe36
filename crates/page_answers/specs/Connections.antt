-- What connections and their listener tell of themselves (this project's rules).
use Rattle.std.specs.Prelude.{◌≡◌, ℕ, ◌+◌, ◌%◌, ◌^◌, ◌<◌, ◌≤◌, List, [], ◌++◌, length, take, drop, Option, Some, IfSome, IsSome, Result, OnOk, OnErr, ◌==◌, if◌then◌else◌}
use Rattle.std.specs.declared.net.ip_addr.IpAddr.{IpAddr}
use Rattle.metrics_core.specs.Outside.{Rose}

-- what a connection tells: the bytes read of it before its last read, those read so far, those still to come, and those written to it
pub record Told : Type 0 where
  pub earlier : List ℕ
  pub taken : List ℕ
  pub left : List ℕ
  pub written : List ℕ

-- a connection that was given back: its peer, what it told, and how often it had failed
pub record Ended : Type 0 where
  pub who : Option IpAddr
  pub told : Told
  pub faults : ℕ

-- these bytes were read on, by one read
abbrev pub with_taken : Told → List ℕ → List ℕ → Told
with_taken told bytes left = record told { earlier = told.taken; taken = told.taken ++ bytes; left = left }

-- these bytes were written on
abbrev pub with_written : Told → List ℕ → Told
with_written told bytes = record told { written = told.written ++ bytes }

-- a read of n bytes: the first n bytes to come moved to the front of the buffer; 0 for a buffer that isn't empty is the end
pub record Took (before : Told) (after : Option Told) (buffer_old buffer_new : List ℕ) (n : ℕ) : Type 0 where
  pub enough : n ≤ length before.left
  pub prefix : buffer_new ≡ take n before.left ++ drop n buffer_old
  pub told : after ≡ Some (with_taken before (take n before.left) (drop n before.left))
  pub at_the_end : 0 < length buffer_old → n ≡ 0 → before.left ≡ []

-- where a connection tells, it tells these bytes behind those that were written before
abbrev pub Wrote : Option Told → Option Told → List ℕ → Type 0
Wrote old new bytes = IfSome old (λ before. new ≡ Some (with_written before bytes))

-- nothing was read of a connection yet, and nothing written to it
abbrev pub IsFresh : Told → Type 0
IsFresh told = (told.taken ≡ []) × (told.written ≡ [])

-- a count modulo 2^64 grew by n
abbrev pub CountedOn : ℕ → ℕ → ℕ → Type 0
CountedOn old new n = new % 2 ^ 64 ≡ (old + n) % 2 ^ 64

-- by how much a connection that failed so often counts as lost
abbrev pub losses : ℕ → ℕ
losses faults = if faults == 0 then 0 else 1

-- a call that failed raised the count of faults, and one that did not left it
pub record CountsFaults {A E : Type 0} (result : Result A E) (old new : ℕ) : Type 0 where
  pub no_fault : OnOk result (new ≡ old)
  pub cause : OnErr result (Rose old new)
  pub never_falls : old ≤ new

-- a call that gave a connection counted it, and one that failed counted none
pub record CountsGiven {A E : Type 0} (result : Result A E) (old new : ℕ) : Type 0 where
  pub one : OnOk result (CountedOn old new 1)
  pub none : OnErr result (new ≡ old)

-- a connection that was just accepted by a listener that tells, or doesn't tell, which ones were given back
pub record IsNew (finished : Option (List Ended)) (told : Option Told) (faults : ℕ) : Type 0 where
  pub no_faults : faults ≡ 0
  pub fresh : IfSome told IsFresh
  pub tells : IsSome finished → IsSome told
