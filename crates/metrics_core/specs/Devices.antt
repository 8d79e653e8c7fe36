-- How sources and sinks in memory are seen.
use Rattle.std.specs.Prelude.{ℕ, ◌+◌, ◌-◌, ◌^◌, min, Bool, nat_eq, List, if◌then◌else◌}
use Rattle.std.specs.List.{list_any}

-- the calls of a device: the numbers of those that are to fail, counted from 0, the number of the next one, and how many failed
pub record CallsText : Type 0 where
  pub failing : List ℕ
  pub number : ℕ
  pub faults : ℕ

-- a source: the bytes still to come, how many a read gives at most, and its reads
pub record SourceText : Type 0 where
  pub left : List ℕ
  pub most : ℕ
  pub calls : CallsText

-- a sink: the bytes written, how many a write takes at most, and its writes
pub record SinkText : Type 0 where
  pub written : List ℕ
  pub most : ℕ
  pub calls : CallsText

-- a count of 64 bits after one more, which stays at its last value
abbrev pub one_more : ℕ → ℕ
one_more n = min (n + 1) (2 ^ 64 - 1)

-- whether a call's number is in the list
abbrev pub is_listed : List ℕ → ℕ → Bool
is_listed numbers n = list_any (λ m. nat_eq m n) numbers

-- the calls after one more, which failed or not
abbrev pub after_call : Bool → CallsText → CallsText
after_call failed calls = record { failing = calls.failing; number = one_more calls.number; faults = if failed then one_more calls.faults else calls.faults }
