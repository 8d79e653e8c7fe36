-- What a source and a sink tell of themselves (this project's rules).
use Rattle.std.specs.Prelude.{◌≡◌, ℕ, ◌+◌, ◌-◌, ◌^◌, ◌<◌, ◌≤◌, min, List, [], ◌++◌, length, take, drop, Option, Some, IfSome}

-- a count of faults rose, or stands at the last value of 64 bits
abbrev pub Rose : ℕ → ℕ → Type 0
Rose old new = min (old + 1) (2 ^ 64 - 1) ≤ new

-- a read of n bytes: the first n bytes to come moved to the front of the buffer; 0 for a buffer that isn't empty is the end
pub record Moved (bytes : List ℕ) (left : Option (List ℕ)) (buffer_old buffer_new : List ℕ) (n : ℕ) : Type 0 where
  pub enough : n ≤ length bytes
  pub prefix : buffer_new ≡ take n bytes ++ drop n buffer_old
  pub rest : left ≡ Some (drop n bytes)
  pub at_the_end : 0 < length buffer_old → n ≡ 0 → bytes ≡ []

-- what an object tells, where it tells, is what it told before and these
abbrev pub GrewBy : {X : Type 0} → Option (List X) → Option (List X) → List X → Type 0
GrewBy old new more = IfSome old (λ before. new ≡ Some (before ++ more))

-- these bytes were written but for `rest` at their end
pub record WrittenUpTo (before : List ℕ) (new : Option (List ℕ)) (whole rest : List ℕ) : Type 0 where
  pub prefix : List ℕ
  pub cut : whole ≡ prefix ++ rest
  pub written : new ≡ Some (before ++ prefix)

-- what an object tells, where it tells, grew by these bytes but for `rest` at their end
abbrev pub GrewUpTo : Option (List ℕ) → Option (List ℕ) → List ℕ → List ℕ → Type 0
GrewUpTo old new whole rest = IfSome old (λ before. WrittenUpTo before new whole rest)

-- what an object tells, where it tells, grew by a prefix of these bytes, none or all of them included
abbrev pub GrewByPrefix : Option (List ℕ) → Option (List ℕ) → List ℕ → Type 0
GrewByPrefix old new whole = IfSome old (λ before. (rest : List ℕ) × WrittenUpTo before new whole rest)
