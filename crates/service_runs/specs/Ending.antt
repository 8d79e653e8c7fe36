-- How what ran beside a service's work ends.
use Rattle.std.specs.Prelude.{◌≡◌, ℕ, Option, None, Some}
use Rattle.service_loops.specs.Loops.{Runs}

-- a job that there was, was done some number of times
abbrev pub RanTimes : {J : Type 0} → (J → J → Type 0) → Option J → Option J → Type 0
RanTimes does None after = after ≡ None
RanTimes {J} does (Some job) after = (times : ℕ) × (ended : J) × Runs does times job ended × (after ≡ Some ended)

-- what there was to flush was flushed a last time
abbrev pub EndsIfAny : {F : Type 0} → (F → F → Type 0) → Option F → Option F → Type 0
EndsIfAny ends None after = after ≡ None
EndsIfAny {F} ends (Some before) after = (last : F) × ends before last × (after ≡ Some last)

-- and so it was behind all its other flushes
abbrev pub FlushedLast : {F : Type 0} → (F → F → Type 0) → (F → F → Type 0) → Option F → Option F → Type 0
FlushedLast {F} does ends old new = (middle : Option F) × RanTimes does old middle × EndsIfAny ends middle new
