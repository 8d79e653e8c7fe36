-- What a call on a handle needs and does.
use Rattle.std.specs.Prelude.{◌≡◌, ℤ, Option, Some, None, Result, Ok, Err, option_map}
use Rattle.metrics_core.specs.Calls.{Call}
use Rattle.metrics_core.specs.declared.numbers.Fixed.{Fixed as FixedOf}
use Rattle.metrics_facade.specs.declared.faults.OutOfRange.{OutOfRange}
use Rattle.metrics_facade.specs.declared.faults.RecordFault.{RecordFault}
use Rattle.metrics_facade.specs.declared.faults.RecordFault.TheVariants as fault

-- the pass is one of the handle's cell; a handle without a cell takes any
abbrev pub Fits : {F P : Type 0} → (F → P → Type 0) → Option F → P → Type 0
Fits is_pass None pass = Unit {0}
Fits is_pass (Some cell) pass = is_pass cell pass

-- after a call the pass is one of the cell that may stand after this call; without a cell it is as before
abbrev pub Stands : {F P : Type 0} → (F → P → Type 0) → (F → P → Call → P → Type 0) → Option F → P → Call → P → Type 0
Stands is_pass may_follow None before call after = after ≡ before
Stands is_pass may_follow (Some cell) before call after = is_pass cell after × may_follow cell before call after

-- the call with a value, where there is a value in range
abbrev pub called : (ℤ → Call) → Option FixedOf → Option Call
called call value = option_map (λ v. call v.0) value

-- a call with a value in range is made; without one it is refused, and the pass is as before
abbrev pub Tells : {F P : Type 0} → (F → P → Type 0) → (F → P → Call → P → Type 0) → Option F → P → P → Option Call → Result (Unit {0}) OutOfRange → Type 0
Tells is_pass may_follow handle before after None answer = (answer ≡ Err (record {})) × (after ≡ before)
Tells is_pass may_follow handle before after (Some call) answer = (answer ≡ Ok tt) × Stands is_pass may_follow handle before call after

-- after a call that was refused the pass is one of the cell that tells what it told before; a handle without a cell
-- refuses none
abbrev pub Refused : {F P : Type 0} → (F → P → Type 0) → (F → P → P → Type 0) → Option F → P → P → Type 0
Refused is_pass stays None before after = ⊥
Refused is_pass stays (Some cell) before after = is_pass cell after × stays cell before after

-- a record with a value in range is made, or refused for want of memory
abbrev pub Recorded : {F P : Type 0} → (F → P → Type 0) → (F → P → Call → P → Type 0) → (F → P → P → Type 0) → Option F → P → P → Call → Result (Unit {0}) RecordFault → Type 0
Recorded is_pass may_follow stays handle before after call (Ok _) = Stands is_pass may_follow handle before call after
Recorded is_pass may_follow stays handle before after call (Err fault.Memory) = Refused is_pass stays handle before after
Recorded is_pass may_follow stays handle before after call (Err fault.OutOfRange) = ⊥

-- without a value in range it is refused for that, and the pass is as before
abbrev pub Records : {F P : Type 0} → (F → P → Type 0) → (F → P → Call → P → Type 0) → (F → P → P → Type 0) → Option F → P → P → Option Call → Result (Unit {0}) RecordFault → Type 0
Records is_pass may_follow stays handle before after None answer = (answer ≡ Err fault.OutOfRange) × (after ≡ before)
Records is_pass may_follow stays handle before after (Some call) answer = Recorded is_pass may_follow stays handle before after call answer
