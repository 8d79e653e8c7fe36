use Rattle.std.proofs.Common.{◌≡◌, length}
use Rattle.std.specs.Str.Parse.{AllDigits, digits_value, digits_value_after}
use Rattle.drive_script.proofs.cursor.short_value.Given as goal

-- the value so far and the digits that are left write the number of all digits
abbrev pub invariant-loop-rest : goal.invariant-loop-rest
invariant-loop-rest l = AllDigits 10 l.rest × (digits_value_after 10 l.value l.rest ≡ digits_value 10 l.fn.digits)

abbrev pub decreases-loop-rest : goal.decreases-loop-rest
decreases-loop-rest l = length l.rest
