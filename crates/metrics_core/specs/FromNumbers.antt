-- Values from numbers of which not all are in range.
use Rattle.std.specs.Prelude.{◌≡◌, ℕ, ℤ, Float, pos, ◌*ℤ◌, if◌then◌else◌, Result, Ok, Err, IfErr, is_nan, from_bits}
use Rattle.std.specs.Int.{w64, is_negative}
use Rattle.std.specs.Float.{float_round, float_to_signed}
use Rattle.std.specs.Duration.{f64_billion}
use Rattle.std.specs.Result.{OkIff}
use Rattle.std.specs.Prelude.{FitsSigned}
use lib.Ieee.{binary64, le, lt, mul, neg}
use Rattle.metrics_core.specs.declared.numbers.Fixed.{Fixed as FixedOf}
use Rattle.metrics_core.specs.declared.from_numbers.ValueFault.{ValueFault as ValueFaultOf}
use Rattle.metrics_core.specs.declared.from_numbers.ValueFault.TheVariants.{TooLarge, TooSmall, NotANumber}
use Rattle.metrics_core.specs.Numbers.{one}
use Rattle.metrics_core.specs.Fixed.{of_billionths}

-- what comes of a whole number: its value, where its billionths have 64 bits, and else the side on which it lies
abbrev pub IsWholeValue : ℤ → Result FixedOf ValueFaultOf → Type 0
IsWholeValue n result =
    OkIff result (FitsSigned w64 (n *ℤ pos one)) (of_billionths (n *ℤ pos one))
    × IfErr result (λ fault. fault ≡ if is_negative n then TooSmall else TooLarge)

-- the billionths of a float, a whole number: its product with a billion is rounded to a float, and that to the nearest whole number
abbrev pub float_billionths : Float → Float
float_billionths x = float_round binary64 (mul binary64 x f64_billion)

-- 2 ^ 63 and its negative, as floats
abbrev pub past_most : Float
past_most = from_bits binary64 0x43e0_0000_0000_0000

abbrev pub least : Float
least = neg past_most

-- what comes of a float
abbrev pub float_value : Float → Result FixedOf ValueFaultOf
float_value x =
    if is_nan x then Err NotANumber
    else if le past_most (float_billionths x) then Err TooLarge
    else if lt (float_billionths x) least then Err TooSmall
    else Ok (of_billionths (float_to_signed w64 (float_billionths x)))
