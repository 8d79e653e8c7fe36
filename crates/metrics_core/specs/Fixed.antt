-- Values of the program, and what stands for them.
use Rattle.std.specs.Prelude.{ℕ, ◌^◌, nat_lt, if◌then◌else◌, Option, Some, None, ℤ, pos, ◌*ℤ◌}
use Rattle.metrics_core.specs.declared.numbers.Fixed.{Fixed as FixedOf}
use Rattle.metrics_core.specs.declared.gauge_values.GaugeValue.{GaugeValue as GaugeValueOf}
use Rattle.metrics_core.specs.declared.gauge_values.GaugeValue.TheVariants.{Absolute, Increment, Decrement}
use Rattle.metrics_core.specs.Numbers.{one, add_64, sub_64}

-- the value of so many billionths
abbrev pub of_billionths : ℤ → FixedOf
of_billionths billionths = record { 0 = billionths }

-- a whole number as a value
abbrev pub fixed_of_whole : ℤ → Option FixedOf
fixed_of_whole n = Some (of_billionths (n *ℤ pos one))

-- so many billionths, where they fit in a value
abbrev pub fixed_of_billionths : ℕ → Option FixedOf
fixed_of_billionths n = if nat_lt n (2 ^ 63) then Some (of_billionths (pos n)) else None

-- the value of a gauge after a change: sums are taken modulo 2 ^ 64
abbrev pub updated : GaugeValueOf → FixedOf → FixedOf
updated (Absolute value) input = value
updated (Increment value) input = of_billionths (add_64 input.0 value.0)
updated (Decrement value) input = of_billionths (sub_64 input.0 value.0)
