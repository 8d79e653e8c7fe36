-- The texts of units (those of the `metrics` crate, version 0.24), and what they measure.
use Rattle.std.specs.Prelude.{ℕ, List, [], ◌∷◌, codes, Bool, true, false}
use Rattle.metrics_core.specs.declared.units.Unit.{Unit as UnitOf}
use Rattle.metrics_core.specs.declared.units.Unit.TheVariants.{Count, Percent, Seconds, Milliseconds, Microseconds, Nanoseconds, Tebibytes, Gibibytes, Mebibytes, Kibibytes, Bytes, TerabitsPerSecond, GigabitsPerSecond, MegabitsPerSecond, KilobitsPerSecond, BitsPerSecond, CountPerSecond}

-- the name of a unit
abbrev pub unit_text : UnitOf → List ℕ
unit_text Count = codes "count"
unit_text Percent = codes "percent"
unit_text Seconds = codes "seconds"
unit_text Milliseconds = codes "milliseconds"
unit_text Microseconds = codes "microseconds"
unit_text Nanoseconds = codes "nanoseconds"
unit_text Tebibytes = codes "tebibytes"
unit_text Gibibytes = codes "gibibytes"
unit_text Mebibytes = codes "mebibytes"
unit_text Kibibytes = codes "kibibytes"
unit_text Bytes = codes "bytes"
unit_text TerabitsPerSecond = codes "terabits_per_second"
unit_text GigabitsPerSecond = codes "gigabits_per_second"
unit_text MegabitsPerSecond = codes "megabits_per_second"
unit_text KilobitsPerSecond = codes "kilobits_per_second"
unit_text BitsPerSecond = codes "bits_per_second"
unit_text CountPerSecond = codes "count_per_second"

-- the short label of a unit, empty where it has none
abbrev pub unit_label : UnitOf → List ℕ
unit_label Count = []
unit_label Percent = codes "%"
unit_label Seconds = codes "s"
unit_label Milliseconds = codes "ms"
unit_label Microseconds = 206 ∷ 188 ∷ codes "s"
unit_label Nanoseconds = codes "ns"
unit_label Tebibytes = codes "TiB"
unit_label Gibibytes = codes "GiB"
unit_label Mebibytes = codes "MiB"
unit_label Kibibytes = codes "KiB"
unit_label Bytes = codes "B"
unit_label TerabitsPerSecond = codes "Tbps"
unit_label GigabitsPerSecond = codes "Gbps"
unit_label MegabitsPerSecond = codes "Mbps"
unit_label KilobitsPerSecond = codes "kbps"
unit_label BitsPerSecond = codes "bps"
unit_label CountPerSecond = codes "/s"

-- a unit of time
abbrev pub is_time : UnitOf → Bool
is_time Seconds = true
is_time Milliseconds = true
is_time Microseconds = true
is_time Nanoseconds = true
is_time _ = false

-- a unit of data in a time
abbrev pub is_data_rate : UnitOf → Bool
is_data_rate TerabitsPerSecond = true
is_data_rate GigabitsPerSecond = true
is_data_rate MegabitsPerSecond = true
is_data_rate KilobitsPerSecond = true
is_data_rate BitsPerSecond = true
is_data_rate _ = false

-- a unit of data, or of data in a time
abbrev pub is_data : UnitOf → Bool
is_data Tebibytes = true
is_data Gibibytes = true
is_data Mebibytes = true
is_data Kibibytes = true
is_data Bytes = true
is_data unit = is_data_rate unit
