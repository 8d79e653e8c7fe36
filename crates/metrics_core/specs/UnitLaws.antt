-- A unit is found by its text, and by no other.
use Rattle.std.proofs.Common.{◌≡◌, ℕ, List, [], ◌∷◌, refl, true, false, cond}
use Rattle.std.specs.Prelude.{bytes_eq, find, Option, Some, IfSome}
use Rattle.std.proofs.lemmas.Slice.Eq.{bytes_eq-Decides}
use Rattle.metrics_core.specs.declared.units.Unit.{Unit as UnitOf}
use Rattle.metrics_core.specs.declared.units.Unit.TheVariants.{Count, Percent, Seconds, Milliseconds, Microseconds, Nanoseconds, Tebibytes, Gibibytes, Mebibytes, Kibibytes, Bytes, TerabitsPerSecond, GigabitsPerSecond, MegabitsPerSecond, KilobitsPerSecond, BitsPerSecond, CountPerSecond}
use Rattle.metrics_core.specs.Units.{unit_text}

-- all units
abbrev pub units : List UnitOf
units =
    Count ∷ Percent ∷ Seconds ∷ Milliseconds ∷ Microseconds ∷ Nanoseconds ∷ Tebibytes ∷ Gibibytes ∷ Mebibytes ∷ Kibibytes ∷ Bytes
    ∷ TerabitsPerSecond ∷ GigabitsPerSecond ∷ MegabitsPerSecond ∷ KilobitsPerSecond ∷ BitsPerSecond ∷ CountPerSecond ∷ []

-- the unit of a text
abbrev pub unit_of : List ℕ → Option UnitOf
unit_of text = find (λ unit. bytes_eq (unit_text unit) text) units

pub unit_of-unit_text : (unit : UnitOf) → unit_of (unit_text unit) ≡ Some unit
unit_of-unit_text Count = refl
unit_of-unit_text Percent = refl
unit_of-unit_text Seconds = refl
unit_of-unit_text Milliseconds = refl
unit_of-unit_text Microseconds = refl
unit_of-unit_text Nanoseconds = refl
unit_of-unit_text Tebibytes = refl
unit_of-unit_text Gibibytes = refl
unit_of-unit_text Mebibytes = refl
unit_of-unit_text Kibibytes = refl
unit_of-unit_text Bytes = refl
unit_of-unit_text TerabitsPerSecond = refl
unit_of-unit_text GigabitsPerSecond = refl
unit_of-unit_text MegabitsPerSecond = refl
unit_of-unit_text KilobitsPerSecond = refl
unit_of-unit_text BitsPerSecond = refl
unit_of-unit_text CountPerSecond = refl

-- what is found in a list by its text has that text
found : (text : List ℕ) (among : List UnitOf) → IfSome (find (λ unit. bytes_eq (unit_text unit) text) among) (λ unit. unit_text unit ≡ text)
found text [] = tt
found text (unit ∷ others) =
    (elim (bytes_eq (unit_text unit) text) as (λ b. bytes_eq (unit_text unit) text ≡ b → IfSome (cond b (Some unit) (find (λ u. bytes_eq (unit_text u) text) others)) (λ u. unit_text u ≡ text)) [
      | true ↦ λ same. (bytes_eq-Decides (unit_text unit) text).0 same
      | false ↦ λ other. found text others
    ]) refl

-- a text gives a unit exactly where it is that unit's
pub unit_of-text : (text : List ℕ) → IfSome (unit_of text) (λ unit. unit_text unit ≡ text)
unit_of-text text = found text units
