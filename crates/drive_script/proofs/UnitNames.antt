-- The names of units are texts, and what is none of them names no unit.
use Rattle.std.proofs.Common.{◌≡◌, ◌≢◌, ℕ, false, List, Option, Some, None, Result, Ok, Err, refl, sym, ap, subst, ◌∙◌}
use Rattle.std.specs.Prelude.{bytes_eq, codes, IfSome, IsUtf8, MatchResult, if◌then◌else◌}
use Rattle.std.specs.Fmt.{digits}
use Rattle.std.specs.Char.{encode_utf8}
use Rattle.std.specs.Result.{result_ok}
use Rattle.metrics_core.specs.Units.{unit_text}
use Rattle.metrics_core.specs.UnitLaws.{unit_of, unit_of-text}
use Rattle.metrics_core.specs.declared.units.Unit.{Unit as UnitOf}
use Rattle.metrics_core.specs.declared.units.Unit.TheVariants as units
use Rattle.drive_script.specs.Reading.{◌>>=◌, unit_named}

pub none_named : (word : List ℕ) → bytes_eq word (codes "-") ≡ false → ((unit : UnitOf) → word ≢ unit_text unit) → unit_named word ≡ None
none_named word other none = ap (λ b. if b then Some None else (unit_of word >>= λ u. Some (Some u))) other ∙ by (unit_of word) refl
  where
    by : (o : Option UnitOf) → unit_of word ≡ o → (o >>= λ u. Some (Some u)) ≡ None
    by None is = refl
    by (Some u) is = absurd (none u (sym (subst (λ o. IfSome o (λ u. unit_text u ≡ word)) is (unit_of-text word))))

unit_utf8 : (unit : UnitOf) → IsUtf8 (unit_text unit)
unfolding digits encode_utf8
unit_utf8 units.Count = (codes "count", (refl, refl))
unit_utf8 units.Percent = (codes "percent", (refl, refl))
unit_utf8 units.Seconds = (codes "seconds", (refl, refl))
unit_utf8 units.Milliseconds = (codes "milliseconds", (refl, refl))
unit_utf8 units.Microseconds = (codes "microseconds", (refl, refl))
unit_utf8 units.Nanoseconds = (codes "nanoseconds", (refl, refl))
unit_utf8 units.Tebibytes = (codes "tebibytes", (refl, refl))
unit_utf8 units.Gibibytes = (codes "gibibytes", (refl, refl))
unit_utf8 units.Mebibytes = (codes "mebibytes", (refl, refl))
unit_utf8 units.Kibibytes = (codes "kibibytes", (refl, refl))
unit_utf8 units.Bytes = (codes "bytes", (refl, refl))
unit_utf8 units.TerabitsPerSecond = (codes "terabits_per_second", (refl, refl))
unit_utf8 units.GigabitsPerSecond = (codes "gigabits_per_second", (refl, refl))
unit_utf8 units.MegabitsPerSecond = (codes "megabits_per_second", (refl, refl))
unit_utf8 units.KilobitsPerSecond = (codes "kilobits_per_second", (refl, refl))
unit_utf8 units.BitsPerSecond = (codes "bits_per_second", (refl, refl))
unit_utf8 units.CountPerSecond = (codes "count_per_second", (refl, refl))

-- bytes that are no text name no unit
pub no_text_named : {S E : Type 0} (Q : S → Type 0) (P : E → Type 0) (word : List ℕ) (r : Result S E) → MatchResult r Q (λ e. ¬ (IsUtf8 word) × P e) → result_ok r ≡ None → (unit : UnitOf) → word ≢ unit_text unit
no_text_named Q P word (Ok x) h e unit is = cc
no_text_named Q P word (Err x) h e unit is = h.0 (subst IsUtf8 (sym is) (unit_utf8 unit))
