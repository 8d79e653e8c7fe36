-- Which settings of a script are refused, and what stands where a script says nothing (this project's rules).
use Rattle.std.specs.Prelude.{ℕ, ◌*◌, ◌^◌, ◌==◌, ◌||◌, Bool, true, false, nat_lt, not, List, [], ◌∷◌, ◌++◌, codes, ℤ, Option, Some, None, option_map, unwrap_or, if◌then◌else◌}
use Rattle.std.specs.List.{list_any}
use Rattle.std.specs.Option.{option_or}
use Rattle.std.specs.declared.vec.Vec.{Vec}
use Rattle.std.specs.declared.alloc.Global.{Global}
use Rattle.metrics_core.specs.declared.numbers.Fixed.{Fixed}
use Rattle.prom_format.specs.declared.matchers.Matcher.{Matcher}
use Rattle.prom_format.specs.Matchers.{MatcherText}
use Rattle.prom_format.specs.MatcherTexts.{matcher_text}
use Rattle.native_histograms.specs.Settings.{refusal}
use Rattle.dsd_addresses.specs.Faults.{limit_fault_text}
use Rattle.dsd_addresses.specs.Limits.{fault_of_limit}
use Rattle.dsd_addresses.specs.Remotes.{RemoteText}
use Rattle.dsd_addresses.specs.declared.faults.LimitFault.{LimitFault}
use Rattle.drive_script.specs.Texts.{values_of}
use Rattle.drive_script.specs.Script.{NativeLine, SettingsText}
use Rattle.drive_script.specs.declared.faults.SettingFault.{SettingFault}
use Rattle.drive_script.specs.declared.faults.SettingFault.TheVariants as faults

-- why a setting is refused
pub data Refusal : Type 0 where
  Empty : Refusal
  ZeroDuration : Refusal
  SpanTooLong : Refusal
  Native : List ℕ → Refusal
  Limit : LimitFault → Refusal

abbrev pub refusal_of : SettingFault → Refusal
refusal_of faults.Empty = Empty
refusal_of faults.ZeroDuration = ZeroDuration
refusal_of faults.SpanTooLong = SpanTooLong
refusal_of (faults.Native reason) = Native reason.now
refusal_of (faults.Limit fault) = Limit fault

-- what is said of it, as the exporters' own refusals say it
abbrev pub refusal_text : Refusal → List ℕ
refusal_text Empty = codes "bucket bounds/quantiles cannot be empty"
refusal_text ZeroDuration = codes "bucket durations cannot be set to zero"
refusal_text SpanTooLong = codes "bucket durations exceed 64 bits of nanoseconds"
refusal_text (Native reason) = reason
refusal_text (Limit fault) = codes "invalid configuration: " ++ limit_fault_text fault

-- how many buckets a window has, and their width: three of 20 seconds where there is no summary line
abbrev pub window_settings : Option (ℕ × ℕ) → ℕ × ℕ
window_settings summary = unwrap_or summary (3, 20000000000)

-- a list of numbers without any, and a line of such a list
abbrev pub is_none : List ℤ → Bool
is_none [] = true
is_none (number ∷ numbers) = false

abbrev pub has_none : Option (List ℤ) → Bool
has_none None = false
has_none (Some numbers) = is_none numbers

abbrev pub rule_has_none : MatcherText × List ℤ → Bool
rule_has_none rule = is_none rule.1

-- a rule as it stands in the script
abbrev pub rule_of : Matcher × Vec Fixed Global → MatcherText × List ℤ
rule_of rule = (matcher_text rule.0, values_of rule.1.items)

-- the first of the lines of native histograms that is refused, and its reason
abbrev pub refused_native : List NativeLine → Option (List ℕ)
refused_native [] = None
refused_native (line ∷ lines) = option_or (refusal line.factor line.max_buckets line.threshold) (refused_native lines)

-- a window's width of 0, or its span past 64 bits
abbrev pub refused_window : ℕ × ℕ → Option Refusal
refused_window window =
    if window.1 == 0 then Some ZeroDuration
    else if not (nat_lt (window.0 * window.1) (2 ^ 64)) then Some SpanTooLong
    else None

-- a payload limit that the address does not allow
abbrev pub refused_limit : Option ℕ → RemoteText → Option Refusal
refused_limit None to = None
refused_limit (Some limit) to = option_map Limit (fault_of_limit limit to)

-- The first setting that is refused: quantiles or bounds without any, the first line of native histograms that is refused, the
-- width and the span of the window, the limit of payloads to this address.
abbrev pub refused_setting : SettingsText → RemoteText → Option Refusal
refused_setting s to =
    if has_none s.quantiles || (has_none s.buckets || list_any rule_has_none s.buckets_for) then Some Empty
    else option_or (option_map Native (refused_native s.native_for))
    (option_or (refused_window (window_settings s.summary)) (refused_limit s.dsd_limit to))
