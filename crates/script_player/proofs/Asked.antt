-- What an exporter is told of a script's settings is what the script asks for.
use Rattle.std.proofs.Common.{◌≡◌, ℕ, List, [], ◌∷◌, ◌++◌, map, fold, append-nil, refl, sym, ap}
use Rattle.std.specs.Prelude.{◌||◌, ℤ, Option, Some, None, option_map, unwrap_or}
use Rattle.std.specs.Int.NonZero.{non_zero_u32_get}
use Rattle.std.specs.declared.num.NonZeroU32.{NonZeroU32}
use Rattle.std.specs.declared.vec.Vec.{Vec}
use Rattle.std.specs.declared.alloc.Global.{Global}
use Rattle.metrics_core.specs.Keys.{put_label}
use Rattle.metrics_core.specs.declared.numbers.Fixed.{Fixed}
use Rattle.prom_format.specs.LabelSets.{labels_of}
use Rattle.prom_format.specs.Matchers.{MatcherText, sanitized_matcher}
use Rattle.prom_format.specs.MatcherTexts.{matcher_text}
use Rattle.prom_format.specs.declared.matchers.Matcher.{Matcher}
use Rattle.prom_exporter.specs.Families.{ExporterSettings}
use Rattle.prom_exporter.specs.Exporter.{default_settings}
use Rattle.native_histograms.specs.Native.{NativeText}
use Rattle.native_histograms.specs.Settings.{Accepts}
use Rattle.drive_script.specs.Script.{NativeLine}
use Rattle.drive_script.specs.Settings.{window_settings}
use Rattle.drive_script.specs.Texts.{native_of, settings_of, values_of}
use Rattle.drive_script.specs.declared.script.Settings.{Settings}
use Rattle.script_player.specs.Play.{exporter_settings, native_text}
use Rattle.script_player.specs.Told.{native_told, rule_told}

rules_same : (rules : List (Matcher × Vec Fixed Global)) → map rule_told rules
    ≡ map (λ (rule : MatcherText × List ℤ). (sanitized_matcher rule.0, rule.1)) (map (λ (rule : Matcher × Vec Fixed Global). (matcher_text rule.0, values_of rule.1.items)) rules)
rules_same [] = refl
rules_same (rule ∷ rules) = ap (λ l. rule_told rule ∷ l) (rules_same rules)

native_same : (lines : List (Matcher × Fixed × ℕ × Fixed)) → map native_told lines
    ≡ map (λ (line : NativeLine). (sanitized_matcher line.matcher, native_text line.factor line.max_buckets line.threshold)) (map native_of lines)
native_same [] = refl
native_same (line ∷ lines) = ap (λ l. native_told line ∷ l) (native_same lines)

-- settings that are accepted are those that the script asks for
pub accepted_text : (factor : ℤ) (greatest : ℕ) (zero : ℤ) (config : NativeText) → Accepts factor greatest zero config → config ≡ native_text factor greatest zero
accepted_text factor greatest zero config accepts = (λ i. record {
  depth = sym (ap (λ d. unwrap_or d 0) accepts.depth) i;
  max_buckets = accepts.max_buckets i;
  threshold = accepts.threshold i;
})

abbrev as_numbers : Option (NonZeroU32 × ℕ) → Option (ℕ × ℕ)
as_numbers summary = option_map (λ (s : NonZeroU32 × ℕ). (non_zero_u32_get s.0, s.1)) summary

count_same : (summary : Option (NonZeroU32 × ℕ)) → unwrap_or (option_map (λ (w : NonZeroU32 × ℕ). non_zero_u32_get w.0) summary) 3 ≡ (window_settings (as_numbers summary)).0
count_same None = refl
count_same (Some window) = refl

width_same : (summary : Option (NonZeroU32 × ℕ)) → unwrap_or (option_map (λ (w : NonZeroU32 × ℕ). w.1) summary) 20000000000 ≡ (window_settings (as_numbers summary)).1
width_same None = refl
width_same (Some window) = refl

-- the default settings, with all that the script's settings say
abbrev pub told_all : Settings → ExporterSettings
told_all s = record default_settings {
  quantiles = unwrap_or (option_map (λ (numbers : Vec Fixed Global). values_of numbers.items) s.quantiles) default_settings.quantiles;
  buckets = option_map (λ (numbers : Vec Fixed Global). values_of numbers.items) s.buckets;
  buckets_for = [] ++ map rule_told s.buckets_for.items;
  native_for = [] ++ map native_told s.native_for.items;
  bucket_count = unwrap_or (option_map (λ (w : NonZeroU32 × ℕ). non_zero_u32_get w.0) s.summary) 3;
  bucket_duration = unwrap_or (option_map (λ (w : NonZeroU32 × ℕ). w.1) s.summary) 20000000000;
  idle = option_map (λ (mask, timeout). record { mask = mask; timeout = timeout }) s.idle;
  series_limit = option_map non_zero_u32_get s.series_limit;
  units = s.naming || s.units;
  total_suffix = s.naming;
  globals = fold put_label [] (labels_of s.globals.items);
}

pub told_is_asked : (s : Settings) → told_all s ≡ exporter_settings (settings_of s)
told_is_asked s = (λ i. record (told_all s) {
  buckets_for = rules_same s.buckets_for.items i;
  native_for = native_same s.native_for.items i;
  bucket_count = count_same s.summary i;
  bucket_duration = width_same s.summary i;
  globals = fold put_label [] (sym (append-nil (labels_of s.globals.items)) i);
})
