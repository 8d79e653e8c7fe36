-- The script that a value of the program stands for.
use Rattle.std.specs.Prelude.{◌≡◌, ◌+◌, ℕ, ℤ, List, map, flat_map, filter_map, option_map, string_bytes}
use Rattle.std.specs.Int.NonZero.{non_zero_u32_get}
use Rattle.std.specs.declared.string.String.{String}
use Rattle.std.specs.declared.alloc.Global.{Global}
use Rattle.prom_format.specs.declared.matchers.Matcher.{Matcher}
use Rattle.metrics_core.specs.declared.numbers.Fixed.{Fixed}
use Rattle.metrics_core.specs.declared.kinds.MetricKind.{MetricKind}
use Rattle.metrics_core.specs.Keys.{LabelText, KeyText}
use Rattle.prom_format.specs.LabelSets.{labels_of}
use Rattle.prom_format.specs.MatcherTexts.{matcher_text}
use Rattle.drive_script.specs.Growth.{IsLeastPlace}
use Rattle.drive_script.specs.Heads.{AreNoted}
use Rattle.drive_script.specs.Reading.{Registered}
use Rattle.drive_script.specs.declared.script.Settings.{Settings}
use Rattle.drive_script.specs.Script as text
use Rattle.drive_script.specs.Valid.{Registration, registration_of, registered_in, registered, sample_total, IsValid}
use Rattle.drive_script.specs.declared.progress.ScriptSoFar.{ScriptSoFar}
use Rattle.drive_script.specs.declared.script.Act.{Act}
use Rattle.drive_script.specs.declared.script.Act.TheVariants as acts
use Rattle.drive_script.specs.declared.script.CallLine.{CallLine}
use Rattle.drive_script.specs.declared.script.Setup.{Setup}
use Rattle.drive_script.specs.declared.script.Setup.TheVariants as setups
use Rattle.drive_script.specs.declared.script.Round.{Round}
use Rattle.drive_script.specs.declared.script.Script.{Script}
use Rattle.drive_script.specs.declared.headers.HeaderLine.{HeaderLine}
use Rattle.drive_script.specs.declared.headers.HeaderLine.TheVariants as headers
use Rattle.drive_script.specs.declared.lines.Statement.{Statement}
use Rattle.drive_script.specs.declared.lines.Statement.TheVariants as lines

abbrev pub act_of : Act → text.Act
act_of (acts.Inc n) = text.Inc n
act_of (acts.Abs n) = text.Abs n
act_of (acts.Add value) = text.Add value.0
act_of (acts.Sub value) = text.Sub value.0
act_of (acts.Set value) = text.Set value.0
act_of (acts.Rec value) = text.Rec value.0
act_of (acts.RecN value count) = text.RecN value.0 count

abbrev pub call_line_of : CallLine → text.CallLine
call_line_of line = record { lane = line.lane; handle = line.handle; act = act_of line.act }

abbrev pub setup_of : Setup → text.SetupLine
setup_of (setups.Describe kind name unit description) = text.Describe kind (string_bytes name) unit (string_bytes description)
setup_of (setups.Register kind key) = text.Register kind key

abbrev pub round_of : Round → text.RoundText
round_of round = record { moment = round.moment; setup = map setup_of round.setup.items; calls = map call_line_of round.calls.items }

abbrev pub values_of : List Fixed → List ℤ
values_of values = map (λ value. value.0) values

abbrev pub native_of : Matcher × Fixed × ℕ × Fixed → text.NativeLine
native_of line = record { matcher = matcher_text line.0; factor = line.1.0; max_buckets = line.2; threshold = line.3.0 }

abbrev pub settings_of : Settings → text.SettingsText
settings_of settings = record {
  quantiles = option_map (λ quantiles. values_of quantiles.items) settings.quantiles;
  buckets = option_map (λ bounds. values_of bounds.items) settings.buckets;
  buckets_for = map (λ rule. (matcher_text rule.0, values_of rule.1.items)) settings.buckets_for.items;
  native_for = map native_of settings.native_for.items;
  summary = option_map (λ summary. (non_zero_u32_get summary.0, summary.1)) settings.summary;
  idle = settings.idle;
  naming = settings.naming;
  units = settings.units;
  globals = labels_of settings.globals.items;
  dsd_limit = settings.dsd_limit;
  dsd_aggressive = settings.dsd_aggressive;
  dsd_prefix = option_map (λ prefix. string_bytes prefix) settings.dsd_prefix;
  dsd_globals = labels_of settings.dsd_globals.items;
  dsd_histograms = settings.dsd_histograms;
  series_limit = option_map non_zero_u32_get settings.series_limit;
}

abbrev pub script_of : Script → text.ScriptText
script_of script = record { settings = settings_of script.settings; rounds = map round_of script.rounds.items }

-- the register lines of setup lines, and of rounds
abbrev pub registrations_in : List Setup → List Registration
registrations_in setup = filter_map registration_of (map setup_of setup)

abbrev pub registrations_of : List Round → List Registration
registrations_of rounds = flat_map registered_in (map round_of rounds)

-- ---- lines

abbrev pub label_of : String Global × String Global → LabelText
label_of label = record { key = string_bytes label.0; value = string_bytes label.1 }

abbrev pub registered_of : MetricKind × KeyText → Registered
registered_of registered = (registered.0, (registered.1.name, registered.1.labels))

abbrev pub header_of : HeaderLine → text.HeaderLine
header_of (headers.Quantiles values) = text.Quantiles (values_of values.items)
header_of (headers.Buckets bounds) = text.Buckets (values_of bounds.items)
header_of (headers.BucketsFor matcher bounds) = text.BucketsFor (matcher_text matcher) (values_of bounds.items)
header_of (headers.NativeFor matcher factor max_buckets threshold) = text.NativeFor (native_of (matcher, factor, max_buckets, threshold))
header_of (headers.Summary count duration) = text.Summary (non_zero_u32_get count) duration
header_of (headers.Idle mask timeout) = text.Idle mask timeout
header_of headers.Naming = text.Naming
header_of headers.Units = text.Units
header_of (headers.Global key value) = text.Global (label_of (key, value))
header_of (headers.SeriesLimit limit) = text.SeriesLimit (non_zero_u32_get limit)
header_of (headers.Limit limit) = text.Limit limit
header_of (headers.Mode aggressive) = text.Mode aggressive
header_of (headers.NamePrefix prefix) = text.NamePrefix (string_bytes prefix)
header_of (headers.GlobalTag key value) = text.GlobalTag (label_of (key, value))
header_of (headers.HistogramKind histograms) = text.HistogramKind histograms

abbrev pub line_of : Statement → text.ScriptLine
line_of (lines.Header line) = text.Header (header_of line)
line_of (lines.Round moment) = text.Round moment
line_of (lines.Setup setup) = text.Setup (setup_of setup)
line_of (lines.Call call) = text.CallOf (call_line_of call)

-- ---- the progress of the reading

-- the script of the settings and the rounds so far
abbrev pub script_so_far : ScriptSoFar → text.ScriptText
script_so_far progress = record { settings = settings_of progress.settings; rounds = map round_of progress.rounds.items }

-- what is known beside the script, where its header lines said this of the mode and of the kind: the global labels, the kind of
-- each register line, which lines print alike, how many more samples its call lines may record, and the least place of one
-- more header line
pub record IsKnown (said : text.Said) (progress : ScriptSoFar) : Type 0 where
  pub globals : labels_of progress.heads.globals.entries ≡ text.global_labels (script_so_far progress).settings
  pub kinds : progress.kinds.items ≡ map (λ r. r.kind) (registered (script_so_far progress))
  pub heads : AreNoted (labels_of progress.heads.globals.entries) progress.heads.table (registered (script_so_far progress))
  pub samples : sample_total (script_so_far progress) + progress.samples_left ≡ 16777216
  pub order : IsLeastPlace progress.least_place (text.header_lines (script_so_far progress).settings said)

-- the progress stands behind these lines: they are the valid script of its rounds
pub record StandsBehind (lines : List (List ℕ)) (progress : ScriptSoFar) : Type 0 where
  pub script : text.IsScript lines (script_so_far progress)
  pub valid : IsValid (script_so_far progress)
  pub known : IsKnown script.said progress
