-- The script grammar (this project's format): which lines are a script.
use Rattle.std.specs.Prelude.{◌≡◌, ℕ, ◌^◌, ◌<◌, ◌≤◌, ◌==◌, Bool, false, List, [], ◌∷◌, ◌++◌, map, ℤ, Option, None, option_map, option_to_list, codes, decimal, flat_map, unwrap_or, IsUtf8, if◌then◌else◌}
use Rattle.std.specs.List.{AllZip, slice_split}
use Rattle.metrics_core.specs.declared.kinds.MetricKind.{MetricKind}
use Rattle.metrics_core.specs.declared.kinds.MetricKind.TheVariants as kinds
use Rattle.metrics_core.specs.declared.units.Unit.{Unit as UnitOf}
use Rattle.metrics_core.specs.Characters.{newline}
use Rattle.metrics_core.specs.Kinds.{KindMask, kind_text}
use Rattle.metrics_core.specs.Keys.{LabelText, KeyText, label_set}
use Rattle.metrics_core.specs.Calls.{Call}
use Rattle.metrics_core.specs.Calls as calls
use Rattle.prom_format.specs.Matchers.{MatcherText, matcher_bytes}
use Rattle.drive_script.specs.Words.{spaced, IsDec, AreDecs, form_word, IsMask, quoted, label_word, unit_word, mode_word, histogram_word, IsLabelUtf8, IsKeyUtf8}

-- ---- scripts

-- what a native-for line asks for
pub record NativeLine : Type 0 where
  pub matcher : MatcherText
  pub factor : ℤ
  pub max_buckets : ℕ
  pub threshold : ℤ

-- the settings that the header lines give
pub record SettingsText : Type 0 where
  pub quantiles : Option (List ℤ)
  pub buckets : Option (List ℤ)
  pub buckets_for : List (MatcherText × List ℤ)
  pub native_for : List NativeLine
  pub summary : Option (ℕ × ℕ)  -- bucket count, bucket duration in nanoseconds
  pub idle : Option (KindMask × ℕ)  -- the kinds that fall idle, timeout in nanoseconds
  pub naming : Bool
  pub units : Bool
  pub globals : List LabelText
  pub dsd_limit : Option ℕ
  pub dsd_aggressive : Bool
  pub dsd_prefix : Option (List ℕ)
  pub dsd_globals : List LabelText
  pub dsd_histograms : Bool
  pub series_limit : Option ℕ

-- the settings of a script without header lines but for these global labels
abbrev pub only_globals : List LabelText → SettingsText
only_globals globals = record {
  quantiles = None;
  buckets = None;
  buckets_for = [];
  native_for = [];
  summary = None;
  idle = None;
  naming = false;
  units = false;
  globals = globals;
  dsd_limit = None;
  dsd_aggressive = false;
  dsd_prefix = None;
  dsd_globals = [];
  dsd_histograms = false;
  series_limit = None;
}

-- the global labels: of those with equal keys the last one's value counts, in the place of the first
abbrev pub global_labels : SettingsText → List LabelText
global_labels settings = label_set settings.globals []

-- a line that describes a metric, or registers a series
pub data SetupLine : Type 0 where
  Describe : MetricKind → List ℕ → Option UnitOf → List ℕ → SetupLine
  Register : MetricKind → KeyText → SetupLine

-- what a call line does: on a counter, on a gauge, on a histogram
pub data Act : Type 0 where
  Inc : ℕ → Act
  Abs : ℕ → Act
  Add : ℤ → Act
  Sub : ℤ → Act
  Set : ℤ → Act
  Rec : ℤ → Act
  RecN : ℤ → ℕ → Act

-- a call of a lane on the series of a register line, whose handle is its number among them
pub record CallLine : Type 0 where
  pub lane : ℕ
  pub handle : ℕ
  pub act : Act

-- a round: its moment in nanoseconds, its setup lines and its call lines
pub record RoundText : Type 0 where
  pub moment : ℕ
  pub setup : List SetupLine
  pub calls : List CallLine

-- a script: its settings and its rounds
pub record ScriptText : Type 0 where
  pub settings : SettingsText
  pub rounds : List RoundText

-- ---- lines

-- what a header line says
pub data HeaderLine : Type 0 where
  Quantiles : List ℤ → HeaderLine
  Buckets : List ℤ → HeaderLine
  BucketsFor : MatcherText → List ℤ → HeaderLine
  NativeFor : NativeLine → HeaderLine
  Summary : ℕ → ℕ → HeaderLine
  Idle : KindMask → ℕ → HeaderLine
  Naming : HeaderLine
  Units : HeaderLine
  Global : LabelText → HeaderLine
  SeriesLimit : ℕ → HeaderLine
  Limit : ℕ → HeaderLine
  Mode : Bool → HeaderLine
  NamePrefix : List ℕ → HeaderLine
  GlobalTag : LabelText → HeaderLine
  HistogramKind : Bool → HeaderLine

-- what one line says
pub data ScriptLine : Type 0 where
  Header : HeaderLine → ScriptLine
  Round : ℕ → ScriptLine
  Setup : SetupLine → ScriptLine
  CallOf : CallLine → ScriptLine

-- the words of a header line
abbrev pub AreHeaderWords : List (List ℕ) → HeaderLine → Type 0
AreHeaderWords words (Quantiles values) = (decs : List (List ℕ)) × AreDecs decs values × (words ≡ codes "quantiles" ∷ decs)
AreHeaderWords words (Buckets values) = (decs : List (List ℕ)) × AreDecs decs values × (words ≡ codes "buckets" ∷ decs)
AreHeaderWords words (BucketsFor matcher values) =
    (decs : List (List ℕ)) × IsUtf8 (matcher_bytes matcher) × AreDecs decs values
    × (words ≡ codes "buckets-for" ∷ form_word matcher ∷ quoted (matcher_bytes matcher) ∷ decs)
AreHeaderWords words (NativeFor native) =
    (factor threshold : List ℕ) × IsUtf8 (matcher_bytes native.matcher) × IsDec factor native.factor × (native.max_buckets < 2 ^ 32) × IsDec threshold native.threshold
    × (words ≡ codes "native-for" ∷ form_word native.matcher ∷ quoted (matcher_bytes native.matcher) ∷ factor ∷ decimal native.max_buckets ∷ threshold ∷ [])
AreHeaderWords words (Summary count duration) =
    (1 ≤ count) × (count < 2 ^ 32) × (duration < 2 ^ 64) × (words ≡ codes "summary" ∷ decimal count ∷ decimal duration ∷ [])
AreHeaderWords words (Idle mask timeout) =
    (letters : List ℕ) × IsMask letters mask × (timeout < 2 ^ 64) × (words ≡ codes "idle" ∷ letters ∷ decimal timeout ∷ [])
AreHeaderWords words Naming = words ≡ codes "naming" ∷ codes "on" ∷ []
AreHeaderWords words Units = words ≡ codes "units" ∷ codes "on" ∷ []
AreHeaderWords words (Global label) =
    IsLabelUtf8 label × (words ≡ codes "global" ∷ quoted label.key ∷ quoted label.value ∷ [])
AreHeaderWords words (SeriesLimit limit) = (1 ≤ limit) × (limit < 2 ^ 32) × (words ≡ codes "series-limit" ∷ decimal limit ∷ [])
AreHeaderWords words (Limit limit) = (limit < 2 ^ 64) × (words ≡ codes "dsd-limit" ∷ decimal limit ∷ [])
AreHeaderWords words (Mode aggressive) = words ≡ codes "dsd-mode" ∷ mode_word aggressive ∷ []
AreHeaderWords words (NamePrefix text) = IsUtf8 text × (words ≡ codes "dsd-prefix" ∷ quoted text ∷ [])
AreHeaderWords words (GlobalTag label) =
    IsLabelUtf8 label × (words ≡ codes "dsd-global" ∷ quoted label.key ∷ quoted label.value ∷ [])
AreHeaderWords words (HistogramKind histograms) = words ≡ codes "dsd-kind" ∷ histogram_word histograms ∷ []

-- the words of a setup line: it describes the metric of a kind and a name, or registers a series of a kind under a key
abbrev pub AreSetupWords : List (List ℕ) → SetupLine → Type 0
AreSetupWords words (Describe kind name unit text) =
    IsUtf8 name × IsUtf8 text × (words ≡ codes "describe" ∷ kind_text kind ∷ quoted name ∷ unit_word unit ∷ quoted text ∷ [])
AreSetupWords words (Register kind key) =
    IsKeyUtf8 key × (words ≡ codes "register" ∷ kind_text kind ∷ quoted key.name ∷ map label_word key.labels)

-- the words of a call behind its lane: the act, the handle, and what it is made with; a `recn` line records 1 to 1,000,000 samples
abbrev pub AreActWords : List (List ℕ) → ℕ → Act → Type 0
AreActWords words handle (Inc n) = (n < 2 ^ 64) × (words ≡ codes "inc" ∷ decimal handle ∷ decimal n ∷ [])
AreActWords words handle (Abs n) = (n < 2 ^ 64) × (words ≡ codes "abs" ∷ decimal handle ∷ decimal n ∷ [])
AreActWords words handle (Add v) = (dec : List ℕ) × IsDec dec v × (words ≡ codes "add" ∷ decimal handle ∷ dec ∷ [])
AreActWords words handle (Sub v) = (dec : List ℕ) × IsDec dec v × (words ≡ codes "sub" ∷ decimal handle ∷ dec ∷ [])
AreActWords words handle (Set v) = (dec : List ℕ) × IsDec dec v × (words ≡ codes "set" ∷ decimal handle ∷ dec ∷ [])
AreActWords words handle (Rec v) = (dec : List ℕ) × IsDec dec v × (words ≡ codes "rec" ∷ decimal handle ∷ dec ∷ [])
AreActWords words handle (RecN v n) =
    (dec : List ℕ) × IsDec dec v × (1 ≤ n) × (n ≤ 1000000) × (words ≡ codes "recn" ∷ decimal handle ∷ dec ∷ decimal n ∷ [])

-- the words of each form of line; lanes are 0 to 7
abbrev pub AreWords : List (List ℕ) → ScriptLine → Type 0
AreWords words (Header line) = AreHeaderWords words line
AreWords words (Round moment) = (moment < 2 ^ 64) × (words ≡ codes "round" ∷ decimal moment ∷ [])
AreWords words (Setup setup) = AreSetupWords words setup
AreWords words (CallOf call) =
    (rest : List (List ℕ)) × AreActWords rest call.handle call.act × (call.lane < 8) × (call.handle < 2 ^ 32) × (words ≡ decimal call.lane ∷ rest)

-- the words of a line stand one space apart
pub record IsLine (bytes : List ℕ) (says : ScriptLine) : Type 0 where
  pub words : List (List ℕ)
  pub formed : AreWords words says
  pub spelled : bytes ≡ spaced words

-- ---- the lines of a script

-- what the header lines say of the mode of aggregation, and of the kind of histogram lines, where they say it: whether the
-- mode is aggressive, and whether the kind is `h`
pub record Said : Type 0 where
  pub mode : Option Bool
  pub kind : Option Bool

-- the settings have the mode and the kind that were said; else the mode is conservative, and the kind `d`
abbrev pub IsMeant : Said → SettingsText → Type 0
IsMeant said settings = (settings.dsd_aggressive ≡ unwrap_or said.mode false) × (settings.dsd_histograms ≡ unwrap_or said.kind false)

-- a line that stands where a setting is on
abbrev pub where_on : Bool → HeaderLine → List HeaderLine
where_on on line = if on then line ∷ [] else []

-- the header lines, in their order
abbrev pub header_lines : SettingsText → Said → List HeaderLine
header_lines settings said =
    option_to_list (option_map Quantiles settings.quantiles)
    ++ option_to_list (option_map Buckets settings.buckets)
    ++ map (λ rule. BucketsFor rule.0 rule.1) settings.buckets_for
    ++ map NativeFor settings.native_for
    ++ option_to_list (option_map (λ summary. Summary summary.0 summary.1) settings.summary)
    ++ option_to_list (option_map (λ idle. Idle idle.0 idle.1) settings.idle)
    ++ where_on settings.naming Naming
    ++ where_on settings.units Units
    ++ map Global settings.globals
    ++ option_to_list (option_map SeriesLimit settings.series_limit)
    ++ option_to_list (option_map Limit settings.dsd_limit)
    ++ option_to_list (option_map Mode said.mode)
    ++ option_to_list (option_map NamePrefix settings.dsd_prefix)
    ++ map GlobalTag settings.dsd_globals
    ++ option_to_list (option_map HistogramKind said.kind)

-- a round: its line, setup lines, call lines
abbrev pub round_lines : RoundText → List ScriptLine
round_lines round = Round round.moment ∷ map Setup round.setup ++ map CallOf round.calls

-- the lines are a script: header lines, then rounds, each line of its form
pub record IsScript (lines : List (List ℕ)) (script : ScriptText) : Type 0 where
  pub said : Said
  pub meant : IsMeant said script.settings
  pub each : AllZip IsLine lines (map Header (header_lines script.settings said) ++ flat_map round_lines script.rounds)

-- ---- bytes and lines

abbrev pub without_empty_last : List (List ℕ) → List (List ℕ)
without_empty_last [] = []
without_empty_last ([] ∷ []) = []
without_empty_last ((c ∷ piece) ∷ []) = (c ∷ piece) ∷ []
without_empty_last (piece ∷ other ∷ pieces) = piece ∷ without_empty_last (other ∷ pieces)

-- the lines of some bytes: the pieces between newlines, where an empty last piece is no line
abbrev pub lines_of : List ℕ → List (List ℕ)
lines_of bytes = without_empty_last (slice_split (λ c. c == newline) bytes)

-- ---- what a call line does, at its round's moment

abbrev pub call_of : ℕ → Act → Call
call_of moment (Inc n) = calls.Increment n
call_of moment (Abs n) = calls.Absolute n
call_of moment (Add v) = calls.Add v
call_of moment (Sub v) = calls.Subtract v
call_of moment (Set v) = calls.Set v
call_of moment (Rec v) = calls.Record v moment 1
call_of moment (RecN v n) = calls.Record v moment n

abbrev pub kind_of : Act → MetricKind
kind_of (Inc _) = kinds.Counter
kind_of (Abs _) = kinds.Counter
kind_of (Add _) = kinds.Gauge
kind_of (Sub _) = kinds.Gauge
kind_of (Set _) = kinds.Gauge
kind_of (Rec _) = kinds.Histogram
kind_of (RecN _ _) = kinds.Histogram
