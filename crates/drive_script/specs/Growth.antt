-- How a script grows by one line at its end.
use Rattle.std.specs.Prelude.{◌≡◌, ◌↔◌, ℕ, suc, ◌≤◌, Bool, true, false, List, [], ◌∷◌, ◌++◌, length, All, IfSome, Some, if◌then◌else◌}
use Rattle.metrics_core.specs.Keys.{LabelText, put_label}
use Rattle.drive_script.specs.Script.{SettingsText, ScriptText, RoundText, SetupLine, CallLine, HeaderLine, Quantiles, Buckets, BucketsFor, NativeFor, Summary, Idle, Naming, Units, Global, SeriesLimit, Limit, Mode, NamePrefix, GlobalTag, HistogramKind, Said, header_lines, ScriptLine, Header, Round, Setup, CallOf, global_labels}
use Rattle.drive_script.specs.Valid.{registered, registration_of, HasHandle, sample_total, PrintApart, SparesOverflow}

-- ---- header lines

-- the place of a header line's form in their order
abbrev pub place : HeaderLine → ℕ
place (Quantiles _) = 0
place (Buckets _) = 1
place (BucketsFor _ _) = 2
place (NativeFor _) = 3
place (Summary _ _) = 4
place (Idle _ _) = 5
place Naming = 6
place Units = 7
place (Global _) = 8
place (SeriesLimit _) = 9
place (Limit _) = 10
place (Mode _) = 11
place (NamePrefix _) = 12
place (GlobalTag _) = 13
place (HistogramKind _) = 14

-- whether lines of its form may come again
abbrev pub may_repeat : HeaderLine → Bool
may_repeat (BucketsFor _ _) = true
may_repeat (NativeFor _) = true
may_repeat (Global _) = true
may_repeat (GlobalTag _) = true
may_repeat _ = false

-- the least place of a header line behind it
abbrev pub least_behind : HeaderLine → ℕ
least_behind line = if may_repeat line then place line else suc (place line)

-- header lines of this place may stand behind these
abbrev pub MayFollow : List HeaderLine → ℕ → Type 0
MayFollow lines place = All (λ earlier. least_behind earlier ≤ place) lines

-- this is the least place that may follow
abbrev pub IsLeastPlace : ℕ → List HeaderLine → Type 0
IsLeastPlace least lines = (place : ℕ) → least ≤ place ↔ MayFollow lines place

-- the settings with what one more header line says
abbrev pub with_header : SettingsText → HeaderLine → SettingsText
with_header settings (Quantiles values) = record settings { quantiles = Some values }
with_header settings (Buckets values) = record settings { buckets = Some values }
with_header settings (BucketsFor matcher values) = record settings { buckets_for = settings.buckets_for ++ (matcher, values) ∷ [] }
with_header settings (NativeFor native) = record settings { native_for = settings.native_for ++ native ∷ [] }
with_header settings (Summary count duration) = record settings { summary = Some (count, duration) }
with_header settings (Idle mask timeout) = record settings { idle = Some (mask, timeout) }
with_header settings Naming = record settings { naming = true }
with_header settings Units = record settings { units = true }
with_header settings (Global label) = record settings { globals = settings.globals ++ label ∷ [] }
with_header settings (SeriesLimit limit) = record settings { series_limit = Some limit }
with_header settings (Limit limit) = record settings { dsd_limit = Some limit }
with_header settings (Mode aggressive) = record settings { dsd_aggressive = aggressive }
with_header settings (NamePrefix text) = record settings { dsd_prefix = Some text }
with_header settings (GlobalTag label) = record settings { dsd_globals = settings.dsd_globals ++ label ∷ [] }
with_header settings (HistogramKind histograms) = record settings { dsd_histograms = histograms }

-- what is said of the mode and of the kind, with one more header line
abbrev pub said_with : Said → HeaderLine → Said
said_with said (Mode aggressive) = record said { mode = Some aggressive }
said_with said (HistogramKind histograms) = record said { kind = Some histograms }
said_with said _ = said

-- the global labels with that of one more header line, where it has one
abbrev pub globals_with : List LabelText → HeaderLine → List LabelText
globals_with globals (Global label) = put_label globals label
globals_with globals _ = globals

-- a header line stands before the rounds
pub record AddsHeader (said : Said) (old : ScriptText) (line : HeaderLine) (later : Said) (new : ScriptText) : Type 0 where
  pub no_round : old.rounds ≡ []
  pub order : MayFollow (header_lines old.settings said) (place line)
  pub told : later ≡ said_with said line
  pub grown : new ≡ record old { settings = with_header old.settings line }

-- ---- rounds

-- a round line begins a round, whose moment is not before those of the others
pub record BeginsRound (old : ScriptText) (moment : ℕ) (new : ScriptText) : Type 0 where
  pub not_before : All (λ round. round.moment ≤ moment) old.rounds
  pub grown : new ≡ record old { rounds = old.rounds ++ record { moment = moment; setup = []; calls = [] } ∷ [] }

-- A setup line goes to the last round, which has no call line yet. There are at most 1,000,000 register lines, and what a
-- line registers prints apart from all others, and from overflow series where there is a limit.
pub record SetsUp (old : ScriptText) (setup : SetupLine) (new : ScriptText) : Type 0 where
  pub before : List RoundText
  pub round : RoundText
  pub last : old.rounds ≡ before ++ round ∷ []
  pub no_call : round.calls ≡ []
  pub grown : new ≡ record old { rounds = before ++ record round { setup = round.setup ++ setup ∷ [] } ∷ [] }
  pub room : length (registered new) ≤ 1000000
  pub apart : IfSome (registration_of setup) (λ registration. All (λ r. PrintApart (global_labels old.settings) r registration) (registered old))
  pub spares : IfSome (registration_of setup) (SparesOverflow old.settings)

-- a call line goes to the last round, and has the handle of a register line; all call lines record at most 16,777,216 samples
pub record AddsCall (old : ScriptText) (call : CallLine) (new : ScriptText) : Type 0 where
  pub before : List RoundText
  pub round : RoundText
  pub last : old.rounds ≡ before ++ round ∷ []
  pub grown : new ≡ record old { rounds = before ++ record round { calls = round.calls ++ call ∷ [] } ∷ [] }
  pub handle : HasHandle (registered old) call
  pub room : sample_total new ≤ 16777216

-- the one script is the other with this line at its end; only header lines say more of the mode and of the kind
abbrev pub IsNext : Said → ScriptText → ScriptLine → Said → ScriptText → Type 0
IsNext said old (Header line) later new = AddsHeader said old line later new
IsNext said old (Round moment) later new = (later ≡ said) × BeginsRound old moment new
IsNext said old (Setup setup) later new = (later ≡ said) × SetsUp old setup new
IsNext said old (CallOf call) later new = (later ≡ said) × AddsCall old call new
