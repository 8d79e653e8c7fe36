-- When a script is valid, and which line is the first bad one (this project's rules).
use Rattle.std.specs.Prelude.{◌≡◌, ◌≢◌, ℕ, ◌<◌, ◌≤◌, List, [], ◌∷◌, ◌++◌, map, length, take, Option, Some, None, IfSome, All, AllPairs, flat_map, filter_map, sum_by, slice_get, codes}
use Rattle.std.specs.List.Sorted.{IsNonDecreasingBy}
use Rattle.metrics_core.specs.declared.kinds.MetricKind.{MetricKind}
use Rattle.metrics_core.specs.Keys.{LabelText, KeyText, SameKey, label_set}
use Rattle.prom_format.specs.Names.{sanitized_metric_name, sanitized_label_name}
use Rattle.prom_format.specs.Printed.{canonical_label_value}
use Rattle.drive_script.specs.Script.{SettingsText, ScriptText, RoundText, SetupLine, Register, Describe, CallLine, Act, RecN, Rec, IsScript, global_labels, lines_of, kind_of}

-- what a register line registers
pub record Registration : Type 0 where
  pub kind : MetricKind
  pub key : KeyText

abbrev pub registration_of : SetupLine → Option Registration
registration_of (Register kind key) = Some (record { kind = kind; key = key })
registration_of (Describe _ _ _ _) = None

-- the register lines of a round, and of a script; handle k is that of the k-th register line
abbrev pub registered_in : RoundText → List Registration
registered_in round = filter_map registration_of round.setup

abbrev pub registered : ScriptText → List Registration
registered script = flat_map registered_in script.rounds

-- a call's handle is that of one of these register lines, of the call's kind
abbrev pub HasHandle : List Registration → CallLine → Type 0
HasHandle earlier call = (key : KeyText) × (slice_get earlier call.handle ≡ Some (record { kind = kind_of call.act; key = key }))

-- each call's handle is that of an earlier register line
abbrev pub HaveHandles : List Registration → List RoundText → Type 0
HaveHandles earlier [] = Unit {0}
HaveHandles earlier (round ∷ rounds) =
    All (HasHandle (earlier ++ registered_in round)) round.calls × HaveHandles (earlier ++ registered_in round) rounds

-- how many samples a call line records
abbrev pub sample_count : Act → ℕ
sample_count (Rec _) = 1
sample_count (RecN _ n) = n
sample_count _ = 0

abbrev pub sample_total : ScriptText → ℕ
sample_total script = sum_by (λ round. sum_by (λ call. sample_count call.act) round.calls) script.rounds

-- the head of a key's rows as it is meant: the metric name, and the label set with canonical values
pub record Head : Type 0 where
  pub name : List ℕ
  pub labels : List LabelText

abbrev pub head_of : List LabelText → KeyText → Head
head_of globals key = record {
  name = sanitized_metric_name key.name;
  labels = map (λ l. record { key = sanitized_label_name l.key; value = canonical_label_value l.value }) (label_set globals key.labels);
}

-- two registrations of one kind with the same head have equal keys
abbrev pub PrintApart : List LabelText → Registration → Registration → Type 0
PrintApart globals a b = a.kind ≡ b.kind → head_of globals a.key ≡ head_of globals b.key → SameKey a.key b.key

-- the head of the overflow series of a metric name: its key is that name, with the one label `overflow` of value `true`
abbrev pub overflow_head : List LabelText → List ℕ → Head
overflow_head globals name = head_of globals (record { name = name; labels = record { key = codes "overflow"; value = codes "true" } ∷ [] })

-- a key stands apart from what is made where series are past their limit: its metric name is not that of the family that counts
-- them, and its head is not that of the overflow series of its metric name
pub record IsNoOverflow (globals : List LabelText) (key : KeyText) : Type 0 where
  pub name : sanitized_metric_name key.name ≢ codes "series_overflow"
  pub head : head_of globals key ≢ overflow_head globals (sanitized_metric_name key.name)

-- where series are limited, what is registered stands apart from that
abbrev pub SparesOverflow : SettingsText → Registration → Type 0
SparesOverflow settings r = IfSome settings.series_limit (λ _. IsNoOverflow (global_labels settings) r.key)

pub record IsValid (script : ScriptText) : Type 0 where
  pub moments : IsNonDecreasingBy (λ round. round.moment) script.rounds
  pub handles : HaveHandles [] script.rounds
  pub registrations : length (registered script) ≤ 1000000
  pub samples : sample_total script ≤ 16777216
  pub heads : AllPairs (PrintApart (global_labels script.settings)) (registered script)
  pub overflow : All (SparesOverflow script.settings) (registered script)

-- the lines are a valid script
abbrev pub AreValidLines : List (List ℕ) → Type 0
AreValidLines lines = (script : ScriptText) × IsScript lines script × IsValid script

-- the bytes are this valid script
abbrev pub IsScriptOf : List ℕ → ScriptText → Type 0
IsScriptOf bytes script = IsScript (lines_of bytes) script × IsValid script

-- line l, from 1, is the first bad one: the first l lines are no valid script, and any fewer are one
pub record IsFirstBadLine (bytes : List ℕ) (l : ℕ) : Type 0 where
  pub is_line : (1 ≤ l) × (l ≤ length (lines_of bytes))
  pub bad : ¬ AreValidLines (take l (lines_of bytes))
  pub first : (k : ℕ) → k < l → AreValidLines (take k (lines_of bytes))
