-- What the calls of a receiver answer.
use Rattle.std.specs.Prelude.{◌≡◌, ℕ, ◌<◌, Bool, true, false, List, ◌∷◌, ◌++◌, Option, take, length, ◌⊎◌}
use Rattle.metrics_core.specs.declared.kinds.MetricKind.{MetricKind}
use Rattle.metrics_core.specs.declared.kinds.MetricKind.TheVariants as kinds
use Rattle.metrics_core.specs.Keys.{KeyText}
use Rattle.metrics_core.specs.Calls.{Call}
use Rattle.dsd_lines.specs.declared.dialects.Dialect.{Dialect}
use Rattle.dsd_lines.specs.Grammar.{LineText, IsLineIn}
use Rattle.dsd_lines.specs.Texts.{IsNoLineIn}
use Rattle.prom_exporter.specs.State.{PrometheusState}
use Rattle.dsd_receiver.specs.declared.receiver.Applied.{Applied}
use Rattle.dsd_receiver.specs.declared.receiver.ReceiveFault.{ReceiveFault}
use Rattle.dsd_receiver.specs.declared.receiver.ReceiveFault.TheVariants as faults
use Rattle.dsd_receiver.specs.Received.{kind_said, calls_said, with_calls, after_line, AreRead, Receives, after_readings, count_lines, count_bad}

-- all lines were received, and this many of them are lines of the grammar, and bad
pub record IsApplied (dialect : Dialect) (moment : ℕ) (lines : List (List ℕ)) (s : PrometheusState) (applied : Applied) (t : PrometheusState) : Type 0 where
  pub readings : List (Option LineText)
  pub are_read : AreRead dialect lines readings
  pub state : t ≡ after_readings moment readings s
  pub lines_are : applied.lines ≡ count_lines readings
  pub bad_are : applied.bad ≡ count_bad readings

-- what a line of a dialect says
abbrev pub IsSaid : Dialect → LineText → Type 0
IsSaid dialect said = (line : List ℕ) × IsLineIn dialect line said

-- a line was received: it is one of the grammar, and its calls were made; or it is bad, and nothing changed
abbrev pub IsReceived : Dialect → ℕ → List ℕ → Bool → PrometheusState → PrometheusState → Type 0
IsReceived dialect moment line true s t = (said : LineText) × IsLineIn dialect line said × (t ≡ after_line moment s said)
IsReceived dialect moment line false s t = IsNoLineIn dialect line × (t ≡ s)

-- nothing was done; or a key was registered, and the first of these calls were made on its series, so many, but not all
abbrev pub InPart : MetricKind → KeyText → List Call → Bool → ℕ → PrometheusState → PrometheusState → Type 0
InPart kind key calls false values s t = (values ≡ 0) × (t ≡ s)
InPart kind key calls true values s t = (values < length calls) × (t ≡ with_calls kind key (take values calls) s)

-- what a line says was done in part; of a counter's and of a gauge's values none was applied
abbrev pub IsInPart : ℕ → LineText → Bool → ℕ → PrometheusState → PrometheusState → Type 0
IsInPart moment said registered values s t =
    InPart (kind_said said.points) said.key (calls_said moment said) registered values s t
    × ((kind_said said.points ≡ kinds.Histogram) ⊎ (values ≡ 0))

-- a line was received in part; where its series was registered it is one of the grammar
abbrev pub StopsIn : Dialect → ℕ → List ℕ → Bool → ℕ → PrometheusState → PrometheusState → Type 0
StopsIn dialect moment line false values s t = (values ≡ 0) × (t ≡ s)
StopsIn dialect moment line true values s t = (said : LineText) × IsLineIn dialect line said × IsInPart moment said true values s t

-- the first lines were received, so many, and the next one in part
pub record StopsAfter (dialect : Dialect) (moment : ℕ) (lines : List (List ℕ)) (s : PrometheusState) (done : ℕ) (registered : Bool) (values : ℕ) (t : PrometheusState) : Type 0 where
  pub treated : List (List ℕ)
  pub next : List ℕ
  pub later : List (List ℕ)
  pub lines_are : lines ≡ treated ++ next ∷ later
  pub done_is : done ≡ length treated
  pub between : PrometheusState
  pub receives : Receives dialect moment treated s between
  pub stops : StopsIn dialect moment next registered values between t

-- want of memory, after a flush, stopped the receiving there
abbrev pub IsStopped : Dialect → ℕ → List (List ℕ) → PrometheusState → ReceiveFault → PrometheusState → Type 0
IsStopped dialect moment lines s (faults.Memory flushed done registered values) t =
    (flushed ≡ true) × StopsAfter dialect moment lines s done registered values t
