-- Runs in which moments never fall.
use Rattle.std.specs.Prelude.{ℕ, ◌≤◌, List, [], ◌∷◌, All}
use Rattle.metrics_core.specs.Calls.{Call}
use Rattle.rolling_summaries.specs.Standing.{NeverFall, NoneAfter}
use Rattle.rolling_summaries.specs.Window.{timed_samples}
use Rattle.prom_exporter.specs.State.{PrometheusState}
use Rattle.drive_script.specs.Script.{RoundText}

-- the moments of the samples of these calls never fall, and none is after this moment
abbrev pub AreTimelyCalls : ℕ → List Call → Type 0
AreTimelyCalls moment calls = NeverFall (timed_samples calls) × NoneAfter moment (timed_samples calls)

-- so of each histogram
abbrev pub IsTimelyState : ℕ → PrometheusState → Type 0
IsTimelyState moment state = All (λ series. AreTimelyCalls moment series.calls) state.histograms

-- the moments of rounds never fall, and the first is not below this one
abbrev pub RiseFrom : ℕ → List RoundText → Type 0
RiseFrom moment [] = Unit {0}
RiseFrom moment (round ∷ rounds) = (moment ≤ round.moment) × RiseFrom round.moment rounds
