-- What is said of registrations that are made beside each other.
use Rattle.std.specs.Prelude.{◌≡◌, ◌||◌, true, None, is_err, Result, Ok, IfOk, OnErr}
use Rattle.metrics_core.specs.declared.kinds.MetricKind.{MetricKind}
use Rattle.metrics_core.specs.declared.kinds.SeriesId.{SeriesId}
use Rattle.metrics_core.specs.declared.memory.Memory.{Memory}
use Rattle.metrics_core.specs.Keys.{KeyText, key_eq}
use Rattle.legal_history.specs.declared.history.View.{View}
use Rattle.legal_history.specs.History.{child, lender, taker}
use Rattle.shared_turns.specs.declared.pass.TurnPass.{TurnPass}
use Rattle.shared_turns.specs.Passes.{view_of, Waits}
use Rattle.prom_exporter.specs.Exporter.{Exporter}
use Rattle.shared_recorder.specs.declared.recorder.SharedRecorder.{SharedRecorder}
use Rattle.shared_recorder.specs.declared.entries.RecorderEntry.{RecorderEntry}
use Rattle.shared_recorder.specs.declared.entries.RecorderEntry.TheVariants.{Register}
use Rattle.shared_recorder.specs.Recorder.{IsPass}
use Rattle.shared_recorder.specs.Stands.{KnowsBuilt, Makes}

-- the pass is one that this recorder's root lent
abbrev pub IsLent : SharedRecorder → TurnPass Exporter RecorderEntry → Type 0
IsLent r p = IsPass r p × ¬ ((view_of p).number ≡ 0)

-- a pass registered a series, whose id this is; or memory was refused, and it made no entry
abbrev pub Registers : MetricKind → KeyText → Result SeriesId Memory → View RecorderEntry → View RecorderEntry → Type 0
Registers kind key id v w = IfOk id (λ i. (i.kind ≡ kind) × Makes (Register kind key i.number) v w) × OnErr id (Waits v w)

-- the root lent two passes, took them back, and has then seen the whole history
abbrev pub Returns : View RecorderEntry → View RecorderEntry → View RecorderEntry → View RecorderEntry → Type 0
Returns v p q w = Waits (taker (taker (lender (lender v)) p) q) w

-- each of two passes that the root lent registered under its key, and both came back
abbrev pub RegistersBoth : MetricKind → KeyText → KeyText → Result SeriesId Memory → Result SeriesId Memory → View RecorderEntry → View RecorderEntry → Type 0
RegistersBoth kind one other i j v w = (p q : View RecorderEntry) × Registers kind one i (child v) p × Registers kind other j (child (lender v)) q × Returns v p q w

-- the same, where memory was refused to one registration at least
abbrev pub RegistersOneAtMost : MetricKind → KeyText → KeyText → View RecorderEntry → View RecorderEntry → Type 0
RegistersOneAtMost kind one other v w = (i j : Result SeriesId Memory) × ((is_err i || is_err j) ≡ true) × RegistersBoth kind one other i j v w

-- both were registered, with these ids
pub record AreRegistered (kind : MetricKind) (one other : KeyText) (i j : SeriesId) (v w : View RecorderEntry) : Type 0 where
  -- each by a pass of its own, which came back
  pub both : RegistersBoth kind one other (Ok i) (Ok j) v w
  -- and equal keys have one id, where no idle timeout is set
  pub one_id : (e : Exporter) → KnowsBuilt e v → e.settings.idle ≡ None → key_eq one other ≡ true → i ≡ j
