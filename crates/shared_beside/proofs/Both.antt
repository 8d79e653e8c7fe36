-- What follows from two registrations of passes that came back.
use Rattle.std.proofs.Common.{◌≡◌, true, ◌||◌, sym, ap, ◌∙◌, subst, None, Result, Ok, IfOk, OnErr}
use Rattle.std.specs.Prelude.{is_err}
use Rattle.std.proofs.lemmas.Result.{IfOk-weaker, on_err_weaker}
use Rattle.metrics_core.specs.declared.kinds.MetricKind.{MetricKind}
use Rattle.metrics_core.specs.declared.kinds.SeriesId.{SeriesId}
use Rattle.metrics_core.specs.declared.memory.Memory.{Memory}
use Rattle.metrics_core.specs.Keys.{KeyText, key_eq}
use Rattle.legal_history.specs.declared.history.View.{View}
use Rattle.legal_history.specs.History.{child, lender, taker}
use Rattle.prom_exporter.specs.Exporter.{Exporter}
use Rattle.shared_turns.specs.Passes.{Waits}
use Rattle.shared_recorder.specs.declared.entries.RecorderEntry.{RecorderEntry}
use Rattle.shared_recorder.specs.Stands.{KnowsBuilt}
use Rattle.shared_recorder.proofs.Beside.{beside}
use Rattle.shared_beside.specs.Beside.{AreRegistered, Registers, RegistersBoth, RegistersOneAtMost}

pub both_registered : (kind : MetricKind) (a b : KeyText) (i j : Result SeriesId Memory) (r s t p q v w x : View RecorderEntry) → s ≡ lender r → p ≡ child r → t ≡ lender s → q ≡ child s
    → Registers kind a i p v → Registers kind b j q w → Waits (taker (taker t v) w) x → RegistersBoth kind a b i j r x
both_registered kind a b i j r s t p q v w x once first twice second one other back = (
  v,
  w,
  subst (λ (y : View RecorderEntry). Registers kind a i y v) first one,
  subst (λ (y : View RecorderEntry). Registers kind b j y w) (second ∙ ap child once) other,
  subst (λ (y : View RecorderEntry). Waits (taker (taker y v) w) x) (twice ∙ ap lender once) back,
)

module _ (kind : MetricKind) (a b : KeyText) (v w : View RecorderEntry) where
  one_number : (e : Exporter) (i j : SeriesId) → KnowsBuilt e v → e.settings.idle ≡ None → key_eq a b ≡ true → RegistersBoth kind a b (Ok i) (Ok j) v w → i ≡ j
  one_number e i j built never same both =
      let numbers = beside (lender (lender v)) both.0 both.1 (child v) (child (lender v)) e both.4.0 kind a b i.number j.number both.4.1 built built both.2.0.1 both.3.0.1 never same in
      λ k. record { kind = (both.2.0.0 ∙ sym both.3.0.0) k; number = numbers k }

  module _ (i j : Result SeriesId Memory) (r : Result (SeriesId × SeriesId) Memory) (both : RegistersBoth kind a b i j v w) where
    both_ids : (ids : SeriesId × SeriesId) → (i ≡ Ok ids.0) × (j ≡ Ok ids.1) → RegistersBoth kind a b (Ok ids.0) (Ok ids.1) v w
    both_ids ids is = subst (λ m. RegistersBoth kind a b m (Ok ids.1) v w) is.0 (subst (λ n. RegistersBoth kind a b i n v w) is.1 both)

    pub both_made : IfOk r (λ ids. (i ≡ Ok ids.0) × (j ≡ Ok ids.1)) → IfOk r (λ ids. AreRegistered kind a b ids.0 ids.1 v w)
    both_made ok = IfOk-weaker r _ _ (λ ids is. record {
      both = both_ids ids is;
      one_id = λ e built never same. one_number e ids.0 ids.1 built never same (both_ids ids is);
    }) ok

    pub one_refused : OnErr r ((is_err i || is_err j) ≡ true) → OnErr r (RegistersOneAtMost kind a b v w)
    one_refused refused = on_err_weaker r (λ e. (i, j, e, both)) refused
