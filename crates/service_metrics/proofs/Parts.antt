-- Parts of a metric that may be left out.
use Rattle.std.proofs.Common.{◌≡◌, ◌∙◌, Option, Some, Bor, option_copied, ap, refl, sym, subst}
use Rattle.prom_recorder.specs.Handing.{CounterLent, GaugeLent, HistogramLent, IsHandedCounter, IsHandedGauge, IsHandedHistogram}
use Rattle.service_metrics.specs.Heard.{IfAny, IsPartOf, PagedCounter, PagedGauge, PagedHistogram, IsUncalledCounter, IsUncalledGauge, IsUncalledHistogram}

-- a part that there is became another
pub if_any : {A : Type 0} (becomes : A → A → Type 0) {old : Option A} {before : A} (now : A) → old ≡ Some before → becomes before now → IfAny becomes old (Some now)
if_any becomes now is became = subst (λ o. IfAny becomes o (Some now)) (sym is) (now, refl, became)

-- for a recorder that there is there is a new part
pub is_part : {A B : Type 0} (is_new : B → Type 0) {lent : Option (Bor A)} {made : Option A} {recorder : Bor A} (new : B) → option_copied lent ≡ made → lent ≡ Some recorder → is_new new
    → IsPartOf is_new made (Some new)
is_part is_new new view is it = subst (λ m. IsPartOf is_new m (Some new)) (ap option_copied (sym is) ∙ view) (new, refl, it)

-- what was handed out of a counter has made no call
pub uncalled_counter : (lent : CounterLent) (handle : PagedCounter) → IsHandedCounter lent → handle ≡ record { cell = lent.handle; pass = lent.pass } → IsUncalledCounter handle
uncalled_counter lent handle handed is = subst IsUncalledCounter (sym is) (handed.cell, handed.root, handed.handle, handed.knows)

-- what was handed out of a gauge has made no call
pub uncalled_gauge : (lent : GaugeLent) (handle : PagedGauge) → IsHandedGauge lent → handle ≡ record { cell = lent.handle; pass = lent.pass } → IsUncalledGauge handle
uncalled_gauge lent handle handed is = subst IsUncalledGauge (sym is) (handed.cell, handed.root, handed.handle, handed.knows)

-- what was handed out of a histogram has made no call
pub uncalled_histogram : (lent : HistogramLent) (handle : PagedHistogram) → IsHandedHistogram lent → handle ≡ record { cell = lent.handle; pass = lent.pass } → IsUncalledHistogram handle
uncalled_histogram lent handle handed is = subst IsUncalledHistogram (sym is) (handed.queue, handed.root, handed.handle, handed.knows)
