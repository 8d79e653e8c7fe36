-- What a history reaches.
use Rattle.std.proofs.Common.{◌≡◌, ◌⊎◌, List, [], ◌∷◌, refl, sym, ap, ◌∙◌, subst, None, ⊎_elim}
use Rattle.legal_history.specs.Object.{Runs}
use Rattle.prom_exporter.specs.State.{PrometheusState}
use Rattle.prom_exporter.specs.Families.{ExporterSettings}
use Rattle.prom_exporter.specs.Exporter.{Exporter, state_of}
use Rattle.shared_recorder.specs.declared.entries.Gone.{Gone}
use Rattle.shared_recorder.specs.declared.entries.RecorderEntry.{RecorderEntry}
use Rattle.shared_recorder.specs.declared.entries.RecorderEntry.TheVariants.{Built, Register, Describe, Page}
use Rattle.shared_recorder.specs.Setup.{setup, Step, Called, none_gone, entry_left, entries_left}
use Rattle.shared_recorder.specs.Stands.{Reached}

step_left : (t : ExporterSettings) (c : RecorderEntry) (x y : PrometheusState) → Step t c x y → y ≡ entry_left c x
step_left t (Built e) x y s = absurd s
step_left t (Register kind key n) x y s = s.1
step_left t (Describe name unit text) x y s = s
step_left t (Page g) x y s = s.1

runs_left : (t : ExporterSettings) (x y : PrometheusState) (cs : List RecorderEntry) → Runs (Step t) x cs y → y ≡ entries_left cs x
runs_left t x y [] r = sym r
runs_left t x y (c ∷ cs) r = runs_left t r.0 y cs r.2 ∙ ap (entries_left cs) (step_left t c x r.0 r.1)

pub reached_state : (e : Exporter) (cs : List RecorderEntry) (t : ExporterSettings) (x : PrometheusState) → Reached (Built e ∷ cs) t x → x ≡ entries_left cs (setup (state_of e))
reached_state e cs t x r = runs_left t (setup (state_of e)) x cs r.1

pub reached_settings : (e : Exporter) (cs : List RecorderEntry) (t : ExporterSettings) (x : PrometheusState) → Reached (Built e ∷ cs) t x → t ≡ e.settings
reached_settings e cs t x r = r.0

-- without an idle timeout a page removes nothing
runs_none : (t : ExporterSettings) (x y : PrometheusState) (cs : List RecorderEntry) (g : Gone) → Runs (Step t) x cs y → t.idle ≡ None → Called (Page g) cs → g ≡ none_gone
runs_none t x y [] g r never q = absurd q
runs_none t x y (c ∷ cs) g r never q = ⊎_elim
    (λ (same : Page g ≡ c). let s : Step t (Page g) x r.0 = subst (λ d. Step t d x r.0) (sym same) r.1 in s.0 never)
    (λ (later : Called (Page g) cs). runs_none t r.0 y cs g r.2 never later)
    q

pub removed_none : (cs : List RecorderEntry) (t : ExporterSettings) (x : PrometheusState) (g : Gone) → Reached cs t x → t.idle ≡ None → Called (Page g) cs → g ≡ none_gone
removed_none [] t x g r never q = absurd r
removed_none (Built e ∷ cs) t x g r never q = ⊎_elim
    (λ (z : Page g ≡ Built e). absurd (cc z))
    (λ (later : Called (Page g) cs). runs_none t (setup (state_of e)) x cs g r.1 never later)
    q
removed_none (Register kind key n ∷ cs) t x g r never q = absurd r
removed_none (Describe name unit text ∷ cs) t x g r never q = absurd r
removed_none (Page h ∷ cs) t x g r never q = absurd r

-- two states that one history reaches are one
pub reached_once : (cs : List RecorderEntry) (t u : ExporterSettings) (x y : PrometheusState) → Reached cs t x → Reached cs u y → (t ≡ u) × (x ≡ y)
reached_once [] t u x y p q = absurd p
reached_once (Built e ∷ cs) t u x y p q = (p.0 ∙ sym q.0, reached_state e cs t x p ∙ sym (reached_state e cs u y q))
reached_once (Register kind key n ∷ cs) t u x y p q = absurd p
reached_once (Describe name unit text ∷ cs) t u x y p q = absurd p
reached_once (Page h ∷ cs) t u x y p q = absurd p
