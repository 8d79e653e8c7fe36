-- What a state stands for after a call.
use Rattle.std.proofs.Common.{◌≡◌, Box, List, [], ◌∷◌, ◌++◌, refl, sym, ap, ◌∙◌, subst}
use Rattle.std.specs.declared.alloc.Global.{Global}
use Rattle.legal_history.specs.declared.history.Entry.{Entry}
use Rattle.legal_history.specs.declared.history.View.{View}
use Rattle.legal_history.specs.History.{calls, said, after}
use Rattle.legal_history.proofs.Lists.{calls-append}
use Rattle.legal_history.proofs.Objects.{runs_more}
use Rattle.shared_turns.specs.Turns.{boxed, Mine, Entered, Counted, Left}
use Rattle.dsd_exporter.specs.State.{DogStatsDSettings, SeriesStates, no_series_states}
use Rattle.dsd_exporter.specs.Exporter.{Exporter, no_cells}
use Rattle.shared_flushes.specs.declared.entries.StateEntry.{StateEntry}
use Rattle.shared_flushes.specs.declared.entries.StateEntry.TheVariants.{Built, Register}
use Rattle.shared_flushes.specs.Registrations.{bare, Step}
use Rattle.shared_flushes.specs.Stands.{During, Makes, Reached, StandsFor, opens}
use Rattle.shared_flushes.proofs.Bare.{AsBefore}

abbrev Seated : Type 0
Seated = Mine (Box Exporter Global) StateEntry

-- a state without series stands for the entry that begins its history
pub begins : (settings : DogStatsDSettings) (x : Exporter) → x ≡ record { settings = settings; series = no_cells } → StandsFor (opens x ∷ []) x
begins settings x is = (refl, ap (λ (e : Exporter). bare e.series) (sym is))

-- one more entry
reached_more : (cs : List StateEntry) (t : DogStatsDSettings) (x y : SeriesStates) (c : StateEntry) → Reached cs t x → Step c x y → Reached (cs ++ c ∷ []) t y
reached_more [] t x y c r s = absurd r
reached_more (Built built ∷ cs) t x y c r s = (r.0, runs_more Step no_series_states no_series_states x y cs c r.1 s)
reached_more (Register kind key n ∷ cs) t x y c r s = absurd r

-- what the state stood for when the turn had come
entered_at : (m i : Seated) (b : Box Exporter Global) (e : Entered (boxed StandsFor) m b i) → i.0.history.seen ≡ e.0
entered_at m i b e = ap (λ (v : View StateEntry). v.seen) e.2

-- the state after a call that was counted
pub after_call : (m i w : Seated) (c : StateEntry) (b : Box Exporter Global) (y : Exporter) → Entered (boxed StandsFor) m b i → Counted c i w → y.settings ≡ b.value.settings
    → Step c (bare b.value.series) (bare y.series) → StandsFor (calls w.0.history.seen) y
after_call m i w c b y e n same s =
    let was = subst (λ (l : List (Entry StateEntry)). StandsFor (calls l) b.value) (sym (entered_at m i b e)) e.4 in
    let more = reached_more (calls i.0.history.seen) b.value.settings (bare b.value.series) (bare y.series) c was s in
    subst (λ (l : List (Entry StateEntry)). StandsFor (calls l) y) (sym (ap (λ v. v.history.seen) n.1))
    (subst (λ cs. Reached cs y.settings (bare y.series)) (sym (calls-append i.0.history.seen (said i.0.history.number (c ∷ []))))
    (subst (λ t. Reached (calls i.0.history.seen ++ c ∷ []) t (bare y.series)) (sym same) more))

pub made : (m i n w : Seated) (c : StateEntry) (b : Box Exporter Global) (y : Exporter) → Entered (boxed StandsFor) m b i → Counted c i n → Left n w → Step c (bare b.value.series) (bare y.series) → Makes c m.0.history w.0.history
made m i n w c b y e k l s = (
  e.0,
  b.value.settings,
  bare b.value.series,
  bare y.series,
  e.1,
  e.4,
  s,
  ap (λ (p : Seated). p.0.history) l ∙ (ap (λ v. v.history) k.1 ∙ ap (λ (h : View StateEntry). after h h.seen (c ∷ [])) e.2),
)

-- the state where nothing that entries made was changed
stands_on : (cs : List StateEntry) (x y : Exporter) → AsBefore x y → StandsFor cs x → StandsFor cs y
stands_on cs x y same st = subst (λ t. Reached cs t (bare y.series)) (sym same.0) (subst (Reached cs x.settings) (sym same.1) st)

pub no_call : (m i : Seated) (b : Box Exporter Global) (y : Exporter) → Entered (boxed StandsFor) m b i → AsBefore b.value y → StandsFor (calls i.0.history.seen) y
no_call m i b y e same = subst (λ (l : List (Entry StateEntry)). StandsFor (calls l) y) (sym (entered_at m i b e)) (stands_on (calls e.0) b.value y same e.4)

pub during : (Does : Exporter → Exporter → Type 0) (m i w : Seated) (b : Box Exporter Global) (y : Exporter) → Entered (boxed StandsFor) m b i → AsBefore b.value y → Left i w → Does b.value y → During Does m.0.history w.0.history
during Does m i w b y e same l did = (e.0, b.value, y, e.1, e.4, did, stands_on (calls e.0) b.value y same e.4, ap (λ (p : Seated). p.0.history) l ∙ e.2)
