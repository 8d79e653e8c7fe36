-- What the exporter stands for after a call.
use Rattle.std.proofs.Common.{◌≡◌, ℕ, Box, Result, Ok, Err, OnOk, OnErr, List, [], ◌∷◌, ◌++◌, sym, ap, ◌∙◌, subst}
use Rattle.std.specs.declared.alloc.Global.{Global}
use Rattle.legal_history.specs.declared.history.Entry.{Entry}
use Rattle.legal_history.specs.declared.history.View.{View}
use Rattle.legal_history.specs.History.{calls, said, after, looked}
use Rattle.legal_history.proofs.Lists.{calls-append}
use Rattle.legal_history.proofs.Objects.{runs_more}
use Rattle.shared_turns.specs.Turns.{boxed, Mine, Entered, Counted, Left}
use Rattle.prom_exporter.specs.State.{PrometheusState}
use Rattle.prom_exporter.specs.Families.{ExporterSettings}
use Rattle.prom_exporter.specs.Exporter.{Exporter, state_of}
use Rattle.shared_recorder.specs.declared.entries.RecorderEntry.{RecorderEntry}
use Rattle.shared_recorder.specs.declared.entries.RecorderEntry.TheVariants.{Built, Register, Describe, Page}
use Rattle.shared_recorder.specs.Setup.{setup, Step, gone_of}
use Rattle.shared_recorder.specs.Stands.{Reached, StandsFor, Makes}
use Rattle.shared_recorder.specs.Lending.{Lends}
use Rattle.shared_recorder.specs.Pages.{Paged}
use Rattle.shared_recorder.proofs.Paging.{IsPage}

abbrev pub Mine_of : Type 0
Mine_of = Mine (Box Exporter Global) RecorderEntry

-- one more entry
pub reached_more : (cs : List RecorderEntry) (t : ExporterSettings) (x y : PrometheusState) (c : RecorderEntry) → Reached cs t x → Step t c x y → Reached (cs ++ c ∷ []) t y
reached_more [] t x y c r s = absurd r
reached_more (Built e ∷ cs) t x y c r s = (r.0, runs_more (Step t) x (setup (state_of e)) x y cs c r.1 s)
reached_more (Register kind key n ∷ cs) t x y c r s = absurd r
reached_more (Describe name unit text ∷ cs) t x y c r s = absurd r
reached_more (Page g ∷ cs) t x y c r s = absurd r

-- what the value stood for when its turn had come
entered_at : (m i : Mine_of) (b : Box Exporter Global) (e : Entered (boxed StandsFor) m b i) → i.0.history.seen ≡ e.0
entered_at m i b e = ap (λ (v : View RecorderEntry). v.seen) e.2

-- the state after a call that was counted
pub after_call : (m i w : Mine_of) (c : RecorderEntry) (b : Box Exporter Global) (y : Exporter) → Entered (boxed StandsFor) m b i → Counted c i w → y.settings ≡ b.value.settings
    → Step b.value.settings c (setup (state_of b.value)) (setup (state_of y)) → StandsFor (calls w.0.history.seen) y
after_call m i w c b y e n same s =
    let was = subst (λ (l : List (Entry RecorderEntry)). StandsFor (calls l) b.value) (sym (entered_at m i b e)) e.4 in
    let more = reached_more (calls i.0.history.seen) b.value.settings (setup (state_of b.value)) (setup (state_of y)) c was s in
    subst (λ (l : List (Entry RecorderEntry)). StandsFor (calls l) y) (sym (ap (λ v. v.history.seen) n.1))
    (subst (λ cs. Reached cs y.settings (setup (state_of y))) (sym (calls-append i.0.history.seen (said i.0.history.number (c ∷ []))))
    (subst (λ t. Reached (calls i.0.history.seen ++ c ∷ []) t (setup (state_of y))) (sym same) more))

-- what the pass has then seen
seen_after : (m i n w : Mine_of) (c : RecorderEntry) (b : Box Exporter Global) (e : Entered (boxed StandsFor) m b i) → Counted c i n → Left n w → w.0.history ≡ after m.0.history e.0 (c ∷ [])
seen_after m i n w c b e k l = ap (λ (p : Mine_of). p.0.history) l ∙ (ap (λ v. v.history) k.1 ∙ ap (λ (h : View RecorderEntry). after h h.seen (c ∷ [])) e.2)

-- the pass keeps its number
pub number_after : (m i n w : Mine_of) (c : RecorderEntry) (b : Box Exporter Global) → Entered (boxed StandsFor) m b i → Counted c i n → Left n w → w.0.history.number ≡ m.0.history.number
number_after m i n w c b e k l = ap (λ (v : View RecorderEntry). v.number) (seen_after m i n w c b e k l)

pub number_left : (m i w : Mine_of) (b : Box Exporter Global) → Entered (boxed StandsFor) m b i → Left i w → w.0.history.number ≡ m.0.history.number
number_left m i w b e l = ap (λ (p : Mine_of). p.0.history.number) l ∙ ap (λ (v : View RecorderEntry). v.number) e.2

pub made : (m i n w : Mine_of) (c : RecorderEntry) (b : Box Exporter Global) (y : PrometheusState) → Entered (boxed StandsFor) m b i → Counted c i n → Left n w → Step b.value.settings c (setup (state_of b.value)) y → Makes c m.0.history w.0.history
made m i n w c b y e k l s = (e.0, b.value.settings, setup (state_of b.value), y, e.1, e.4, s, seen_after m i n w c b e k l)

-- the state where no call was counted
pub no_call : (m i : Mine_of) (b : Box Exporter Global) (y : Exporter) → Entered (boxed StandsFor) m b i → y.settings ≡ b.value.settings → setup (state_of y) ≡ setup (state_of b.value) → StandsFor (calls i.0.history.seen) y
no_call m i b y e settings same =
    subst (λ (l : List (Entry RecorderEntry)). StandsFor (calls l) y) (sym (entered_at m i b e))
    (subst (λ t. Reached (calls e.0) t (setup (state_of y))) (sym settings) (subst (Reached (calls e.0) b.value.settings) (sym same) e.4))

-- what was lent
pub lent_to : (lends : Exporter → Exporter → Type 0) (m i w : Mine_of) (b : Box Exporter Global) (y : Exporter) (e : Entered (boxed StandsFor) m b i) → y.settings ≡ b.value.settings → setup (state_of y) ≡ setup (state_of b.value)
    → Left i w → lends b.value y → Lends lends m.0.history w.0.history
lent_to lends m i w b y e settings same l lent = (
  e.0,
  b.value,
  y,
  e.1,
  e.4,
  lent,
  subst (λ t. Reached (calls e.0) t (setup (state_of y))) (sym settings) (subst (Reached (calls e.0) b.value.settings) (sym same) e.4),
  ap (λ (p : Mine_of). p.0.history) l ∙ e.2,
)

-- the entry of a page
page_step : (x y : Exporter) → IsPage x y → Step x.settings (Page (gone_of x y)) (setup (state_of x)) (setup (state_of y))
page_step x y p = (p.1, p.2)

pub after_page : (m i n : Mine_of) (b : Box Exporter Global) (y : Exporter) → Entered (boxed StandsFor) m b i → Counted (Page (gone_of b.value y)) i n → IsPage b.value y → StandsFor (calls n.0.history.seen) y
after_page m i n b y e k p = after_call m i n (Page (gone_of b.value y)) b y e k p.0 (page_step b.value y p)

pub paged : (makes : Exporter → Exporter → Type 0) (m i n w : Mine_of) (b : Box Exporter Global) (y : Exporter) → Entered (boxed StandsFor) m b i → Counted (Page (gone_of b.value y)) i n → Left n w → IsPage b.value y → makes b.value y → Paged makes y m.0.history w.0.history
paged makes m i n w b y e k l p did = (
  e.0,
  b.value,
  e.1,
  e.4,
  did,
  seen_after m i n w (Page (gone_of b.value y)) b e k l,
  subst (λ (h : View RecorderEntry). StandsFor (calls h.seen) y) (sym (ap (λ (p : Mine_of). p.0.history) l)) (after_page m i n b y e k p),
)

-- what holds where a call was made well, and where it was refused
pub on_ok_both : {X E : Type 0} (P Q R : Type 0) (r : Result X E) → OnOk r P → OnOk r Q → (P → Q → R) → OnOk r R
on_ok_both P Q R (Ok x) p q f = f p q
on_ok_both P Q R (Err e) p q f = tt

pub on_err_then : {X E : Type 0} (P R : Type 0) (r : Result X E) → OnErr r P → (P → R) → OnErr r R
on_err_then P R (Ok x) p f = tt
on_err_then P R (Err e) p f = f p
