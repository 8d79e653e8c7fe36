-- Two passes that were handed out series under equal keys, and were given back.
use Rattle.std.proofs.Common.{◌≡◌, ℕ, zero, suc, ◌≤◌, ◌⊎◌, List, [], ◌∷◌, ◌++◌, true, length, Option, None, refl, sym, ap, ◌∙◌, subst, inl, inr, ⊎_elim, arith}
use mathlib.Core.List.{IsPrefix}
use Rattle.metrics_core.specs.Keys.{KeyText, key_eq}
use Rattle.metrics_core.specs.declared.kinds.MetricKind.{MetricKind}
use Rattle.metrics_core.specs.declared.kinds.SeriesId.{SeriesId}
use Rattle.legal_history.specs.declared.history.Entry.{Entry}
use Rattle.legal_history.specs.declared.history.Held.{Held}
use Rattle.legal_history.specs.declared.history.View.{View}
use Rattle.legal_history.specs.History.{calls, said, entry, Among, held, taker, Sees}
use Rattle.legal_history.proofs.Lists.{calls-append}
use Rattle.legal_history.proofs.Prefixes.{prefix_shorter}
use Rattle.prom_exporter.specs.declared.lent.Lent.{Lent}
use Rattle.prom_exporter.specs.State.{PrometheusState}
use Rattle.prom_exporter.specs.Families.{ExporterSettings}
use Rattle.prom_exporter.specs.Exporter.{Exporter, state_of}
use Rattle.shared_recorder.specs.declared.entries.RecorderEntry.{RecorderEntry}
use Rattle.shared_recorder.specs.declared.entries.RecorderEntry.TheVariants.{Built, Register}
use Rattle.shared_recorder.specs.Setup.{setup, Called}
use Rattle.shared_recorder.specs.Stands.{Reached, StandsFor, Makes, KnowsBuilt}
use Rattle.prom_recorder.specs.Handing.{HandsSeries}
use Rattle.prom_recorder.specs.Agreeing.{EqualKeysAgree}
use Rattle.prom_recorder.proofs.Handed.{called_last}

called_front : (c : RecorderEntry) (cs ds : List RecorderEntry) → Called c cs → Called c (cs ++ ds)
called_front c [] ds q = absurd q
called_front c (e ∷ cs) ds q = ⊎_elim (λ (z : c ≡ e). inl z) (λ (later : Called c cs). inr (called_front c cs ds later)) q

longer_has : (c : RecorderEntry) (xs ys : List (Entry RecorderEntry)) → IsPrefix xs ys → Called c (calls xs) → Called c (calls ys)
longer_has c xs ys p q = subst (λ (l : List (Entry RecorderEntry)). Called c (calls l)) p.1 (subst (Called c) (sym (calls-append xs p.0)) (called_front c (calls xs) (calls p.0) q))

-- the history begins with what the recorder was built over
abbrev pub Begins : Exporter → List (Entry RecorderEntry) → Type 0
Begins e log = (rest : List (Entry RecorderEntry)) × (log ≡ entry 0 (Built e) ∷ rest)

longer_begins : (e : Exporter) (xs ys : List (Entry RecorderEntry)) → IsPrefix xs ys → Begins e xs → Begins e ys
longer_begins e xs ys p b = (b.0 ++ p.0, sym p.1 ∙ ap (λ (l : List (Entry RecorderEntry)). l ++ p.0) b.1)

begun_settings : (e : Exporter) (log : List (Entry RecorderEntry)) (t : ExporterSettings) (x : PrometheusState) → Begins e log → Reached (calls log) t x → t ≡ e.settings
begun_settings e log t x b r = (subst (λ (l : List (Entry RecorderEntry)). Reached (calls l) t x) b.1 r).0

-- ---- one pass

module _ {H P : Type 0} (kind : MetricKind) (lends : SeriesId → Option (Lent H P) → Exporter → Exporter → Type 0) (key : KeyText) (lent : Lent H P) (p v : View RecorderEntry) (h : HandsSeries kind lends key lent p v) where
  abbrev pub registration : RecorderEntry
  registration = Register kind key lent.id.number

  registered_is : h.0.seen ≡ h.1.0 ++ said p.number (registration ∷ [])
  registered_is = ap (λ (u : View RecorderEntry). u.seen) h.1.7

  lent_is : v.seen ≡ h.2.0
  lent_is = ap (λ (u : View RecorderEntry). u.seen) h.2.7

  -- the registration is among the calls that the pass has seen
  pub handed_called : Called registration (calls v.seen)
  handed_called =
      subst (λ (l : List (Entry RecorderEntry)). Called registration (calls l)) (sym lent_is)
      (longer_has registration h.0.seen h.2.0 h.2.3.begins
      (subst (λ (l : List (Entry RecorderEntry)). Called registration (calls l)) (sym registered_is)
      (subst (Called registration) (sym (calls-append h.1.0 (said p.number (registration ∷ [])))) (called_last registration (calls h.1.0)))))

  pub handed_begins : (e : Exporter) → KnowsBuilt e p → Begins e v.seen
  handed_begins e k =
      subst (Begins e) (sym lent_is)
      (longer_begins e h.0.seen h.2.0 h.2.3.begins
      (subst (Begins e) (sym registered_is)
      (longer_begins e h.1.0 (h.1.0 ++ said p.number (registration ∷ [])) (said p.number (registration ∷ []), refl) (longer_begins e p.seen h.1.0 h.1.4.begins k))))

  -- what the pass has seen made a state
  pub handed_reached : Reached (calls v.seen) h.2.1.settings (setup (state_of h.2.1))
  handed_reached = subst (λ (l : List (Entry RecorderEntry)). StandsFor (calls l) h.2.1) (sym lent_is) h.2.4

-- ---- two passes

among_front : (h : Held RecorderEntry) (hs ks : List (Held RecorderEntry)) → Among h hs → Among h (hs ++ ks)
among_front h [] ks a = absurd a
among_front h (x ∷ hs) ks a = ⊎_elim (λ (e : h ≡ x). inl e) (λ (q : Among h hs). inr (among_front h hs ks q)) a

among_last : (h : Held RecorderEntry) (hs : List (Held RecorderEntry)) → Among h (hs ++ h ∷ [])
among_last h [] = inl refl
among_last h (x ∷ hs) = inr (among_last h hs)

either_way : (a b : ℕ) → (a ≤ b) ⊎ (b ≤ a)
either_way zero b = inl (omega arith)
either_way (suc a) zero = inr (omega arith)
either_way (suc a) (suc b) = ⊎_elim (λ (le : a ≤ b). inl (omega arith)) (λ (le : b ≤ a). inr (omega arith)) (either_way a b)

abbrev pub EqualKeys : Type 0
EqualKeys =
    (entries : List RecorderEntry) (settings : ExporterSettings) (state : PrometheusState) (kind : MetricKind) (a b : KeyText) (n m : ℕ) → settings.idle ≡ None → Reached entries settings state
    → Called (Register kind a n) entries → Called (Register kind b m) entries → key_eq a b ≡ true → n ≡ m

pub handed_agree : EqualKeys → {H P : Type 0} (kind : MetricKind) (lends : SeriesId → Option (Lent H P) → Exporter → Exporter → Type 0) → EqualKeysAgree kind lends
handed_agree equal kind lends = λ a b mine theirs u v w p q e log s kp kq hv hw never same.
    let first = held v.number v.mine v.seen in
    let second = held w.number w.mine w.seen in
    let whole = (taker (taker u v) w).seen in
    let in_first : IsPrefix v.seen whole = (s.returned first (among_front first (u.joined ++ first ∷ []) (second ∷ []) (among_last first u.joined))).begins in
    let in_second : IsPrefix w.seen whole = (s.returned second (among_last second (u.joined ++ first ∷ []))).begins in
    let reached_v = handed_reached kind lends a mine p v hv in
    let reached_w = handed_reached kind lends b theirs q w hw in
    let called_v = handed_called kind lends a mine p v hv in
    let called_w = handed_called kind lends b theirs q w hw in
    let never_v : hv.2.1.settings.idle ≡ None
    = ap (λ (t : ExporterSettings). t.idle) (begun_settings e v.seen hv.2.1.settings (setup (state_of hv.2.1)) (handed_begins kind lends a mine p v hv e kp) reached_v) ∙ never in
    let never_w : hw.2.1.settings.idle ≡ None
    = ap (λ (t : ExporterSettings). t.idle) (begun_settings e w.seen hw.2.1.settings (setup (state_of hw.2.1)) (handed_begins kind lends b theirs q w hw e kq) reached_w) ∙ never in
    ⊎_elim
    (λ (le : length v.seen ≤ length w.seen).
    equal (calls w.seen) hw.2.1.settings (setup (state_of hw.2.1)) kind a b mine.id.number theirs.id.number never_w reached_w
    (longer_has (Register kind a mine.id.number) v.seen w.seen (prefix_shorter v.seen w.seen whole in_first in_second le) called_v) called_w same)
    (λ (le : length w.seen ≤ length v.seen).
    equal (calls v.seen) hv.2.1.settings (setup (state_of hv.2.1)) kind a b mine.id.number theirs.id.number never_v reached_v called_v
    (longer_has (Register kind b theirs.id.number) w.seen v.seen (prefix_shorter w.seen v.seen whole in_second in_first le) called_w) same)
    (either_way (length v.seen) (length w.seen))
