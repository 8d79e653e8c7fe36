-- Two passes that registered and were given back.
use Rattle.std.proofs.Common.{◌≡◌, ℕ, zero, suc, ◌≤◌, List, [], ◌∷◌, ◌++◌, true, length, refl, sym, ap, ◌∙◌, subst, inl, inr, ⊎_elim, ◌⊎◌, None, Result, Ok, IfOk, arith}
use mathlib.Core.List.{IsPrefix}
use Rattle.metrics_core.specs.Keys.{KeyText, key_eq}
use Rattle.metrics_core.specs.declared.kinds.MetricKind.{MetricKind}
use Rattle.metrics_core.specs.declared.kinds.SeriesId.{SeriesId}
use Rattle.legal_history.specs.declared.history.Entry.{Entry}
use Rattle.legal_history.specs.declared.history.Held.{Held}
use Rattle.legal_history.specs.declared.history.View.{View}
use Rattle.legal_history.specs.History.{calls, said, entry, after, Among, held, lender, child, taker, Sees}
use Rattle.legal_history.proofs.Lists.{calls-append}
use Rattle.legal_history.proofs.Prefixes.{prefix_shorter}
use Rattle.prom_exporter.specs.State.{PrometheusState}
use Rattle.prom_exporter.specs.Families.{ExporterSettings}
use Rattle.prom_exporter.specs.Exporter.{Exporter}
use Rattle.shared_turns.specs.Turns.{opening}
use Rattle.shared_recorder.specs.declared.entries.RecorderEntry.{RecorderEntry}
use Rattle.shared_recorder.specs.declared.entries.RecorderEntry.TheVariants.{Built, Register}
use Rattle.shared_recorder.specs.Setup.{Step, Called}
use Rattle.shared_recorder.specs.Stands.{Reached, Makes, KnowsBuilt}
use Rattle.shared_recorder.proofs.Standing.{reached_more}
use Rattle.shared_recorder.proofs.Numbering.{numbers_same}

called_last : (c : RecorderEntry) (cs : List RecorderEntry) → Called c (cs ++ c ∷ [])
called_last c [] = inl refl
called_last c (d ∷ ds) = inr (called_last c ds)

called_front : (c : RecorderEntry) (cs ds : List RecorderEntry) → Called c cs → Called c (cs ++ ds)
called_front c [] ds q = absurd q
called_front c (e ∷ cs) ds q = ⊎_elim (λ (z : c ≡ e). inl z) (λ (later : Called c cs). inr (called_front c cs ds later)) q

among_front : (h : Held RecorderEntry) (hs ks : List (Held RecorderEntry)) → Among h hs → Among h (hs ++ ks)
among_front h [] ks a = absurd a
among_front h (x ∷ hs) ks a = ⊎_elim (λ (e : h ≡ x). inl e) (λ (q : Among h hs). inr (among_front h hs ks q)) a

among_last : (h : Held RecorderEntry) (hs : List (Held RecorderEntry)) → Among h (hs ++ h ∷ [])
among_last h [] = inl refl
among_last h (x ∷ hs) = inr (among_last h hs)

seen_of : (c : RecorderEntry) (p v : View RecorderEntry) (m : Makes c p v) → calls v.seen ≡ calls m.0 ++ c ∷ []
seen_of c p v m = ap (λ (u : View RecorderEntry). calls u.seen) m.7 ∙ calls-append m.0 (said p.number (c ∷ []))

last_call : (c : RecorderEntry) (p v : View RecorderEntry) → Makes c p v → Called c (calls v.seen)
last_call c p v m = subst (Called c) (sym (seen_of c p v m)) (called_last c (calls m.0))

-- what a pass has seen made this state
pub made_reached : (c : RecorderEntry) (p v : View RecorderEntry) (m : Makes c p v) → Reached (calls v.seen) m.1 m.3
made_reached c p v m = subst (λ cs. Reached cs m.1 m.3) (sym (seen_of c p v m)) (reached_more (calls m.0) m.1 m.2 m.3 c m.5 m.6)

-- the settings are those that the recorder was built with
pub made_settings : (c : RecorderEntry) (p v : View RecorderEntry) (e : Exporter) (m : Makes c p v) → KnowsBuilt e p → m.1 ≡ e.settings
made_settings c p v e m k =
    let begins = m.4.begins in
    let whole : m.0 ≡ entry 0 (Built e) ∷ (k.0 ++ begins.0) = sym begins.1 ∙ ap (λ (l : List (Entry RecorderEntry)). l ++ begins.0) k.1 in
    (subst (λ (l : List (Entry RecorderEntry)). Reached (calls l) m.1 m.2) whole m.5).0

longer_has : (c : RecorderEntry) (xs ys : List (Entry RecorderEntry)) → IsPrefix xs ys → Called c (calls xs) → Called c (calls ys)
longer_has c xs ys p q = subst (λ (l : List (Entry RecorderEntry)). Called c (calls l)) p.1 (subst (Called c) (sym (calls-append xs p.0)) (called_front c (calls xs) (calls p.0) q))

either_way : (a b : ℕ) → (a ≤ b) ⊎ (b ≤ a)
either_way zero b = inl (omega arith)
either_way (suc a) zero = inr (omega arith)
either_way (suc a) (suc b) = ⊎_elim (λ (le : a ≤ b). inl (omega arith)) (λ (le : b ≤ a). inr (omega arith)) (either_way a b)

pub beside : (u v w p q : View RecorderEntry) (e : Exporter) (log : List (Entry RecorderEntry)) (kind : MetricKind) (a b : KeyText) (n m : ℕ) → Sees (taker (taker u v) w) log → KnowsBuilt e p → KnowsBuilt e q
    → Makes (Register kind a n) p v → Makes (Register kind b m) q w → e.settings.idle ≡ None → key_eq a b ≡ true → n ≡ m
beside u v w p q e log kind a b n m s kp kq mine theirs never same =
    let first = held v.number v.mine v.seen in
    let second = held w.number w.mine w.seen in
    let whole = (taker (taker u v) w).seen in
    let in_first : IsPrefix v.seen whole = (s.returned first (among_front first (u.joined ++ first ∷ []) (second ∷ []) (among_last first u.joined))).begins in
    let in_second : IsPrefix w.seen whole = (s.returned second (among_last second (u.joined ++ first ∷ []))).begins in
    let idle_v : mine.1.idle ≡ None = ap (λ (t : ExporterSettings). t.idle) (made_settings (Register kind a n) p v e mine kp) ∙ never in
    let idle_w : theirs.1.idle ≡ None = ap (λ (t : ExporterSettings). t.idle) (made_settings (Register kind b m) q w e theirs kq) ∙ never in
    ⊎_elim
    (λ (le : length v.seen ≤ length w.seen).
    numbers_same (calls w.seen) theirs.1 theirs.3 kind a b n m idle_w (made_reached (Register kind b m) q w theirs)
    (longer_has (Register kind a n) v.seen w.seen (prefix_shorter v.seen w.seen whole in_first in_second le) (last_call (Register kind a n) p v mine)) (last_call (Register kind b m) q w theirs) same)
    (λ (le : length w.seen ≤ length v.seen).
    numbers_same (calls v.seen) mine.1 mine.3 kind a b n m idle_v (made_reached (Register kind a n) p v mine) (last_call (Register kind a n) p v mine)
    (longer_has (Register kind b m) w.seen v.seen (prefix_shorter w.seen v.seen whole in_second in_first le) (last_call (Register kind b m) q w theirs)) same)
    (either_way (length v.seen) (length w.seen))

-- what a pass that a new root lent knows of the beginning
knows_built : (e : Exporter) (r p : View RecorderEntry) → r.seen ≡ entry 0 (Built e) ∷ [] → p ≡ child r → KnowsBuilt e p
knows_built e r p seen is = ([], ap (λ (v : View RecorderEntry). v.seen) is ∙ seen)

-- two passes of a new recorder that registered and came back
pub two_beside : (e : Exporter) (r s t u x p q v w : View RecorderEntry) (log : List (Entry RecorderEntry)) (kind : MetricKind) (a b : KeyText) (i j : SeriesId)
    → r ≡ opening (Built e) → s ≡ lender r → p ≡ child r → t ≡ lender s → q ≡ child s → u ≡ taker t v → x ≡ taker u w → Sees x log
    → (i.kind ≡ kind) × Makes (Register kind a i.number) p v → (j.kind ≡ kind) × Makes (Register kind b j.number) q w → e.settings.idle ≡ None → key_eq a b ≡ true → i ≡ j
two_beside e r s t u x p q v w log kind a b i j new one first two second back again sees mine theirs never same =
    let begins : r.seen ≡ entry 0 (Built e) ∷ [] = ap (λ (y : View RecorderEntry). y.seen) new in
    let whole : x ≡ taker (taker t v) w = again ∙ ap (λ (y : View RecorderEntry). taker y w) back in
    let numbers = beside t v w p q e log kind a b i.number j.number (subst (λ (y : View RecorderEntry). Sees y log) whole sees) (knows_built e r p begins first)
    (knows_built e s q (ap (λ (y : View RecorderEntry). y.seen) one ∙ begins) second) mine.1 theirs.1 never same in
    λ k. record { kind = (mine.0 ∙ sym theirs.0) k; number = numbers k }

-- what is said of a registration that was made well
pub registered_ok : {X : Type 0} (kind : MetricKind) (key : KeyText) (p v : View RecorderEntry) (r : Result SeriesId X) (id : SeriesId) → r ≡ Ok id
    → IfOk r (λ (i : SeriesId). (i.kind ≡ kind) × Makes (Register kind key i.number) p v) → (id.kind ≡ kind) × Makes (Register kind key id.number) p v
registered_ok kind key p v r id is made = subst (λ o. IfOk o (λ (i : SeriesId). (i.kind ≡ kind) × Makes (Register kind key i.number) p v)) is made
