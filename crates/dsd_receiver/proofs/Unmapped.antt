-- What is seen as others, where no two are seen as one: what holds of the images holds of the calls.
use Rattle.std.proofs.Common.{◌≡◌, ◌⊎◌, List, [], ◌∷◌, map, refl, sym, ap, subst, ◌∙◌, inl, inr, ⊎_elim}
use Rattle.legal_history.specs.declared.history.Entry.{Entry}
use Rattle.legal_history.specs.declared.history.Held.{Held}
use Rattle.legal_history.specs.declared.history.View.{View}
use Rattle.legal_history.specs.History.{Among, Distinct, In, Joined, Settled, calls_by, numbers}
use Rattle.legal_history.specs.Mapped.{IsOneToOne, mapped_entry, mapped_held, mapped_log, mapped_view}
use Rattle.legal_history.proofs.Mapped.{calls_by-mapped}
use Rattle.metrics_core.specs.declared.calls.SeriesCall.{SeriesCall}
use Rattle.histogram_series.specs.Entries.{TimedCall}
use Rattle.prom_exporter.specs.declared.lanes.SeriesEntry.{SeriesEntry}
use Rattle.prom_exporter.specs.declared.lanes.SeriesEntry.TheVariants as entries

-- lists with one image are one, where no two elements have one
pub lists-back : {C D : Type 0} (f : C → D) → IsOneToOne f → (xs ys : List C) → map f xs ≡ map f ys → xs ≡ ys
lists-back f once [] [] e = refl
lists-back f once [] (y ∷ ys) e = absurd cc
lists-back f once (x ∷ xs) [] e = absurd cc
lists-back f once (x ∷ xs) (y ∷ ys) e =
    let first : f x ≡ f y = cc in
    let others : map f xs ≡ map f ys = cc in
    (λ i. once x y first i ∷ lists-back f once xs ys others i)

module _ {C D : Type 0} (f : C → D) where
  numbers-mapped : (hs : List (Held C)) → numbers (map (mapped_held f) hs) ≡ numbers hs
  numbers-mapped [] = refl
  numbers-mapped (h ∷ hs) = ap (λ l. h.by ∷ l) (numbers-mapped hs)

  among-mapped : (h : Held C) (hs : List (Held C)) → Among h hs → Among (mapped_held f h) (map (mapped_held f) hs)
  among-mapped h [] among = among
  among-mapped h (g ∷ gs) among = ⊎_elim (λ (is : h ≡ g). inl (ap (mapped_held f) is)) (λ (more : Among h gs). inr (among-mapped h gs more)) among

  module _ (once : IsOneToOne f) where
    none-back : (xs : List C) → map f xs ≡ [] → xs ≡ []
    none-back [] e = refl
    none-back (x ∷ xs) e = absurd cc

    pub settled-back : (v : View C) → Settled (mapped_view f v) → Settled v
    settled-back v settled = record {
      own = lists-back f once (calls_by 0 v.seen) v.mine (sym (calls_by-mapped f 0 v.seen) ∙ settled.own);
      back = λ h among. lists-back f once (calls_by h.by v.seen) h.calls (sym (calls_by-mapped f h.by v.seen) ∙ settled.back (mapped_held f h) (among-mapped h v.joined among));
      cover = λ t. ⊎_elim
          (λ (none : calls_by t (mapped_view f v).seen ≡ []). inl (none-back (calls_by t v.seen) (sym (calls_by-mapped f t v.seen) ∙ none)))
          (λ (owned : (t ≡ 0) ⊎ Joined t (mapped_view f v).joined). inr (subst (λ l. (t ≡ 0) ⊎ In t l) (numbers-mapped v.joined) owned))
          (settled.cover t);
      apart = subst (λ l. Distinct (0 ∷ l)) (numbers-mapped v.joined) settled.apart;
    }

    entry-back : IsOneToOne (mapped_entry f)
    entry-back a b e =
        let call = once a.call b.call (ap (λ (x : Entry D). x.call) e) in
        let by = ap (λ (x : Entry D). x.by) e in
        (λ i. record { by = by i; call = call i })

    log-back : (xs ys : List (Entry C)) → mapped_log f xs ≡ mapped_log f ys → xs ≡ ys
    log-back = lists-back (mapped_entry f) entry-back

    held-back : IsOneToOne (mapped_held f)
    held-back a b e =
        let by = ap (λ (x : Held D). x.by) e in
        let calls = lists-back f once a.calls b.calls (ap (λ (x : Held D). x.calls) e) in
        let seen = log-back a.seen b.seen (ap (λ (x : Held D). x.seen) e) in
        (λ i. record { by = by i; calls = calls i; seen = seen i })

    -- two passes that are seen as one know the same
    pub view-back : IsOneToOne (mapped_view f)
    view-back v w e =
        let number = ap (λ (x : View D). x.number) e in
        let live = ap (λ (x : View D). x.live) e in
        let seen = log-back v.seen w.seen (ap (λ (x : View D). x.seen) e) in
        let mine = lists-back f once v.mine w.mine (ap (λ (x : View D). x.mine) e) in
        let joined = lists-back (mapped_held f) held-back v.joined w.joined (ap (λ (x : View D). x.joined) e) in
        let made = ap (λ (x : View D). x.made) e in
        let children = ap (λ (x : View D). x.children) e in
        let out = ap (λ (x : View D). x.out) e in
        (λ i. record { number = number i; live = live i; seen = seen i; mine = mine i; joined = joined i; made = made i; children = children i; out = out i })

-- ---- the calls of one kind of series

value_or : SeriesCall → SeriesEntry → SeriesCall
value_or d (entries.Value call) = call
value_or d (entries.Queue call) = d

pub value_once : IsOneToOne entries.Value
unfolding value_or
value_once a b e = ap (value_or a) e

queue_or : TimedCall → SeriesEntry → TimedCall
queue_or d (entries.Value call) = d
queue_or d (entries.Queue call) = call

pub queue_once : IsOneToOne entries.Queue
unfolding queue_or
queue_once a b e = ap (queue_or a) e
