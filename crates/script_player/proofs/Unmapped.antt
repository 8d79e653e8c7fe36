-- Histories whose calls are seen as others, where no two are seen as one: what holds of the images holds of the calls.
use Rattle.std.proofs.Common.{◌≡◌, ◌⊎◌, List, [], ◌∷◌, map, refl, sym, ap, subst, ◌∙◌, inl, inr, ⊎_elim}
use Rattle.legal_history.specs.declared.history.Held.{Held}
use Rattle.legal_history.specs.declared.history.View.{View}
use Rattle.legal_history.specs.History.{Among, Distinct, In, Joined, Settled, calls_by, numbers}
use Rattle.legal_history.specs.Mapped.{IsOneToOne, mapped_held, mapped_view}
use Rattle.legal_history.proofs.Mapped.{calls_by-mapped}
use Rattle.metrics_core.specs.declared.calls.SeriesCall.{SeriesCall}
use Rattle.histogram_series.specs.Entries.{TimedCall}
use Rattle.prom_exporter.specs.declared.lanes.SeriesEntry.{SeriesEntry}
use Rattle.prom_exporter.specs.declared.lanes.SeriesEntry.TheVariants as entries

module _ {C D : Type 0} (f : C → D) where
  numbers-mapped : (hs : List (Held C)) → numbers (map (mapped_held f) hs) ≡ numbers hs
  numbers-mapped [] = refl
  numbers-mapped (h ∷ hs) = ap (λ l. h.by ∷ l) (numbers-mapped hs)

  among-mapped : (h : Held C) (hs : List (Held C)) → Among h hs → Among (mapped_held f h) (map (mapped_held f) hs)
  among-mapped h [] among = among
  among-mapped h (g ∷ gs) among = ⊎_elim (λ (is : h ≡ g). inl (ap (mapped_held f) is)) (λ (more : Among h gs). inr (among-mapped h gs more)) among

  module _ (once : IsOneToOne f) where
    -- lists with one image
    pub lists-back : (xs ys : List C) → map f xs ≡ map f ys → xs ≡ ys
    lists-back [] [] e = refl
    lists-back [] (y ∷ ys) e = absurd cc
    lists-back (x ∷ xs) [] e = absurd cc
    lists-back (x ∷ xs) (y ∷ ys) e =
        let first : f x ≡ f y = cc in
        let others : map f xs ≡ map f ys = cc in
        (λ i. once x y first i ∷ lists-back xs ys others i)

    none-back : (xs : List C) → map f xs ≡ [] → xs ≡ []
    none-back [] e = refl
    none-back (x ∷ xs) e = absurd cc

    pub settled-back : (v : View C) → Settled (mapped_view f v) → Settled v
    settled-back v settled = record {
      own = lists-back (calls_by 0 v.seen) v.mine (sym (calls_by-mapped f 0 v.seen) ∙ settled.own);
      back = λ h among. lists-back (calls_by h.by v.seen) h.calls (sym (calls_by-mapped f h.by v.seen) ∙ settled.back (mapped_held f h) (among-mapped h v.joined among));
      cover = λ t. ⊎_elim
          (λ (none : calls_by t (mapped_view f v).seen ≡ []). inl (none-back (calls_by t v.seen) (sym (calls_by-mapped f t v.seen) ∙ none)))
          (λ (owned : (t ≡ 0) ⊎ Joined t (mapped_view f v).joined). inr (subst (λ l. (t ≡ 0) ⊎ In t l) (numbers-mapped v.joined) owned))
          (settled.cover t);
      apart = subst (λ l. Distinct (0 ∷ l)) (numbers-mapped v.joined) settled.apart;
    }

-- ---- the calls of one kind of series

value_or : SeriesCall → SeriesEntry → SeriesCall
value_or d (entries.Value call) = call
value_or d (entries.Queue call) = d

pub value_once : IsOneToOne entries.Value
unfolding value_or
value_once a b e = ap (value_or a) e

queue_or : TimedCall → SeriesEntry → TimedCall
queue_or d (entries.Value call) = d
queue_or d (entries.Queue call) = call

pub queue_once : IsOneToOne entries.Queue
unfolding queue_or
queue_once a b e = ap (queue_or a) e
