-- The exporter's series have the indices of their places, and each index is of one series.
use Rattle.std.proofs.Common.{◌≡◌, ℕ, zero, suc, ◌+◌, ◌<◌, ◌⊎◌, List, [], ◌∷◌, ◌++◌, length, map, refl, sym, ap, subst, ◌∙◌, inl, inr, ⊎_elim, arith, length-append}
use Rattle.std.proofs.lemmas.Bool.{true≢false}
use Rattle.std.proofs.lemmas.List.{length-map}
use mathlib.Core.Option.{some, some-ne-none, some-injective}
use lib.ListN.{get_elem?}
use Rattle.atomic_table.proofs.Lists.{at_longer, at_map}
use Rattle.metrics_core.specs.declared.kinds.MetricKind.{MetricKind}
use Rattle.metrics_core.specs.declared.kinds.MetricKind.TheVariants as kinds
use Rattle.metrics_core.specs.declared.kinds.SeriesId.{SeriesId}
use Rattle.metrics_core.specs.Kinds.{kind_eq}
use Rattle.metrics_registry.specs.Live.{LiveSeries, IsBelowAll, Rises, AreOf, IsNumbered}
use Rattle.prom_exporter.specs.Sampled.{Sampled}
use Rattle.prom_exporter.specs.Exporter.{Exporter, SharedCounter, SharedGauge}
use Rattle.prom_exporter.specs.LanePasses.{counter_thing, gauge_thing, histogram_thing, ids_of}
use Rattle.prom_exporter.specs.LaneIndices.{gauge_index, histogram_index, HasIndex, HaveIndices, HaveOneIndex, IsOfOneKind}
use Rattle.prom_exporter.proofs.LaneThings.{at_behind}

-- ---- lists, one behind the other

front_or_behind : {A : Type 0} (xs ys : List A) (i : ℕ) (a : A) → get_elem? (xs ++ ys) i ≡ some a → (get_elem? xs i ≡ some a) ⊎ ((k : ℕ) × (i ≡ length xs + k) × (get_elem? ys k ≡ some a))
front_or_behind [] ys i a e = inr (i, omega arith, e)
front_or_behind (x ∷ xs) ys zero a e = inl e
front_or_behind (x ∷ xs) ys (suc i) a e = ⊎_elim
    (λ (front : get_elem? xs i ≡ some a). inl front)
    (λ (back : (k : ℕ) × (i ≡ length xs + k) × (get_elem? ys k ≡ some a)). inr (back.0, (let h = back.1 in omega (arith, h)), back.2))
    (front_or_behind xs ys i a e)

image_at : {A B : Type 0} (f : A → B) (xs : List A) (i : ℕ) (b : B) → get_elem? (map f xs) i ≡ some b → (a : A) × (get_elem? xs i ≡ some a) × (f a ≡ b)
image_at f [] i b e = absurd (some-ne-none b (sym e))
image_at f (x ∷ xs) zero b e = (x, refl, some-injective (f x) b e)
image_at f (x ∷ xs) (suc i) b e = image_at f xs i b e

-- of three lists, each as images of others, what stands at a place of one
module _ {X Y Z T : Type 0} (f : X → T) (g : Y → T) (h : Z → T) (xs : List X) (ys : List Y) (zs : List Z) where
  abbrev all : List T
  all = map f xs ++ (map g ys ++ map h zs)

  first_at : (i : ℕ) (x : X) → get_elem? xs i ≡ some x → get_elem? all i ≡ some (f x)
  first_at i x e = at_longer (map f xs) (map g ys ++ map h zs) i (f x) (at_map f xs i x e)

  second_at : (i : ℕ) (y : Y) → get_elem? ys i ≡ some y → get_elem? all (length xs + i) ≡ some (g y)
  second_at i y e =
      subst (λ n. get_elem? all (n + i) ≡ some (g y)) (length-map xs f)
      (at_behind (map f xs) (map g ys ++ map h zs) i (g y) (at_longer (map g ys) (map h zs) i (g y) (at_map g ys i y e)))

  third_at : (i : ℕ) (z : Z) → get_elem? zs i ≡ some z → get_elem? all (length xs + (length ys + i)) ≡ some (h z)
  third_at i z e =
      subst (λ n. get_elem? all n ≡ some (h z)) (λ j. length-map xs f j + (length-map ys g j + i))
      (at_behind (map f xs) (map g ys ++ map h zs) (length (map g ys) + i) (h z) (at_behind (map g ys) (map h zs) i (h z) (at_map h zs i z e)))

  abbrev First : ℕ → T → Type 0
  First i t = (x : X) × (get_elem? xs i ≡ some x) × (f x ≡ t)

  abbrev Second : ℕ → T → Type 0
  Second i t = (k : ℕ) × (i ≡ length xs + k) × ((y : Y) × (get_elem? ys k ≡ some y) × (g y ≡ t))

  abbrev Third : ℕ → T → Type 0
  Third i t = (k : ℕ) × (i ≡ length xs + (length ys + k)) × ((z : Z) × (get_elem? zs k ≡ some z) × (h z ≡ t))

  one_of_three : (i : ℕ) (t : T) → get_elem? all i ≡ some t → First i t ⊎ (Second i t ⊎ Third i t)
  one_of_three i t e = ⊎_elim
      (λ (front : get_elem? (map f xs) i ≡ some t). inl (image_at f xs i t front))
      (λ (rest : (k : ℕ) × (i ≡ length (map f xs) + k) × (get_elem? (map g ys ++ map h zs) k ≡ some t)). inr (⊎_elim
      (λ (middle : get_elem? (map g ys) rest.0 ≡ some t). inl (rest.0, rest.1 ∙ ap (λ n. n + rest.0) (length-map xs f), image_at g ys rest.0 t middle))
      (λ (back : (k : ℕ) × (rest.0 ≡ length (map g ys) + k) × (get_elem? (map h zs) k ≡ some t)).
      inr (back.0, rest.1 ∙ (λ j. length-map xs f j + (back.1 ∙ ap (λ n. n + back.0) (length-map ys g)) j), image_at h zs back.0 t back.2))
      (front_or_behind (map g ys) (map h zs) rest.0 t rest.2)))
      (front_or_behind (map f xs) (map g ys ++ map h zs) i t e)

  many : length all ≡ length xs + (length ys + length zs)
  many = length-append (map f xs) (map g ys ++ map h zs) ∙ (λ j. length-map xs f j + (length-append (map g ys) (map h zs) ∙ (λ k. length-map ys g k + length-map zs h k)) j)

-- ---- the series

module _ (e : Exporter) where
  abbrev counter_id : LiveSeries SharedCounter → SeriesId
  counter_id s = s.id

  abbrev gauge_id : LiveSeries SharedGauge → SeriesId
  gauge_id s = s.id

  abbrev histogram_id : LiveSeries Sampled → SeriesId
  histogram_id s = s.id

  pub counter_has : (place : ℕ) (s : LiveSeries SharedCounter) → get_elem? e.series.counters place ≡ some s → HasIndex e place (counter_thing s) s.id
  counter_has place s at = (
    first_at counter_thing gauge_thing histogram_thing e.series.counters e.series.gauges e.series.histograms place s at,
    first_at counter_id gauge_id histogram_id e.series.counters e.series.gauges e.series.histograms place s at,
  )

  pub gauge_has : (place : ℕ) (s : LiveSeries SharedGauge) → get_elem? e.series.gauges place ≡ some s → HasIndex e (gauge_index e place) (gauge_thing s) s.id
  gauge_has place s at = (
    second_at counter_thing gauge_thing histogram_thing e.series.counters e.series.gauges e.series.histograms place s at,
    second_at counter_id gauge_id histogram_id e.series.counters e.series.gauges e.series.histograms place s at,
  )

  pub histogram_has : (place : ℕ) (s : LiveSeries Sampled) → get_elem? e.series.histograms place ≡ some s → HasIndex e (histogram_index e place) (histogram_thing s) s.id
  histogram_has place s at = (
    third_at counter_thing gauge_thing histogram_thing e.series.counters e.series.gauges e.series.histograms place s at,
    third_at counter_id gauge_id histogram_id e.series.counters e.series.gauges e.series.histograms place s at,
  )

  pub have_indices : HaveIndices e
  have_indices = record {
    counters = counter_has;
    gauges = gauge_has;
    histograms = histogram_has;
    as_many =
        many counter_id gauge_id histogram_id e.series.counters e.series.gauges e.series.histograms
        ∙ sym (many counter_thing gauge_thing histogram_thing e.series.counters e.series.gauges e.series.histograms);
  }

  pub of_one_kind : IsOfOneKind e
  of_one_kind index thing at = one_of_three counter_thing gauge_thing histogram_thing e.series.counters e.series.gauges e.series.histograms index thing at

-- ---- ids

module _ {X : Type 0} where
  above : (n : ℕ) (es : List (LiveSeries X)) → IsBelowAll n es → (i : ℕ) (s : LiveSeries X) → get_elem? es i ≡ some s → n < s.id.number
  above n [] below i s e = absurd (some-ne-none s (sym e))
  above n (x ∷ es) below zero s e = subst (λ (y : LiveSeries X). n < y.id.number) (some-injective x s e) below.0
  above n (x ∷ es) below (suc i) s e = above n es below.1 i s e

  rise_apart : (es : List (LiveSeries X)) → Rises es → (i j : ℕ) (s t : LiveSeries X) → get_elem? es i ≡ some s → get_elem? es j ≡ some t → s.id ≡ t.id → i ≡ j
  rise_apart [] rises i j s t e f same = absurd (some-ne-none s (sym e))
  rise_apart (x ∷ es) rises zero zero s t e f same = refl
  rise_apart (x ∷ es) rises zero (suc j) s t e f same =
      absurd (let h = above x.id.number es rises.0 j t f in let own = ap (λ (y : LiveSeries X). y.id.number) (some-injective x s e) in let both = ap (λ (id : SeriesId). id.number) same in omega (arith, h, own, both))
  rise_apart (x ∷ es) rises (suc i) zero s t e f same =
      absurd (let h = above x.id.number es rises.0 i s e in let own = ap (λ (y : LiveSeries X). y.id.number) (some-injective x t f) in let both = ap (λ (id : SeriesId). id.number) same in omega (arith, h, own, both))
  rise_apart (x ∷ es) rises (suc i) (suc j) s t e f same = ap suc (rise_apart es rises.1 i j s t e f same)

  kind_of : (kind : MetricKind) (n : ℕ) (es : List (LiveSeries X)) → AreOf kind n es → (i : ℕ) (s : LiveSeries X) → get_elem? es i ≡ some s → s.id.kind ≡ kind
  kind_of kind n [] are i s e = absurd (some-ne-none s (sym e))
  kind_of kind n (x ∷ es) are zero s e = ap (λ (y : LiveSeries X). y.id.kind) (sym (some-injective x s e)) ∙ are.0
  kind_of kind n (x ∷ es) are (suc i) s e = kind_of kind n es are.2 i s e

counter≢gauge : kinds.Counter ≡ kinds.Gauge → ⊥
counter≢gauge e = true≢false (ap (λ k. kind_eq k kinds.Counter) e)

counter≢histogram : kinds.Counter ≡ kinds.Histogram → ⊥
counter≢histogram e = true≢false (ap (λ k. kind_eq k kinds.Counter) e)

gauge≢histogram : kinds.Gauge ≡ kinds.Histogram → ⊥
gauge≢histogram e = true≢false (ap (λ k. kind_eq k kinds.Gauge) e)

module _ (e : Exporter) (numbered : IsNumbered e.series) (i j : ℕ) (id : SeriesId) where
  abbrev AsCounter : ℕ → Type 0
  AsCounter n = First (counter_id e) (gauge_id e) (histogram_id e) e.series.counters e.series.gauges e.series.histograms n id

  abbrev AsGauge : ℕ → Type 0
  AsGauge n = Second (counter_id e) (gauge_id e) (histogram_id e) e.series.counters e.series.gauges e.series.histograms n id

  abbrev AsHistogram : ℕ → Type 0
  AsHistogram n = Third (counter_id e) (gauge_id e) (histogram_id e) e.series.counters e.series.gauges e.series.histograms n id

  counter_kind : (n : ℕ) → AsCounter n → id.kind ≡ kinds.Counter
  counter_kind n c = ap (λ (x : SeriesId). x.kind) (sym c.2) ∙ kind_of kinds.Counter e.series.made e.series.counters numbered.counters.1 n c.0 c.1

  gauge_kind : (n : ℕ) → AsGauge n → id.kind ≡ kinds.Gauge
  gauge_kind n g = ap (λ (x : SeriesId). x.kind) (sym g.2.2) ∙ kind_of kinds.Gauge e.series.made e.series.gauges numbered.gauges.1 g.0 g.2.0 g.2.1

  histogram_kind : (n : ℕ) → AsHistogram n → id.kind ≡ kinds.Histogram
  histogram_kind n h = ap (λ (x : SeriesId). x.kind) (sym h.2.2) ∙ kind_of kinds.Histogram e.series.made e.series.histograms numbered.histograms.1 h.0 h.2.0 h.2.1

  same_counter : AsCounter i → AsCounter j → i ≡ j
  same_counter a b = rise_apart e.series.counters numbered.counters.0 i j a.0 b.0 a.1 b.1 (a.2 ∙ sym b.2)

  same_gauge : AsGauge i → AsGauge j → i ≡ j
  same_gauge a b = a.1 ∙ ap (λ n. length e.series.counters + n) (rise_apart e.series.gauges numbered.gauges.0 a.0 b.0 a.2.0 b.2.0 a.2.1 b.2.1 (a.2.2 ∙ sym b.2.2)) ∙ sym b.1

  same_histogram : AsHistogram i → AsHistogram j → i ≡ j
  same_histogram a b =
      a.1 ∙ ap (λ n. length e.series.counters + (length e.series.gauges + n)) (rise_apart e.series.histograms numbered.histograms.0 a.0 b.0 a.2.0 b.2.0 a.2.1 b.2.1 (a.2.2 ∙ sym b.2.2)) ∙ sym b.1

  abbrev AtIndex : ℕ → Type 0
  AtIndex n = AsCounter n ⊎ (AsGauge n ⊎ AsHistogram n)

  same_index : AtIndex i → AtIndex j → i ≡ j
  same_index a b = ⊎_elim
      (λ (c : AsCounter i). ⊎_elim (λ (d : AsCounter j). same_counter c d)
      (⊎_elim (λ (d : AsGauge j). absurd (counter≢gauge (sym (counter_kind i c) ∙ gauge_kind j d))) (λ (d : AsHistogram j). absurd (counter≢histogram (sym (counter_kind i c) ∙ histogram_kind j d)))) b)
      (⊎_elim
      (λ (c : AsGauge i). ⊎_elim (λ (d : AsCounter j). absurd (counter≢gauge (sym (counter_kind j d) ∙ gauge_kind i c)))
      (⊎_elim (λ (d : AsGauge j). same_gauge c d) (λ (d : AsHistogram j). absurd (gauge≢histogram (sym (gauge_kind i c) ∙ histogram_kind j d)))) b)
      (λ (c : AsHistogram i). ⊎_elim (λ (d : AsCounter j). absurd (counter≢histogram (sym (counter_kind j d) ∙ histogram_kind i c)))
      (⊎_elim (λ (d : AsGauge j). absurd (gauge≢histogram (sym (gauge_kind j d) ∙ histogram_kind i c))) (λ (d : AsHistogram j). same_histogram c d)) b))
      a

pub one_index : (e : Exporter) → IsNumbered e.series → HaveOneIndex e
one_index e numbered i j id at there =
    let found : (n : ℕ) → get_elem? (ids_of e) n ≡ some id → AtIndex e numbered i j id n = λ n here. one_of_three (counter_id e) (gauge_id e) (histogram_id e) e.series.counters e.series.gauges e.series.histograms n id here in
    same_index e numbered i j id (found i at) (found j there)
