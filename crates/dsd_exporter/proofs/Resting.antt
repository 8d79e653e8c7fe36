-- An exporter at rest stays so.
use Rattle.std.proofs.Common.{◌≡◌, ℕ, zero, suc, List, [], ◌∷◌, ◌++◌, refl, sym, ap, subst, ◌∙◌, ◌⊎◌, inl, inr, ⊎_elim}
use Rattle.std.specs.Prelude.{All}
use Rattle.std.proofs.lemmas.Bool.{cases_eq}
use Rattle.std.proofs.lemmas.List.Elements.{All-nil, All-cons, All-head, All-tail, All-push, All-weaker}
use mathlib.Core.Option.{some, some-ne-none, some-injective}
use lib.ListN.{get_elem?}
use Rattle.legal_history.specs.declared.history.Entry.{Entry}
use Rattle.legal_history.specs.declared.history.Held.{Held}
use Rattle.legal_history.specs.declared.history.View.{View}
use Rattle.legal_history.specs.History.{Among, In, Joined, Settled, Sees, after, calls_by, first, numbers, said}
use Rattle.legal_history.proofs.Mapped.{settled-mapped}
use Rattle.legal_history.proofs.Steps.{first_settled, others_stay, own_grow}
use Rattle.cell_lanes.specs.Things.{root_of}
use Rattle.cell_lanes.specs.Lanes.{AtRest, Roots}
use Rattle.metrics_core.specs.declared.numbers.Fixed.{Fixed as FixedOf}
use Rattle.metrics_core.specs.Keys.{KeyText}
use Rattle.metrics_registry.specs.Live.{LiveSeries}
use Rattle.flushed_cells.specs.declared.counter_calls.CounterCall.TheVariants as counter
use Rattle.flushed_cells.specs.declared.counter_state.CounterState.{CounterState}
use Rattle.flushed_cells.specs.declared.gauge_calls.GaugeCall.TheVariants as gauge
use Rattle.flushed_cells.specs.declared.gauge_state.GaugeState.{GaugeState}
use Rattle.sample_queue.specs.declared.calls.QueueCall.{QueueCall}
use Rattle.sample_queue.specs.declared.calls.QueueCall.TheVariants.{Pop}
use Rattle.sample_queue.specs.declared.calls.SampleEntry.{SampleEntry}
use Rattle.dsd_exporter.specs.declared.lanes.SeriesEntry.TheVariants as entry
use Rattle.dsd_exporter.specs.Exporter.{Exporter, CounterThing, GaugeThing, Queued, IsHome}
use Rattle.dsd_exporter.specs.Flushing.{AreTaken, Drains, MaybeDrained, TakesCounter, CallsCounter, PassesCounter, TakesGauge, CallsGauge, PassesGauge, TakesOne, TakesOut, TakesSamples, Unchanged}
use Rattle.dsd_exporter.specs.LanePasses.{counter_thing, gauge_thing, histogram_thing, things_of}
use Rattle.dsd_exporter.specs.LaneIndices.{CounterHas, GaugeHas, HistogramHas}
use Rattle.dsd_exporter.specs.Resting.{AllRest, BeginsAtRest, FlushRests, NewSeriesRest, Rests, RestsForLanes}
use Rattle.dsd_exporter.proofs.LaneIndices.{counter_has, gauge_has, histogram_has, of_one_kind}
use Rattle.dsd_exporter.proofs.CallsTaken.{one_counter, one_gauge, one_queue}
use Rattle.dsd_exporter.proofs.LaneThings.{SeriesThing}
use Rattle.dsd_exporter.proofs.Unmapped.{settled-back}

-- what holds of all holds of what stands at a place, and the other way round
module _ {X : Type 0} (P : X → Type 0) where
  at_place : (xs : List X) (i : ℕ) (x : X) → All P xs → get_elem? xs i ≡ some x → P x
  at_place [] i x all at = absurd (some-ne-none x (sym at))
  at_place (y ∷ xs) zero x all at = subst P (some-injective y x at) (All-head P y xs all)
  at_place (y ∷ xs) (suc i) x all at = at_place xs i x (All-tail P y xs all) at

  from_places : (xs : List X) → ((i : ℕ) (x : X) → get_elem? xs i ≡ some x → P x) → All P xs
  from_places [] each = All-nil P
  from_places (x ∷ xs) each = All-cons P x xs (each 0 x refl) (from_places xs (λ i y at. each (suc i) y at))

-- ---- calls of the root

module _ {C : Type 0} where
  among_joined : (hs : List (Held C)) (h : Held C) → Among h hs → In h.by (numbers hs)
  among_joined [] h among = among
  among_joined (x ∷ hs) h among = ⊎_elim (λ (is : h ≡ x). inl (ap (λ (g : Held C). g.by) is)) (λ (more : Among h hs). inr (among_joined hs h more)) among

  -- with no pass out, the root knows whose each call is also when it made some more
  settled_after : (v : View C) (cs : List C) → v.number ≡ 0 → Settled v → Settled (after v v.seen cs)
  settled_after v cs root settled = record {
    own = subst (λ n. calls_by 0 (v.seen ++ said n cs) ≡ v.mine ++ cs) (sym root) (own_grow v.seen 0 cs ∙ ap (λ l. l ++ cs) settled.own);
    back = λ h among.
        subst (λ n. calls_by h.by (v.seen ++ said n cs) ≡ h.calls) (sym root)
        (others_stay v.seen h.by 0 cs (λ is. settled.apart.0 (subst (λ n. In n (numbers v.joined)) (sym is) (among_joined v.joined h among))) ∙ settled.back h among);
    cover = λ t. ⊎_elim
        (λ (is : t ≡ 0). inr (inl is))
        (λ (other : t ≡ 0 → ⊥). ⊎_elim
        (λ (none : calls_by t v.seen ≡ []). inl (subst (λ n. calls_by t (v.seen ++ said n cs) ≡ []) (sym root) (others_stay v.seen t 0 cs (λ is. other (sym is)) ∙ none)))
        (λ (owned : (t ≡ 0) ⊎ Joined t v.joined). inr owned)
        (settled.cover t))
        (cases_eq t 0);
    apart = settled.apart;
  }

  rests_after : (v : View C) (log : List (Entry C)) (cs : List C) → IsHome v → Sees v log → Rests (after v log cs)
  rests_after v log cs home sees =
      let whole = sees.whole home.0 home.1 in
      (home, subst (λ l. Settled (after v l cs)) (sym whole.0) (settled_after v cs home.0 whole.1))

-- ---- a flush

counter_rests : (s t : CounterThing) (x : CounterState) → Rests s.root → TakesCounter s x t → Rests t.root
counter_rests s t x rests takes = ⊎_elim
    (λ (called : CallsCounter s x t). subst (λ (c : CounterThing). Rests c.root) (sym called.3) (rests_after s.root called.0 (counter.Flush x.delta x.updates ∷ []) rests.0 called.1))
    (λ (passed : PassesCounter s x t). subst (λ (c : CounterThing). Rests c.root) (sym passed.2) rests)
    takes

gauge_rests : (s t : GaugeThing) (x : GaugeState) → Rests s.root → TakesGauge s x t → Rests t.root
gauge_rests s t x rests takes = ⊎_elim
    (λ (called : CallsGauge s x t). subst (λ (c : GaugeThing). Rests c.root) (sym called.3) (rests_after s.root called.0 (gauge.Flush x.value x.updates ∷ []) rests.0 called.1))
    (λ (passed : PassesGauge s x t). subst (λ (c : GaugeThing). Rests c.root) (sym passed.2) rests)
    takes

one_rests : (v w : View (QueueCall FixedOf)) (e : SampleEntry FixedOf) → Rests v → TakesOne v e w → Rests w
one_rests v w e rests m = subst Rests (sym m.6) (rests_after v m.0 (Pop e ∷ []) rests.0 m.3)

out_rests : (v w : View (QueueCall FixedOf)) (out : List (SampleEntry FixedOf)) → Rests v → TakesOut v out w → Rests w
out_rests v w [] rests taken = subst Rests taken rests
out_rests v w (e ∷ out) rests taken = out_rests taken.0 w out (one_rests v taken.0 e rests taken.1) taken.2

drains_rests : (s t : Queued) → Rests s.root → Drains s t → Rests t.root
drains_rests s t rests drains = out_rests s.root t.root drains.out rests drains.root

samples_rests : (s t : Queued) (x : List FixedOf) → Rests s.root → TakesSamples s x t → Rests t.root
samples_rests s t x rests takes = subst (λ (q : Queued). Rests q.root) (sym takes.taken) (drains_rests s takes.drained rests takes.drains)

-- the series of a kind
module _ {X Y M : Type 0} (root : X → View M) (Rest : List (LiveSeries X) → List (LiveSeries X) → Type 0) (Takes : X → Y → X → Type 0) where
  abbrev EachRests : List (LiveSeries X) → Type 0
  EachRests live = All (λ (s : LiveSeries X). Rests (root s.cell)) live

  taken_rests : ((s t : X) (y : Y) → Rests (root s) → Takes s y t → Rests (root t)) → ((old new : List (LiveSeries X)) → EachRests old → Rest old new → EachRests new)
      → (old new : List (LiveSeries X)) (found : List Y) → AreTaken Rest Takes old found new → EachRests old → EachRests new
  taken_rests keeps others old new [] taken rests = others old new rests taken
  taken_rests keeps others [] new (y ∷ found) taken rests = absurd taken
  taken_rests keeps others (s ∷ old) [] (y ∷ found) taken rests = absurd taken
  taken_rests keeps others (s ∷ old) (t ∷ new) (y ∷ found) taken rests =
      All-cons (λ (u : LiveSeries X). Rests (root u.cell)) t new
      (subst (λ (u : LiveSeries X). Rests (root u.cell)) (sym taken.0.2) (keeps s.cell taken.0.0 y (All-head (λ (u : LiveSeries X). Rests (root u.cell)) s old rests) taken.0.1))
      (taken_rests keeps others old new found taken.1 (All-tail (λ (u : LiveSeries X). Rests (root u.cell)) s old rests))

  unchanged_rests : (old new : List (LiveSeries X)) → EachRests old → Unchanged old new → EachRests new
  unchanged_rests old new rests same = subst EachRests (sym same) rests

abbrev queue_root : Queued → View (QueueCall FixedOf)
queue_root q = q.root

abbrev QueuesRest : List (LiveSeries Queued) → Type 0
QueuesRest live = All (λ (s : LiveSeries Queued). Rests s.cell.root) live

maybe_rests : (old new : List (LiveSeries Queued)) → QueuesRest old → MaybeDrained old new → QueuesRest new
maybe_rests [] new rests same = subst QueuesRest (sym same) rests
maybe_rests (s ∷ old) [] rests drained = absurd drained
maybe_rests (s ∷ old) (t ∷ new) rests drained =
    All-cons (λ (u : LiveSeries Queued). Rests u.cell.root) t new
    (subst (λ (u : LiveSeries Queued). Rests u.cell.root) (sym drained.0.2) (drains_rests s.cell drained.0.0 (All-head (λ (u : LiveSeries Queued). Rests u.cell.root) s old rests) drained.0.1))
    (subst QueuesRest (sym drained.1) (All-tail (λ (u : LiveSeries Queued). Rests u.cell.root) s old rests))

pub flush_rests : (old new : Exporter) → FlushRests old new
flush_rests old new moment found marks noted w v u n to_come left flushes rest = record {
  counters = taken_rests (λ (c : CounterThing). c.root) Unchanged TakesCounter counter_rests (unchanged_rests (λ (c : CounterThing). c.root) Unchanged TakesCounter) old.series.counters new.series.counters found.counters flushes.counters rest.counters;
  gauges = taken_rests (λ (c : GaugeThing). c.root) Unchanged TakesGauge gauge_rests (unchanged_rests (λ (c : GaugeThing). c.root) Unchanged TakesGauge) old.series.gauges new.series.gauges found.gauges flushes.gauges rest.gauges;
  histograms = taken_rests queue_root MaybeDrained TakesSamples samples_rests maybe_rests old.series.histograms new.series.histograms found.histograms flushes.histograms rest.histograms;
}

-- ---- new series

first_rests : {C : Type 0} → Rests (first {C = C})
first_rests = ((refl, refl), first_settled)

pub begins_at_rest : (e : Exporter) → BeginsAtRest e
begins_at_rest e none = record {
  counters = subst (λ s. All (λ (x : LiveSeries CounterThing). Rests x.cell.root) s.counters) (sym none) (All-nil _);
  gauges = subst (λ s. All (λ (x : LiveSeries GaugeThing). Rests x.cell.root) s.gauges) (sym none) (All-nil _);
  histograms = subst (λ s. All (λ (x : LiveSeries Queued). Rests x.cell.root) s.histograms) (sym none) (All-nil _);
}

pub new_rests : (key : KeyText) (old new : Exporter) → NewSeriesRest key old new
new_rests key old new = record {
  counter = λ adds rest. rw adds.1 (record { counters = All-push (λ (s : LiveSeries CounterThing). Rests s.cell.root) old.series.counters _ rest.counters first_rests; gauges = rest.gauges; histograms = rest.histograms });
  gauge = λ adds rest. rw adds.1 (record { counters = rest.counters; gauges = All-push (λ (s : LiveSeries GaugeThing). Rests s.cell.root) old.series.gauges _ rest.gauges first_rests; histograms = rest.histograms });
  histogram = λ adds rest. rw adds.1 (record { counters = rest.counters; gauges = rest.gauges; histograms = All-push (λ (s : LiveSeries Queued). Rests s.cell.root) old.series.histograms _ rest.histograms first_rests });
}

-- ---- as lanes see it

module _ (e : Exporter) where
  abbrev ThingRests : SeriesThing → Type 0
  ThingRests t = Rests t.root

  rests_at : AllRest e → (j : ℕ) (t : SeriesThing) → get_elem? (things_of e) j ≡ some t → ThingRests t
  rests_at rest j t at = ⊎_elim
      (λ (c : CounterHas e j t).
      let own = at_place (λ (s : LiveSeries CounterThing). Rests s.cell.root) e.series.counters j c.0 rest.counters c.1 in
      subst ThingRests c.2 (own.0, settled-mapped entry.Counter c.0.cell.root own.1))
      (λ (others : GaugeHas e j t ⊎ HistogramHas e j t). ⊎_elim
      (λ (g : GaugeHas e j t).
      let own = at_place (λ (s : LiveSeries GaugeThing). Rests s.cell.root) e.series.gauges g.0 g.2.0 rest.gauges g.2.1 in
      subst ThingRests g.2.2 (own.0, settled-mapped entry.Gauge g.2.0.cell.root own.1))
      (λ (h : HistogramHas e j t).
      let own = at_place (λ (s : LiveSeries Queued). Rests s.cell.root) e.series.histograms h.0 h.2.0 rest.histograms h.2.1 in
      subst ThingRests h.2.2 (own.0, settled-mapped entry.Histogram h.2.0.cell.root own.1))
      others)
      (of_one_kind e j t at)

  rest_of_things : Roots root_of (things_of e) → AtRest root_of (things_of e) → AllRest e
  rest_of_things roots rest = record {
    counters =
        from_places (λ (s : LiveSeries CounterThing). Rests s.cell.root) e.series.counters
        (λ i s at. let here = (counter_has e i s at).0 in ((roots i (counter_thing s) here, (rest i (counter_thing s) here).0), settled-back entry.Counter one_counter s.cell.root (rest i (counter_thing s) here).1));
    gauges =
        from_places (λ (s : LiveSeries GaugeThing). Rests s.cell.root) e.series.gauges
        (λ i s at. let here = (gauge_has e i s at).0 in ((roots _ (gauge_thing s) here, (rest _ (gauge_thing s) here).0), settled-back entry.Gauge one_gauge s.cell.root (rest _ (gauge_thing s) here).1));
    histograms =
        from_places (λ (s : LiveSeries Queued). Rests s.cell.root) e.series.histograms
        (λ i s at. let here = (histogram_has e i s at).0 in ((roots _ (histogram_thing s) here, (rest _ (histogram_thing s) here).0), settled-back entry.Histogram one_queue s.cell.root (rest _ (histogram_thing s) here).1));
  }

  pub rests_for_lanes : RestsForLanes e
  rests_for_lanes = record {
    begins = λ rest. ((λ j t at. (rests_at rest j t at).0.0), (λ j t at. ((rests_at rest j t at).0.1, (rests_at rest j t at).1)));
    ends = rest_of_things;
    home = λ rest. record {
      counters = All-weaker (λ (s : LiveSeries CounterThing). Rests s.cell.root) (λ s. IsHome s.cell.root) (λ s rests. rests.0) e.series.counters rest.counters;
      gauges = All-weaker (λ (s : LiveSeries GaugeThing). Rests s.cell.root) (λ s. IsHome s.cell.root) (λ s rests. rests.0) e.series.gauges rest.gauges;
      histograms = All-weaker (λ (s : LiveSeries Queued). Rests s.cell.root) (λ s. IsHome s.cell.root) (λ s rests. rests.0) e.series.histograms rest.histograms;
    };
  }
