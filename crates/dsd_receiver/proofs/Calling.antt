-- Calls on a series, one after another, are calls on it all at once.
use Rattle.std.proofs.Common.{◌≡◌, ℕ, Bool, true, false, cond, List, [], ◌∷◌, ◌++◌, map, Some, None, refl, sym, ap, subst, ◌∙◌, append_assoc, append-nil, arith}
use Rattle.std.specs.Prelude.{◌==◌, ◌&&◌, find, option_map}
use Rattle.std.proofs.lemmas.Bool.{eqb-true, ne_eqb}
use Rattle.std.proofs.lemmas.Option.{same_Some}
use Rattle.metrics_core.specs.declared.kinds.MetricKind.{MetricKind}
use Rattle.metrics_core.specs.declared.kinds.MetricKind.TheVariants as kinds
use Rattle.metrics_core.specs.declared.kinds.SeriesId.{SeriesId}
use Rattle.metrics_core.specs.Kinds.{kind_eq}
use Rattle.metrics_core.proofs.KindTests.{kind_eq-refl}
use Rattle.metrics_core.specs.Calls.{Call}
use Rattle.metrics_registry.specs.Live.{LiveSeries, AreOf, IsBelowAll, Rises, cell_of, has_id, set_cell, with_cell}
use Rattle.prom_exporter.specs.State.{PrometheusState, Series, call_on, live, with_call, with_live}
use Rattle.prom_exporter.specs.Values.{SeenCell, series_of}
use Rattle.dsd_receiver.specs.Received.{after_calls}

-- a series with calls more, where it has the number
abbrev pub with_more : ℕ → List Call → Series → Series
with_more number calls series = cond (series.number == number) (record series { calls = series.calls ++ calls }) series

more_none : (number : ℕ) (s : Series) → with_more number [] s ≡ s
more_none number s = elim (s.number == number) as (λ b. cond b (record s { calls = s.calls ++ [] }) s ≡ s) [
  | true ↦ ap (λ calls. record s { calls = calls }) (append-nil s.calls)
  | false ↦ refl
]

abbrev with_one : Call → Series → Series
with_one call s = record s { calls = s.calls ++ call ∷ [] }

more_next : (number : ℕ) (call : Call) (calls : List Call) (s : Series) → with_more number calls (with_call number call s) ≡ with_more number (call ∷ calls) s
more_next number call calls s = by (s.number == number) refl
  where
    by : (b : Bool) → (s.number == number) ≡ b → with_more number calls (with_call number call s) ≡ with_more number (call ∷ calls) s
    by true is =
        ap (with_more number calls) (ap (λ b. cond b (with_one call s) s) is)
        ∙ ap (λ b. cond b (record s { calls = (s.calls ++ call ∷ []) ++ calls }) (with_one call s)) is
        ∙ ap (λ l. record s { calls = l }) (append_assoc s.calls (call ∷ []) calls)
        ∙ sym (ap (λ b. cond b (record s { calls = s.calls ++ call ∷ calls }) s) is)
    by false is =
        ap (with_more number calls) (ap (λ b. cond b (with_one call s) s) is)
        ∙ ap (λ b. cond b (record s { calls = s.calls ++ calls }) s) is
        ∙ sym (ap (λ b. cond b (record s { calls = s.calls ++ call ∷ calls }) s) is)

all_none : (number : ℕ) (es : List Series) → map (with_more number []) es ≡ es
all_none number [] = refl
all_none number (e ∷ es) = (λ i. more_none number e i ∷ all_none number es i)

all_next : (number : ℕ) (call : Call) (calls : List Call) (es : List Series) → map (with_more number calls) (map (with_call number call) es) ≡ map (with_more number (call ∷ calls)) es
all_next number call calls [] = refl
all_next number call calls (e ∷ es) = (λ i. more_next number call calls e i ∷ all_next number call calls es i)

pub after_more : (kind : MetricKind) (number : ℕ) (calls : List Call) (s : PrometheusState) → after_calls kind number calls s ≡ with_live kind (map (with_more number calls) (live kind s)) s
after_more kinds.Counter number [] s = sym (ap (λ l. record s { counters = l }) (all_none number s.counters))
after_more kinds.Gauge number [] s = sym (ap (λ l. record s { gauges = l }) (all_none number s.gauges))
after_more kinds.Histogram number [] s = sym (ap (λ l. record s { histograms = l }) (all_none number s.histograms))
after_more kinds.Counter number (call ∷ calls) s = after_more kinds.Counter number calls (call_on kinds.Counter number call s) ∙ ap (λ l. record s { counters = l }) (all_next number call calls s.counters)
after_more kinds.Gauge number (call ∷ calls) s = after_more kinds.Gauge number calls (call_on kinds.Gauge number call s) ∙ ap (λ l. record s { gauges = l }) (all_next number call calls s.gauges)
after_more kinds.Histogram number (call ∷ calls) s = after_more kinds.Histogram number calls (call_on kinds.Histogram number call s) ∙ ap (λ l. record s { histograms = l }) (all_next number call calls s.histograms)

-- ---- a cell that has made them

module _ {X : Type 0} (seen : X → SeenCell) where
  abbrev pub shown : LiveSeries X → Series
  shown series = series_of (record { id = series.id; key = series.key; cell = seen series.cell })

  module _ (id : SeriesId) (calls : List Call) where
    same_test : (e : LiveSeries X) → e.id.kind ≡ id.kind → has_id id e ≡ (e.id.number == id.number)
    same_test e kind = ap (λ k. kind_eq k id.kind && (e.id.number == id.number)) kind ∙ ap (λ b. b && (e.id.number == id.number)) (kind_eq-refl id.kind)

    -- a series that isn't it stays
    other_stays : (e : LiveSeries X) (cell : X) → (e.id.number == id.number) ≡ false → e.id.kind ≡ id.kind → shown (set_cell id cell e) ≡ with_more id.number calls (shown e)
    other_stays e cell other kind =
        ap (λ b. shown (cond b (record e { cell = cell }) e)) (same_test e kind ∙ other)
        ∙ sym (ap (λ b. cond b (record (shown e) { calls = (shown e).calls ++ calls }) (shown e)) other)

    above_stay : (cell : X) (es : List (LiveSeries X)) (n : ℕ) → AreOf id.kind n es → IsBelowAll id.number es → map shown (with_cell id es cell) ≡ map (with_more id.number calls) (map shown es)
    above_stay cell [] n are below = refl
    above_stay cell (e ∷ es) n are below =
        let other : (e.id.number == id.number) ≡ false = ne_eqb e.id.number id.number (λ same. absurd (omega (arith, same, below.0))) in
        (λ j. other_stays e cell other are.0 j ∷ above_stay cell es n are.2 below.1 j)

    -- the series with the id has made the calls
    pub called : (es : List (LiveSeries X)) (n : ℕ) (before after : X) → Rises es → AreOf id.kind n es → cell_of id es ≡ Some before
        → (seen after).calls ≡ (seen before).calls ++ calls → (seen after).note ≡ (seen before).note
        → map shown (with_cell id es after) ≡ map (with_more id.number calls) (map shown es)
    called [] n before after rises are found grew note = refl
    called (e ∷ es) n before after rises are found grew note = by (e.id.number == id.number) refl (λ later. called es n before after rises.1 are.2 later grew note)
      where
        by : (b : Bool) → (e.id.number == id.number) ≡ b → (cell_of id es ≡ Some before → map shown (with_cell id es after) ≡ map (with_more id.number calls) (map shown es))
            → map shown (with_cell id (e ∷ es) after) ≡ map (with_more id.number calls) (map shown (e ∷ es))
        by true is rest =
            let has : has_id id e ≡ true = same_test e are.0 ∙ is in
            let here : e.cell ≡ before = same_Some e.cell before (sym (ap (λ b. option_map (λ (s : LiveSeries X). s.cell) (cond b (Some e) (find (has_id id) es))) has) ∙ found) in
            let number : e.id.number ≡ id.number = eqb-true e.id.number id.number is in
            let grown : (seen after).calls ≡ (seen e.cell).calls ++ calls = grew ∙ ap (λ x. (seen x).calls ++ calls) (sym here) in
            let noted : (seen after).note ≡ (seen e.cell).note = note ∙ ap (λ x. (seen x).note) (sym here) in
            let own : shown (set_cell id after e) ≡ with_more id.number calls (shown e) =
            ap (λ b. shown (cond b (record e { cell = after }) e)) has
            ∙ (λ j. record { number = e.id.number; key = e.key; calls = grown j; note = noted j })
            ∙ sym (ap (λ b. cond b (record (shown e) { calls = (shown e).calls ++ calls }) (shown e)) is)
            in
            (λ j. own j ∷ above_stay after es n are.2 (subst (λ m. IsBelowAll m es) number rises.0) j)
        by false is rest =
            let has : has_id id e ≡ false = same_test e are.0 ∙ is in
            let later : cell_of id es ≡ Some before = sym (ap (λ b. option_map (λ (s : LiveSeries X). s.cell) (cond b (Some e) (find (has_id id) es))) has) ∙ found in
            (λ j. other_stays e after is are.0 j ∷ rest later j)

    -- where no series has the id nothing changes
    pub called_none : (es : List (LiveSeries X)) (n : ℕ) → AreOf id.kind n es → cell_of id es ≡ None → map shown es ≡ map (with_more id.number calls) (map shown es)
    called_none [] n are none = refl
    called_none (e ∷ es) n are none = by (e.id.number == id.number) refl (λ later. called_none es n are.2 later)
      where
        by : (b : Bool) → (e.id.number == id.number) ≡ b → (cell_of id es ≡ None → map shown es ≡ map (with_more id.number calls) (map shown es)) → map shown (e ∷ es) ≡ map (with_more id.number calls) (map shown (e ∷ es))
        by true is rest =
            let has : has_id id e ≡ true = same_test e are.0 ∙ is in
            let some : Some e.cell ≡ None = sym (ap (λ b. option_map (λ (s : LiveSeries X). s.cell) (cond b (Some e) (find (has_id id) es))) has) ∙ none in
            absurd cc
        by false is rest =
            let has : has_id id e ≡ false = same_test e are.0 ∙ is in
            let later : cell_of id es ≡ None = sym (ap (λ b. option_map (λ (s : LiveSeries X). s.cell) (cond b (Some e) (find (has_id id) es))) has) ∙ none in
            let own : shown e ≡ with_more id.number calls (shown e) = sym (ap (λ b. cond b (record (shown e) { calls = (shown e).calls ++ calls }) (shown e)) is) in
            (λ j. own j ∷ rest later j)
