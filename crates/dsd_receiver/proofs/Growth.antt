-- What a series has grown by where one pass was lent, made calls, and was given back.
use Rattle.std.proofs.Common.{◌≡◌, ℕ, zero, suc, List, [], ◌∷◌, ◌++◌, length, map, Option, refl, sym, ap, ◌∙◌, append_assoc, append-nil, eq-eqb, ne_eqb, arith}
use Rattle.std.specs.Prelude.{◌==◌, drop}
use mathlib.Core.List.{IsPrefix}
use Rattle.std.proofs.lemmas.List.{map-append}
use Rattle.legal_history.specs.declared.history.Entry.{Entry}
use Rattle.legal_history.specs.declared.history.Held.{Held}
use Rattle.legal_history.specs.declared.history.View.{View}
use Rattle.legal_history.specs.History.{calls, held, lender, longer, taker, Settled}
use Rattle.legal_history.specs.Order.{flag, first_of, rest_of, rest_if, taken, without_first, IsOrder, GrewInOrder}
use Rattle.legal_history.specs.News.{calls_if, lane_calls}
use Rattle.legal_history.proofs.Rounds.{grew}
use Rattle.legal_history.proofs.Steps.{empty_list}
use Rattle.metrics_core.specs.Series.{call_of}
use Rattle.metrics_core.specs.declared.calls.SeriesCall.{SeriesCall}
use Rattle.series_cells.specs.Values.{calls_of}
use Rattle.sample_queue.specs.declared.calls.QueueCall.TheVariants.{Push, Pop}
use Rattle.sample_queue.specs.Queues.{Calls, Entries, popped}
use Rattle.histogram_series.specs.Entries.{TimedCall, TimedEntry, entries_known, held_after, queued, records_of}
use Rattle.histogram_series.specs.Series.{with_one_back, with_one_out}
use Rattle.prom_exporter.specs.Shared.{Shared, IsHome, TakesBack, calls_seen, with_lent}
use Rattle.prom_exporter.specs.Sampled.{Sampled, IsAtRest, calls_known}

module _ {C : Type 0} where
  -- where one lane alone makes calls, they stand in its order
  taken_first : (order : List ℕ) (lists : ℕ → List C) → ((l : ℕ) → lists (suc l) ≡ []) → IsOrder order lists → taken order lists ≡ lists 0
  taken_first [] lists none is = sym (empty_list (lists 0) (sym (is 0)))
  taken_first (zero ∷ ls) lists none is = by (lists 0) refl (λ own. taken_first ls (without_first 0 lists) (λ l. later_stays l ∙ none l) own)
    where
      later_stays : (l : ℕ) → without_first 0 lists (suc l) ≡ lists (suc l)
      later_stays l = ap (λ b. rest_if b (lists (suc l))) (ne_eqb (suc l) 0 (λ e. absurd (omega (arith, e))))

      by : (own : List C) → lists 0 ≡ own → (IsOrder ls (without_first 0 lists) → taken ls (without_first 0 lists) ≡ rest_of (lists 0)) → taken (zero ∷ ls) lists ≡ lists 0
      by [] e rest = let one = is 0 in let n = ap length e in absurd (omega (arith, one, n))
      by (c ∷ cs) e rest = ap (λ l. first_of (lists 0) ++ l) (rest others) ∙ ap (λ l. first_of l ++ rest_of l) e ∙ sym e
        where
          others : IsOrder ls (without_first 0 lists)
          others zero = let one = is 0 in let n = ap length e in let m = ap (λ l. length (rest_of l)) e in omega (arith, one, n, m)
          others (suc l) =
              (let one = is (suc l) in
              let far = ap flag (ne_eqb 0 (suc l) (λ e. absurd (omega (arith, e)))) in
              let n = ap length (later_stays l) in
              omega (arith, one, far, n))
  taken_first (suc k ∷ ls) lists none is =
      let one = is (suc k) in
      let here : flag (suc k == suc k) ≡ 1 = ap flag (eq-eqb (suc k) (suc k) refl) in
      let n = ap length (none k) in
      absurd (omega (arith, one, here, n))

  begins_longer : (xs ys : List (Entry C)) → IsPrefix xs (longer xs ys)
  begins_longer xs [] = ([], append-nil xs)
  begins_longer [] (y ∷ ys) = (y ∷ ys, refl)
  begins_longer (x ∷ xs) (y ∷ ys) = let more = begins_longer xs ys in (more.0, ap (λ l. x ∷ l) more.1)

  -- a root that knew all took one pass back, and knows all: the history grew by what that pass had made
  pub grew_by : (v known : View C) → Settled v → Settled (taker (lender v) known) → calls (taker (lender v) known).seen ≡ calls v.seen ++ known.mine
  grew_by v known before after =
      let news : List (ℕ × Held C) = (0, held known.number known.mine known.seen) ∷ [] in
      let in_order : GrewInOrder (lane_calls news) v.seen (taker (lender v) known).seen =
      grew v (taker (lender v) known) news before after
      (record { grows = begins_longer v.seen known.seen; mine = refl; joined = refl; apart = ((λ none. none), tt) })
      (lane_calls news) (λ l. refl)
      in
      in_order.2 ∙ ap (λ cs. calls v.seen ++ cs) (taken_first in_order.0 (lane_calls news) (λ l. ap (λ b. calls_if b known.mine []) (ne_eqb 0 (suc l) (λ e. absurd (omega (arith, e))))) in_order.1)

-- ---- counters and gauges

-- the pass that was lent came back with these calls
module _ {F : Type 0} (s t : Shared (Option F)) (cell : F) (known : View SeriesCall) (home : IsHome s) (settled : Settled s.root) (takes : TakesBack known (with_lent cell s) t) where
  abbrev back : View SeriesCall
  back = taker (lender s.root) known

  out_again : back.out ≡ 0
  out_again = let none = home.1 in omega (arith, none)

  whole : (takes.0 ≡ back.seen) × Settled back
  whole = takes.1.whole home.0 out_again

  pub value_grew : (made : List SeriesCall) → known.mine ≡ made → calls_seen t ≡ calls_seen s ++ calls_of made
  value_grew made is =
      ap (λ (x : Shared (Option F)). calls_seen x) takes.2 ∙ ap (λ log. calls_of (calls log)) whole.0
      ∙ ap calls_of (grew_by s.root known settled whole.1 ∙ ap (λ cs. calls s.root.seen ++ cs) is)
      ∙ map-append call_of (calls s.root.seen) made

  pub value_home : IsHome t
  value_home = (ap (λ (x : Shared (Option F)). x.root.number) takes.2 ∙ home.0, ap (λ (x : Shared (Option F)). x.root.out) takes.2 ∙ out_again)

  pub value_note : t.note ≡ s.note
  value_note = ap (λ (x : Shared (Option F)). x.note) takes.2

-- ---- histograms

module _ {T : Type 0} where
  held_pushes : (es : Entries T) (fs : Entries T) → held_after es (map Push fs) ≡ es ++ fs
  held_pushes es [] = sym (append-nil es)
  held_pushes es (f ∷ fs) = held_pushes (es ++ f ∷ []) fs ∙ append_assoc es (f ∷ []) fs

  held_more : (es : Entries T) (cs : Calls T) (fs : Entries T) → held_after es (cs ++ map Push fs) ≡ held_after es cs ++ fs
  held_more es [] fs = held_pushes es fs
  held_more es (Push e ∷ cs) fs = held_more (es ++ e ∷ []) cs fs
  held_more es (Pop e ∷ cs) fs = held_more (drop 1 es) cs fs

module _ (s : Sampled) (known : View TimedCall) where
  abbrev pub given_back : Sampled
  given_back = record s { series = with_one_back known (with_one_out s.series) }

  pub sampled_home : IsAtRest s → IsAtRest given_back
  sampled_home home = (home.0, (let none = home.1 in omega (arith, none)))

  pub sampled_grew : Settled s.series.root → Settled given_back.series.root → (pushed : List TimedEntry) → known.mine ≡ map Push pushed
      → calls_known given_back ≡ calls_known s ++ records_of pushed
  sampled_grew before after pushed is =
      let seen : calls given_back.series.root.seen ≡ calls s.series.root.seen ++ map Push pushed = grew_by s.series.root known before after ∙ ap (λ cs. calls s.series.root.seen ++ cs) is in
      let waits : queued given_back.series.root ≡ queued s.series.root ++ pushed = ap (held_after []) seen ∙ held_more [] (calls s.series.root.seen) pushed in
      ap records_of (ap (λ es. popped s.series.root.mine ++ es) waits ∙ sym (append_assoc (popped s.series.root.mine) (queued s.series.root) pushed))
      ∙ map-append _ (entries_known s.series.root) pushed
