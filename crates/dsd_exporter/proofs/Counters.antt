-- Counters that are flushed, one after the other.
use Rattle.std.proofs.Common.{◌≡◌, ℕ, ◌<◌, ◌^◌, Bool, true, false, true≢false, ◌&&◌, cond, List, [], ◌∷◌, ◌++◌, length, refl, sym, ap, subst, ◌∙◌, Option, Some, None, is_some, IfSome, inl}
use Rattle.std.specs.Prelude.{◌==◌, nat_lt, decimal, option_map, slice_get}
use Rattle.metrics_core.specs.Keys.{KeyText, LabelText}
use Rattle.metrics_core.specs.declared.kinds.MetricKind.TheVariants as kinds
use Rattle.metrics_registry.specs.Live.{LiveSeries}
use Rattle.metrics_registry.specs.Places.{with_cell_at}
use Rattle.legal_history.specs.History.{after}
use Rattle.flushed_cells.specs.declared.counter_state.CounterState.{CounterState}
use Rattle.flushed_cells.specs.declared.counter_calls.CounterCall.TheVariants as counter
use Rattle.flushed_cells.specs.Counters.{CounterStep, counter_start, counter_flush}
use Rattle.flushed_cells.specs.Series.{Flushes}
use Rattle.dsd_writer.specs.Lines.{lines_of}
use Rattle.dsd_writer.specs.Results.{Written}
use Rattle.dsd_writer.specs.Writers.{WriterText, SameSettings, HasRoomFor}
use Rattle.dsd_exporter.specs.State.{DogStatsDSettings, is_quiet, idle_at, counter_item, counter_items, items_of_counters}
use Rattle.dsd_exporter.specs.Updates.{UpdateText}
use Rattle.dsd_exporter.specs.Exporter.{Exporter, CounterThing}
use Rattle.dsd_exporter.specs.Flushing.{TakesCounter, ChangesAt, HasKeyAt, with_found, with_mark, with_series, WritesOne, Sends, counter_line, FlushesCounter, CountersFlushed}
use Rattle.dsd_exporter.specs.Waiting.{NothingWaits}
use Rattle.dsd_exporter.proofs.Waiting.{flushed_counter}
use Rattle.dsd_exporter.proofs.Marks.{idle-behind, mark-next, mark-stays}
use Rattle.dsd_exporter.proofs.Sent.{sends_nothing, sends_then, sends_behind, counter_sent}
use Rattle.dsd_exporter.proofs.Taken.{key-there, key-same, next-taken, key-next, counters-next}

-- a flush answers what the counter held
pub counter_taken : (s t : CounterThing) (answer : ℕ × ℕ) → Flushes CounterStep counter_start counter_flush s.root answer t.root → t.fixed ≡ s.fixed
    → (x : CounterState) × (answer ≡ (x.delta, x.updates)) × TakesCounter s x t
counter_taken s t answer m same =
    let x = m.1 in
    let is : answer ≡ (x.delta, x.updates) = λ j. (m.5.0 j, m.5.1 j) in
    let root = m.6 ∙ ap (λ (a : ℕ × ℕ). after s.root m.0 (counter.Flush a.0 a.1 ∷ [])) is in
    (x, is, inl (m.0, m.3, m.4, λ j. record { root = root j; fixed = same j }))

module _ (settings : DogStatsDSettings) (moment place : ℕ) (old new : List (LiveSeries CounterThing)) (marks noted : List Bool) (w v : WriterText) (u : UpdateText)
    (found : CounterState) (answer : ℕ × ℕ) (is : answer ≡ (found.delta, found.updates)) (takes : ChangesAt place (λ c d. TakesCounter c found d) old new)
    (marked : noted ≡ with_mark place (answer.1 == 0) marks) (same : SameSettings w v) (lines : v.lines ≡ w.lines) where
  quiet : (answer.1 == 0) ≡ is_quiet found
  quiet = ap (λ (a : ℕ × ℕ). a.1 == 0) is

  here : (key : KeyText) × HasKeyAt place key old
  here = key-there old place takes.0 takes.2

  -- one that is idle and without updates is not sent
  pub flushed_idle : ((answer.1 == 0) && idle_at marks place) ≡ true → FlushesCounter settings moment place old new marks noted w v u u
  flushed_idle skipped = record {
    found = found;
    key = here.0;
    at = here.1;
    takes = takes;
    marked = marked ∙ ap (λ b. with_mark place b marks) quiet;
    sends =
        (let none : counter_items settings w.global_tags moment (idle_at marks place) here.0 found ≡ [] =
        ap (λ b. cond b [] (counter_item settings w.global_tags moment here.0 found ∷ [])) (ap (λ b. b && idle_at marks place) (sym quiet) ∙ skipped) in
        subst (λ items. Sends items w v u u) (sym none) (sends_nothing w v u u same lines refl));
  }

  -- any other is sent
  pub flushed_sent : ((answer.1 == 0) && idle_at marks place) ≡ false → (x : WriterText) (n : UpdateText) (written : Written) (kept : DogStatsDSettings) → kept ≡ settings
      → (key : KeyText) × HasKeyAt place key new × WritesOne (counter_line kept v.global_tags moment key) (decimal answer.0) written v x
      → n ≡ with_series kinds.Counter (cond (nat_lt 0 written.left_out) 0 answer.1) written.left_out u → FlushesCounter settings moment place old new marks noted w x u n
  flushed_sent told x n written kept keeps writes counted = record {
    found = found;
    key = writes.0;
    at = sym (key-same old place place takes.1) ∙ ap (λ l. option_map (λ (s : LiveSeries CounterThing). s.key) (slice_get l place)) (sym takes.4) ∙ writes.1;
    takes = takes;
    marked = marked ∙ ap (λ b. with_mark place b marks) quiet;
    sends =
        (let one : counter_items settings w.global_tags moment (idle_at marks place) writes.0 found ≡ counter_item settings w.global_tags moment writes.0 found ∷ [] =
        ap (λ b. cond b [] (counter_item settings w.global_tags moment writes.0 found ∷ [])) (ap (λ b. b && idle_at marks place) (sym quiet) ∙ told) in
        let wrote = subst (λ (a : ℕ × ℕ). WritesOne (counter_line settings v.global_tags moment writes.0) (decimal a.0) written v x) is (subst (λ s. WritesOne (counter_line s v.global_tags moment writes.0) (decimal answer.0) written v x) keeps writes.2) in
        let counts = subst (λ (a : ℕ × ℕ). n ≡ with_series kinds.Counter (cond (nat_lt 0 written.left_out) 0 a.1) written.left_out u) is counted in
        let sent = sends_behind (counter_item settings v.global_tags moment writes.0 found ∷ []) w v x u n same lines (counter_sent settings moment writes.0 v x written u n found wrote counts) in
        subst (λ items. Sends items w x u n) (sym one) (subst (λ tags. Sends (counter_item settings tags moment writes.0 found ∷ []) w x u n) same.same_tags sent));
  }

-- nothing waits behind what was read of a still counter
pub nothing_waits : (s t : CounterThing) (read : Option (ℕ × ℕ)) → is_some read ≡ true → IfSome read (λ answer. Flushes CounterStep counter_start counter_flush s.root answer t.root) → NothingWaits t.root
nothing_waits s t None is reads = absurd (true≢false (sym is))
nothing_waits s t (Some answer) is reads = flushed_counter s.root t.root answer reads

-- one that is idle and in which nothing waits is passed over
pub passed_over : (settings : DogStatsDSettings) (moment place : ℕ) (old new : List (LiveSeries CounterThing)) (marks : List Bool) (w : WriterText) (u : UpdateText) (found : CounterState) → found.delta ≡ 0 → found.updates ≡ 0
    → ChangesAt place (λ c d. TakesCounter c found d) old new → idle_at marks place ≡ true → FlushesCounter settings moment place old new marks marks w w u u
passed_over settings moment place old new marks w u found delta updates takes idle =
    flushed_idle settings moment place old new marks marks w w u found (0, 0) (λ j. (sym delta j, sym updates j)) takes (mark-stays marks place idle) (record { same_limit = refl; same_start = refl; same_tags = refl }) refl idle

-- the room that was made for the line is there when the counter was taken
pub counter_room : (moment place : ℕ) (old mid : Exporter) (w v : WriterText) (d : CounterThing) → mid.series.counters ≡ with_cell_at old.series.counters place d
    → mid ≡ record old { series = record old.series { counters = mid.series.counters } } → SameSettings w v
    → ((key : KeyText) → HasKeyAt place key old.series.counters → (value : ℕ) → value < 2 ^ 64 → HasRoomFor v (lines_of w.limit (counter_line old.settings w.global_tags moment key) (decimal value ∷ [])))
    → (key : KeyText) → HasKeyAt place key mid.series.counters → (value : ℕ) → value < 2 ^ 64 → HasRoomFor v (lines_of v.limit (counter_line mid.settings v.global_tags moment key) (decimal value ∷ []))
counter_room moment place old mid w v d is others same room key at value fits =
    let there : HasKeyAt place key old.series.counters =
    sym (key-same old.series.counters place place d) ∙ ap (λ l. option_map (λ (s : LiveSeries CounterThing). s.key) (slice_get l place)) (sym is) ∙ at in
    let settings : mid.settings ≡ old.settings = ap (λ (e : Exporter). e.settings) others in
    subst (λ (x : ℕ × (DogStatsDSettings × List LabelText)). HasRoomFor v (lines_of x.0 (counter_line x.1.0 x.1.1 moment key) (decimal value ∷ [])))
    (λ j. (sym same.same_limit j, (sym settings j, sym same.same_tags j))) (room key there value fits)

-- none is flushed
pub counters_none : (settings : DogStatsDSettings) (moment : ℕ) (old : Exporter) (marks : List Bool) (w : WriterText) (u : UpdateText) → CountersFlushed settings moment [] old old marks marks w w u u
counters_none settings moment old marks w u = record {
  taken = refl;
  others = refl;
  marked = refl;
  sends = sends_nothing w w u u (record { same_limit = refl; same_start = refl; same_tags = refl }) refl refl;
}

-- one more is flushed
module _ (moment : ℕ) (found : List CounterState) (old mid new : Exporter) (marks m noted : List Bool) (w v x : WriterText) (u n r : UpdateText) where
  pub counters_more : CountersFlushed old.settings moment found old mid marks m w v u n → (place : ℕ) → length found ≡ place
      → FlushesCounter mid.settings moment place mid.series.counters new.series.counters m noted v x n r
      → new ≡ record mid { series = record mid.series { counters = new.series.counters } }
      → (y : CounterState) × CountersFlushed old.settings moment (found ++ y ∷ []) old new marks noted w x u r
  counters_more done place is flushes others =
      let settings : mid.settings ≡ old.settings = ap (λ (e : Exporter). e.settings) done.others in
      let one = subst (λ s. FlushesCounter s moment (length found) mid.series.counters new.series.counters m noted v x n r) settings
      (subst (λ p. FlushesCounter mid.settings moment p mid.series.counters new.series.counters m noted v x n r) (sym is) flushes) in
      let at = key-next TakesCounter old.series.counters mid.series.counters found one.key done.taken one.at in
      let idle : idle_at m (length found) ≡ idle_at marks (length found) = ap (λ l. idle_at l (length found)) done.marked ∙ idle-behind found marks in
      let first = items_of_counters old.settings w.global_tags moment marks (with_found old.series.counters found) in
      let then = counter_items old.settings w.global_tags moment (idle_at marks (length found)) one.key one.found in
      let sends : Sends then v x n r =
      subst (λ b. Sends (counter_items old.settings w.global_tags moment b one.key one.found) v x n r) idle
      (subst (λ tags. Sends (counter_items old.settings tags moment (idle_at m (length found)) one.key one.found) v x n r) done.sends.settings.same_tags one.sends) in (
        one.found,
        record {
          taken = next-taken TakesCounter old.series.counters mid.series.counters found one.found new.series.counters done.taken one.takes;
          others = others ∙ ap (λ (e : Exporter). record e { series = record e.series { counters = new.series.counters } }) done.others;
          marked = one.marked ∙ ap (with_mark (length found) (is_quiet one.found)) done.marked ∙ mark-next found one.found marks;
          sends =
              subst (λ items. Sends items w x u r) (sym (counters-next old.settings w.global_tags moment old.series.counters found marks one.key one.found at))
              (sends_then first then w v x u n r done.sends sends);
        },
      )
