-- Histograms that are flushed, one after the other.
use Rattle.std.proofs.Common.{◌≡◌, ℕ, zero, suc, ◌+◌, List, [], ◌∷◌, ◌++◌, length, drop, drop-drop, length-append, append_assoc, arith, Option, Some, refl, sym, ap, subst, ◌∙◌}
use Rattle.std.specs.Prelude.{option_map, slice_get}
use Rattle.std.proofs.lemmas.Option.{same_Some}
use Rattle.std.proofs.lemmas.List.{append-nil, drop_at}
use Rattle.metrics_core.specs.declared.numbers.Fixed.{Fixed as FixedOf}
use Rattle.metrics_core.specs.Keys.{KeyText, LabelText}
use Rattle.metrics_core.specs.Words.{Draws}
use Rattle.metrics_registry.specs.Live.{LiveSeries}
use Rattle.metrics_registry.specs.Places.{with_cell_at}
use Rattle.sample_queue.specs.Queues.{FoundEmpty}
use Rattle.sample_queue.proofs.TakenAll.{taken_all}
use Rattle.dsd_writer.specs.Writers.{WriterText}
use Rattle.dsd_exporter.specs.State.{DogStatsDSettings, words_for, histogram_items, items_of_histograms}
use Rattle.dsd_exporter.specs.Updates.{UpdateText}
use Rattle.dsd_exporter.specs.Exporter.{Exporter, Queued}
use Rattle.dsd_exporter.specs.Samples.{samples_in}
use Rattle.dsd_exporter.specs.Flushing.{AreTaken, Unchanged, MaybeDrained, TakesSamples, Sends, with_found, words_for_all, HistogramsFlushed, ChangesAt, HasKeyAt, Drains, DrawsFor, SendsSamples, SendsTaken, FlushesHistogram}
use Rattle.dsd_exporter.proofs.Taken.{key-same, key-next, next-taken}
use Rattle.dsd_exporter.proofs.Sent.{sends_nothing, sends_then}
use Rattle.dsd_exporter.proofs.Draining.{drains_same}

module _ {X : Type 0} where
  cell-with : (live : List (LiveSeries X)) (n : ℕ) (c d : X) → option_map (λ (s : LiveSeries X). s.cell) (slice_get live n) ≡ Some c → option_map (λ (s : LiveSeries X). s.cell) (slice_get (with_cell_at live n d) n) ≡ Some d
  cell-with [] n c d at = absurd cc
  cell-with (s ∷ live) zero c d at = refl
  cell-with (s ∷ live) (suc n) c d at = cell-with live n c d at

  with-twice : (live : List (LiveSeries X)) (n : ℕ) (c d : X) → with_cell_at (with_cell_at live n c) n d ≡ with_cell_at live n d
  with-twice [] n c d = refl
  with-twice (s ∷ live) zero c d = refl
  with-twice (s ∷ live) (suc n) c d = ap (λ l. s ∷ l) (with-twice live n c d)

-- drained, sent and cleared it is flushed
pub histogram_flushed : (settings kept : DogStatsDSettings) → kept ≡ settings → (place : ℕ) (old mid new : List (LiveSeries Queued)) (w v : WriterText) (u n : UpdateText) (to_come left : Option (ℕ → ℕ))
    → ChangesAt place (λ c d. Drains c d × FoundEmpty d.root) old mid → SendsTaken kept place mid w v u n to_come left → ChangesAt place (λ c d. d ≡ record c { taken = [] }) mid new
    → FlushesHistogram settings place old new w v u n to_come left
histogram_flushed settings kept keeps place old mid new w v u n to_come left drains sends clears =
    let there : option_map (λ (s : LiveSeries Queued). s.cell) (slice_get mid place) ≡ Some drains.1 =
    ap (λ l. option_map (λ (s : LiveSeries Queued). s.cell) (slice_get l place)) drains.4 ∙ cell-with old place drains.0 drains.1 drains.2 in
    let sent : sends.cell ≡ drains.1 = same_Some sends.cell drains.1 (sym sends.here ∙ there) in
    let cleared : clears.0 ≡ drains.1 = same_Some clears.0 drains.1 (sym clears.2 ∙ there) in
    record {
      found = samples_in sends.cell.taken;
      words = sends.words;
      key = sends.key;
      at = sym (key-same old place place drains.1) ∙ ap (λ l. option_map (λ (s : LiveSeries Queued). s.key) (slice_get l place)) (sym drains.4) ∙ sends.at;
      takes = (
        drains.0,
        clears.1,
        drains.2,
        record {
          drained = drains.1;
          drains = drains.3.0;
          empty = drains.3.1;
          all = taken_all drains.1.root drains.3.1;
          samples = ap (λ (h : Queued). samples_in h.taken) sent;
          taken = clears.3 ∙ ap (λ (h : Queued). record h { taken = [] }) cleared;
        },
        clears.4 ∙ ap (λ l. with_cell_at l place clears.1) drains.4 ∙ with-twice old place drains.1 clears.1,
      );
      draws = subst (λ s. DrawsFor s (samples_in sends.cell.taken) sends.words to_come left) keeps sends.draws;
      sends = subst (λ s. SendsSamples s sends.key (samples_in sends.cell.taken) sends.words w v u n) keeps sends.sends;
    }

-- ---- one after the other

draws_then : (a b c : Option (ℕ → ℕ)) (xs ys : List ℕ) → Draws a xs b → Draws b ys c → Draws a (xs ++ ys) c
draws_then a b c [] ys first then = subst (λ x. Draws x ys c) first then
draws_then a b c (x ∷ xs) ys first then = (first.0, first.1, draws_then first.0 b c xs ys first.2 then)

pub maybe_same : (old new : List (LiveSeries Queued)) → new ≡ old → MaybeDrained old new
maybe_same [] new same = same
maybe_same (s ∷ old) new same = subst (MaybeDrained (s ∷ old)) (sym same) ((s.cell, drains_same s.cell, refl), refl)

-- the others are as they were
maybe_taken : (old new : List (LiveSeries Queued)) (found : List (List FixedOf)) → AreTaken Unchanged TakesSamples old found new → AreTaken MaybeDrained TakesSamples old found new
maybe_taken old new [] taken = maybe_same old new taken
maybe_taken [] new (x ∷ found) taken = absurd taken
maybe_taken (s ∷ old) [] (x ∷ found) taken = absurd taken
maybe_taken (s ∷ old) (t ∷ new) (x ∷ found) taken = (taken.0, maybe_taken old new found taken.1)

-- the next one was drained
drained_next : (old mid new : List (LiveSeries Queued)) (found : List (List FixedOf)) → AreTaken Unchanged TakesSamples old found mid → ChangesAt (length found) Drains mid new → AreTaken MaybeDrained TakesSamples old found new
drained_next [] mid new [] taken changes =
    let at : option_map (λ (s : LiveSeries Queued). s.cell) (slice_get [] 0) ≡ Some changes.0 = ap (λ l. option_map (λ (s : LiveSeries Queued). s.cell) (slice_get l 0)) (sym taken) ∙ changes.2 in
    absurd cc
drained_next (s ∷ old) mid new [] taken changes =
    let at : option_map (λ (s : LiveSeries Queued). s.cell) (Some s) ≡ Some changes.0 = ap (λ l. option_map (λ (s : LiveSeries Queued). s.cell) (slice_get l 0)) (sym taken) ∙ changes.2 in
    let cell : s.cell ≡ changes.0 = same_Some s.cell changes.0 at in
    subst (MaybeDrained (s ∷ old)) (ap (λ l. with_cell_at l 0 changes.1) (sym taken) ∙ sym changes.4) ((changes.1, subst (λ c. Drains c changes.1) (sym cell) changes.3, refl), refl)
drained_next [] mid new (x ∷ found) taken changes = absurd taken
drained_next (s ∷ old) [] new (x ∷ found) taken changes = absurd taken
drained_next (s ∷ old) (t ∷ mid) new (x ∷ found) taken changes =
    subst (AreTaken MaybeDrained TakesSamples (s ∷ old) (x ∷ found)) (sym changes.4) (
      taken.0,
      drained_next old mid (with_cell_at mid (length found) changes.1) found taken.1 (changes.0, changes.1, changes.2, changes.3, refl),
    )

drop_both : (a b : ℕ) (xs : List ℕ) → drop b (drop a xs) ≡ drop (a + b) xs
drop_both a b xs = drop-drop b a xs

module _ (settings : DogStatsDSettings) where
  words_next : (old : List (LiveSeries Queued)) (found : List (List FixedOf)) (key : KeyText) (y : List FixedOf) → HasKeyAt (length found) key old
      → words_for_all settings (with_found old (found ++ y ∷ [])) ≡ words_for_all settings (with_found old found) + words_for settings [] 0 y
  words_next [] found key y at = absurd cc
  words_next (s ∷ old) [] key y at = omega arith
  words_next (s ∷ old) (x ∷ found) key y at = (let rest = words_next old found key y at in omega (arith, rest))

  items_next : (tags : List LabelText) (moment : ℕ) (words : List ℕ) (old : List (LiveSeries Queued)) (found : List (List FixedOf)) (key : KeyText) (y : List FixedOf) → HasKeyAt (length found) key old
      → items_of_histograms settings tags moment words (with_found old (found ++ y ∷ []))
      ≡ items_of_histograms settings tags moment words (with_found old found) ++ histogram_items settings tags moment key (drop (words_for_all settings (with_found old found)) words) y
  items_next tags moment words [] found key y at = absurd cc
  items_next tags moment words (s ∷ old) [] key y at = append-nil (histogram_items settings tags moment s.key words y) ∙ ap (λ k. histogram_items settings tags moment k words y) (same_Some s.key key at)
  items_next tags moment words (s ∷ old) (x ∷ found) key y at =
      let rest = drop (words_for settings tags moment x) words in
      let total = words_for_all settings (with_found old found) in
      ap (λ l. histogram_items settings tags moment s.key words x ++ l)
      (items_next tags moment rest old found key y at
      ∙ ap (λ l. items_of_histograms settings tags moment rest (with_found old found) ++ histogram_items settings tags moment key l y) (drop_both (words_for settings tags moment x) total words))
      ∙ sym (append_assoc (histogram_items settings tags moment s.key words x) (items_of_histograms settings tags moment rest (with_found old found)) (histogram_items settings tags moment key (drop (words_for settings tags moment x + total) words) y))

pub histograms_none : (settings : DogStatsDSettings) (Rest : List (LiveSeries Queued) → List (LiveSeries Queued) → Type 0) (old : Exporter) → Rest old.series.histograms old.series.histograms → (w : WriterText) (u : UpdateText) → HistogramsFlushed settings Rest [] [] old old w w u u
histograms_none settings Rest old rest w u = record {
  taken = rest;
  others = refl;
  many = refl;
  sends = λ moment more. sends_nothing w w u u (record { same_limit = refl; same_start = refl; same_tags = refl }) refl refl;
}

-- so far, and the others are as they were
pub so_far : (settings : DogStatsDSettings) (found : List (List FixedOf)) (words : List ℕ) (old new : Exporter) (w v : WriterText) (u n : UpdateText) → HistogramsFlushed settings Unchanged found words old new w v u n → HistogramsFlushed settings MaybeDrained found words old new w v u n
so_far settings found words old new w v u n done = record {
  taken = maybe_taken old.series.histograms new.series.histograms found done.taken;
  others = done.others;
  many = done.many;
  sends = done.sends;
}

module _ (found : List (List FixedOf)) (words : List ℕ) (old mid new : Exporter) (w v x : WriterText) (u n r : UpdateText) (done : HistogramsFlushed old.settings Unchanged found words old mid w v u n)
    (others : new ≡ record mid { series = record mid.series { histograms = new.series.histograms } }) (place : ℕ) (many : length found ≡ place) where
  kept_others : new ≡ record old { series = record old.series { histograms = new.series.histograms } }
  kept_others = others ∙ ap (λ (e : Exporter). record e { series = record e.series { histograms = new.series.histograms } }) done.others

  -- one more is flushed
  pub histograms_more : (to_come mid_words left : Option (ℕ → ℕ)) → Draws to_come words mid_words → FlushesHistogram mid.settings place mid.series.histograms new.series.histograms v x n r mid_words left
      → (y : List FixedOf) × (drawn : List ℕ) × HistogramsFlushed old.settings Unchanged (found ++ y ∷ []) (words ++ drawn) old new w x u r × Draws to_come (words ++ drawn) left
  histograms_more to_come mid_words left draws flushes =
      let settings : mid.settings ≡ old.settings = ap (λ (e : Exporter). e.settings) done.others in
      let one = subst (λ s. FlushesHistogram s (length found) mid.series.histograms new.series.histograms v x n r mid_words left) settings
      (subst (λ p. FlushesHistogram mid.settings p mid.series.histograms new.series.histograms v x n r mid_words left) (sym many) flushes) in
      let at = key-next TakesSamples old.series.histograms mid.series.histograms found one.key done.taken one.at in
      let live = with_found old.series.histograms found in (
        one.found,
        one.words,
        record {
          taken = next-taken TakesSamples old.series.histograms mid.series.histograms found one.found new.series.histograms done.taken one.takes;
          others = kept_others;
          many = length-append words one.words ∙ (λ j. done.many j + one.draws.many j) ∙ sym (words_next old.settings old.series.histograms found one.key one.found at);
          sends = λ moment more.
              (let all = words ++ (one.words ++ more) in
              let first = items_of_histograms old.settings w.global_tags moment all live in
              let left_words : drop (words_for_all old.settings live) all ≡ one.words ++ more = drop_at words (one.words ++ more) (words_for_all old.settings live) done.many in
              let then = histogram_items old.settings w.global_tags moment one.key (one.words ++ more) one.found in
              let sent : Sends then v x n r = subst (λ tags. Sends (histogram_items old.settings tags moment one.key (one.words ++ more) one.found) v x n r) (done.sends moment []).settings.same_tags (one.sends moment more) in
              let items : items_of_histograms old.settings w.global_tags moment all (with_found old.series.histograms (found ++ one.found ∷ [])) ≡ first ++ then =
              items_next old.settings w.global_tags moment all old.series.histograms found one.key one.found at
              ∙ ap (λ l. first ++ histogram_items old.settings w.global_tags moment one.key l one.found) left_words in
              subst (λ l. Sends (items_of_histograms old.settings w.global_tags moment l (with_found old.series.histograms (found ++ one.found ∷ []))) w x u r) (sym (append_assoc words one.words more))
              (subst (λ l. Sends l w x u r) (sym items) (sends_then first then w v x u n r (done.sends moment (one.words ++ more)) sent)));
        },
        draws_then to_come mid_words left words one.words draws one.draws.drawn,
      )

  -- one is refused
  pub histograms_refused : ChangesAt place Drains mid.series.histograms new.series.histograms → Sends [] v x n r → HistogramsFlushed old.settings MaybeDrained found words old new w x u r
  histograms_refused drains sends = record {
    taken = drained_next old.series.histograms mid.series.histograms new.series.histograms found done.taken (subst (λ p. ChangesAt p Drains mid.series.histograms new.series.histograms) (sym many) drains);
    others = kept_others;
    many = done.many;
    sends = λ moment more.
        (let first = items_of_histograms old.settings w.global_tags moment (words ++ more) (with_found old.series.histograms found) in
        subst (λ l. Sends l w x u r) (append-nil first) (sends_then first [] w v x u n r (done.sends moment more) sends));
  }

pub draws_more : (a b c : Option (ℕ → ℕ)) (xs ys : List ℕ) → Draws a xs b → Draws b ys c → Draws a (xs ++ ys) c
draws_more = draws_then

pub draws_all : (a b : Option (ℕ → ℕ)) (xs : List ℕ) → Draws a xs b → Draws a (xs ++ []) b
draws_all a b xs draws = subst (λ l. Draws a l b) (sym (append-nil xs)) draws
