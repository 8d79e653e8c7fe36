-- What a whole flush does where no pass is out.
use Rattle.std.proofs.Common.{◌≡◌, ℕ, Bool, List, [], ◌∷◌, ◌++◌, length, arith, map, Option, refl, sym, ap, subst, ◌∙◌}
use Rattle.std.proofs.lemmas.List.{append-nil}
use Rattle.metrics_core.specs.declared.numbers.Fixed.{Fixed as FixedOf}
use Rattle.metrics_core.specs.Words.{Draws}
use Rattle.metrics_registry.specs.Live.{LiveSeries}
use Rattle.flushed_cells.specs.Counters.{flushed}
use Rattle.dsd_writer.specs.Writers.{WriterText}
use Rattle.dsd_exporter.specs.State.{with_cell_of, marks_after, items_of_counters, items_of_gauges, items_of_histograms}
use Rattle.dsd_exporter.specs.Updates.{UpdateText}
use Rattle.dsd_exporter.specs.Exporter.{Exporter, CounterThing, GaugeThing, Queued, AllHome, IsHome, counter_seen, gauge_seen, samples_seen}
use Rattle.dsd_exporter.specs.Flushing.{TakesCounter, TakesGauge, TakesSamples, Unchanged, MaybeDrained, Sends, with_found, words_for_all, Found, IsWhole, Flushes, FlushesAll}
use Rattle.dsd_exporter.proofs.FoundHome.{all-home, counter-home, counter-left, gauge-home, gauge-left, gauge_kept, samples-home}

-- what was found is the cells of the series with what was found
cells-found : {X Y : Type 0} (old : List (LiveSeries X)) (found : List Y) (seen : X → Y) → with_found old found ≡ map (with_cell_of seen) old → length found ≡ length old → found ≡ map (λ (s : LiveSeries Y). s.cell) (map (with_cell_of seen) old)
cells-found old found seen same whole = sym (cells old found whole) ∙ ap (map (λ (s : LiveSeries _). s.cell)) same
  where
    cells : {X Y : Type 0} (old : List (LiveSeries X)) (found : List Y) → length found ≡ length old → map (λ (s : LiveSeries Y). s.cell) (with_found old found) ≡ found
    cells old [] whole = refl
    cells [] (y ∷ found) whole = absurd (omega (arith, whole))
    cells (s ∷ old) (y ∷ found) whole = ap (λ l. y ∷ l) (cells old found (omega (arith, whole)))

pub flushes_all : (moment : ℕ) (found : Found) (old new : Exporter) (marks noted : List Bool) (w v : WriterText) (u n : UpdateText) (to_come left : Option (ℕ → ℕ))
    → Flushes moment found old new marks noted w v u n to_come left → IsWhole found old → AllHome old → FlushesAll moment old new marks noted w v u n to_come left
flushes_all moment found old new marks noted w v u n to_come left flushes whole home =
    let counters = all-home Unchanged TakesCounter (λ (c : CounterThing). IsHome c.root) counter_seen flushed (λ new none. none)
    (λ s t y h takes. (counter-home s t y h takes, counter-left s t y takes)) old.series.counters new.series.counters found.counters flushes.counters whole.counters home.counters in
    let gauges = all-home Unchanged TakesGauge (λ (c : GaugeThing). IsHome c.root) gauge_seen gauge_kept (λ new none. none)
    (λ s t y h takes. (gauge-home s t y h takes, gauge-left s t y takes)) old.series.gauges new.series.gauges found.gauges flushes.gauges whole.gauges home.gauges in
    let histograms = all-home MaybeDrained TakesSamples (λ (c : Queued). IsHome c.root) samples_seen (λ (l : List FixedOf). []) (λ new none. none)
    (λ s t y h takes. samples-home s t y h takes) old.series.histograms new.series.histograms found.histograms flushes.histograms whole.histograms home.histograms in
    let cells = cells-found old.series.counters found.counters counter_seen counters.0 whole.counters in
    record {
      words = found.words;
      drawn = subst (λ l. Draws to_come l left) (ap (λ l. found.words ++ l) whole.others ∙ append-nil found.words) flushes.drawn;
      many = flushes.many ∙ ap (words_for_all old.settings) histograms.0;
      step = (λ j. record {
        series = record { counters = counters.1 j; gauges = gauges.1 j; histograms = histograms.1 j; made = (ap (λ (e : Exporter). e.series.made) flushes.rest) j };
        idle = (flushes.marked ∙ ap (λ l. marks_after l marks) cells) j;
      });
      sends =
          subst (λ items. Sends items w v u n)
          (λ j. items_of_counters old.settings w.global_tags moment marks (counters.0 j) ++ items_of_gauges old.settings w.global_tags moment (gauges.0 j) ++ items_of_histograms old.settings w.global_tags moment found.words (histograms.0 j))
          flushes.sends;
    }
