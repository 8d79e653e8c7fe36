-- What a flush sends is what lines say of it.
use Rattle.std.proofs.Common.{◌≡◌, ℕ, ◌/◌, ◌<◌, ◌^◌, Bool, true, false, cond, List, [], ◌∷◌, ◌++◌, length, map, Option, Some, None, refl, sym, ap, subst, append-nil, arith}
use Rattle.std.specs.Prelude.{◌&&◌, All, FitsSigned, IfSome, codes, drop}
use Rattle.std.specs.Int.{w64}
use Rattle.std.specs.List.{AllZip}
use Rattle.std.proofs.lemmas.List.Elements.{All-cons, All-head, All-nil, All-tail}
use Rattle.metrics_core.specs.Keys.{KeyText}
use Rattle.metrics_core.specs.Numbers.{dogstatsd_number, one}
use Rattle.metrics_core.specs.declared.numbers.Fixed.{Fixed}
use Rattle.metrics_registry.specs.Live.{LiveSeries}
use Rattle.flushed_cells.specs.declared.counter_state.CounterState.{CounterState}
use Rattle.flushed_cells.specs.declared.gauge_state.GaugeState.{GaugeState}
use Rattle.dsd_writer.specs.Lines.{ItemText, prefixed, spelled_values}
use Rattle.dsd_lines.specs.Grammar.{IsClean, LineText}
use Rattle.dsd_lines.specs.Texts.{numbers_of}
use Rattle.dsd_exporter.specs.State.{DogStatsDSettings, DogStatsDState, FlushItem, counter_items, flush_items, gauge_item, histogram_item, histogram_items, is_quiet, items_of_counters, items_of_gauges, items_of_histograms, line_letter, prefix_before, timestamp, words_for}
use Rattle.flush_delivery.specs.Delivered.{CanBeSaid, IsSaidBy, counter_if_sent, counter_said, counters_said, flush_said, gauges_said, histogram_if_any, histograms_said, samples_said}

abbrev Said : List FlushItem → List LineText → Type 0
Said items saids = AllZip (λ item said. IsSaidBy item.item item.values said) items saids

said_both : (is js : List FlushItem) (ss ts : List LineText) → Said is ss → Said js ts → Said (is ++ js) (ss ++ ts)
said_both [] js [] ts a b = b
said_both [] js (s ∷ ss) ts a b = absurd a
said_both (i ∷ is) js [] ts a b = absurd a
said_both (i ∷ is) js (s ∷ ss) ts a b = (a.0, said_both is js ss ts a.1 b)

module _ (settings : DogStatsDSettings) (moment : ℕ) (few : moment < 2 ^ 64) (prefix : settings.name_prefix ≡ None) where
  abbrev seconds : Option ℕ
  seconds = timestamp settings [] moment

  seconds_fit : IfSome seconds (λ n. n < 2 ^ 64)
  seconds_fit = by settings.aggressive
    where
      by : (b : Bool) → IfSome (cond b (Some (moment / one)) None) (λ n. n < 2 ^ 64)
      by true = omega (arith, few)
      by false = tt

  abbrev sent_text : List ℕ → KeyText → Option ℕ → ItemText
  sent_text type key at = record { name = prefixed (prefix_before settings.name_prefix key.name) key.name; type = type; rate = None; tags = key.labels ++ []; timestamp = at }

  abbrev plain_text : List ℕ → KeyText → Option ℕ → ItemText
  plain_text type key at = record { name = key.name; type = type; rate = None; tags = key.labels; timestamp = at }

  -- what a line says beside its values, without prefix and tags of every line
  plain_item : (type : List ℕ) (key : KeyText) (at : Option ℕ) → sent_text type key at ≡ plain_text type key at
  plain_item type key at i = record { name = prefixed (prefix_before (prefix i) key.name) key.name; type = type; rate = None; tags = append-nil key.labels i; timestamp = at }

  counter_is_said : (idle : Bool) (key : KeyText) (s : CounterState) → IsClean key × (s.delta < 2 ^ 64) → Said (counter_items settings [] moment idle key s) (counter_if_sent settings moment idle key s)
  counter_is_said idle key s (clean, fits) = by (is_quiet s && idle)
    where
      by : (b : Bool) → Said (cond b [] (Rattle.dsd_exporter.specs.State.counter_item settings [] moment key s ∷ [])) (cond b [] (counter_said settings moment key s ∷ []))
      by true = tt
      by false = (
        record {
          item_is = plain_item (codes "c") key seconds;
          values_are = refl;
          sayable = record { clean = clean; some = omega arith; range = All-cons (λ n. n < 2 ^ 64) s.delta [] fits (All-nil (λ n. n < 2 ^ 64)); rate = tt; timestamp = seconds_fit };
        },
        tt,
      )

  abbrev CleanCounter : LiveSeries CounterState → Type 0
  CleanCounter series = IsClean series.key × (series.cell.delta < 2 ^ 64)

  counters_are_said : (marks : List Bool) (live : List (LiveSeries CounterState)) → All CleanCounter live → Said (items_of_counters settings [] moment marks live) (counters_said settings moment marks live)
  counters_are_said marks [] all = tt
  counters_are_said [] (series ∷ live) all =
      said_both (counter_items settings [] moment false series.key series.cell) _ (counter_if_sent settings moment false series.key series.cell) _
      (counter_is_said false series.key series.cell (All-head CleanCounter series live all)) (counters_are_said [] live (All-tail CleanCounter series live all))
  counters_are_said (mark ∷ marks) (series ∷ live) all =
      said_both (counter_items settings [] moment mark series.key series.cell) _ (counter_if_sent settings moment mark series.key series.cell) _
      (counter_is_said mark series.key series.cell (All-head CleanCounter series live all)) (counters_are_said marks live (All-tail CleanCounter series live all))

  abbrev CleanGauge : LiveSeries GaugeState → Type 0
  CleanGauge series = IsClean series.key × FitsSigned w64 series.cell.value.0

  gauges_are_said : (live : List (LiveSeries GaugeState)) → All CleanGauge live → Said (items_of_gauges settings [] moment live) (gauges_said settings moment live)
  gauges_are_said [] all = tt
  gauges_are_said (series ∷ live) all =
      let clean = All-head CleanGauge series live all in (
        record {
          item_is = plain_item (codes "g") series.key seconds;
          values_are = refl;
          sayable = record { clean = clean.0; some = omega arith; range = All-cons (FitsSigned w64) series.cell.value.0 [] clean.1 (All-nil (FitsSigned w64)); rate = tt; timestamp = seconds_fit };
        },
        gauges_are_said live (All-tail CleanGauge series live all),
      )

  spelled_numbers : (samples : List Fixed) → spelled_values samples ≡ map dogstatsd_number (numbers_of samples)
  spelled_numbers [] = refl
  spelled_numbers (sample ∷ samples) = ap (λ l. dogstatsd_number sample.0 ∷ l) (spelled_numbers samples)

  -- the samples of a histogram, as distribution or not
  module _ (unsampled : settings.reservoir_size ≡ None) where
    abbrev whole_item : KeyText → List Fixed → FlushItem
    whole_item key samples = record {
      kind = Rattle.metrics_core.specs.declared.kinds.MetricKind.TheVariants.Histogram;
      item = Rattle.dsd_exporter.specs.State.item_for settings [] moment (line_letter settings.distributions) key;
      values = spelled_values samples;
      updates = length samples;
    }

    whole : (key : KeyText) (words : List ℕ) (samples : List Fixed) → histogram_item settings [] moment key words samples ≡ whole_item key samples
    whole key words samples = ap (λ (size : Option ℕ). histogram_item (record settings { reservoir_size = size }) [] moment key words samples) unsampled

    samples_are_said : (key : KeyText) (sample : Fixed) (samples : List Fixed) → IsClean key × All (FitsSigned w64) (numbers_of (sample ∷ samples))
        → IsSaidBy (whole_item key (sample ∷ samples)).item (spelled_values (sample ∷ samples))
        (record { key = key; points = samples_said settings moment settings.distributions (sample ∷ samples); rate = None; timestamp = None })
    samples_are_said key sample samples (clean, fit) = by settings.distributions
      where
        by : (b : Bool) → IsSaidBy (Rattle.dsd_exporter.specs.State.item_for settings [] moment (line_letter b) key) (spelled_values (sample ∷ samples))
            (record { key = key; points = samples_said settings moment b (sample ∷ samples); rate = None; timestamp = None })
        by true = record {
          item_is = plain_item (codes "d") key None;
          values_are = spelled_numbers (sample ∷ samples);
          sayable = record { clean = clean; some = omega arith; range = fit; rate = tt; timestamp = tt };
        }
        by false = record {
          item_is = plain_item (codes "h") key None;
          values_are = spelled_numbers (sample ∷ samples);
          sayable = record { clean = clean; some = omega arith; range = fit; rate = tt; timestamp = tt };
        }

    histogram_is_said : (key : KeyText) (words : List ℕ) (samples : List Fixed) → IsClean key × All (FitsSigned w64) (numbers_of samples) → Said (histogram_items settings [] moment key words samples) (histogram_if_any settings moment key samples)
    histogram_is_said key words [] clean = tt
    histogram_is_said key words (sample ∷ samples) clean =
        let said : LineText = record { key = key; points = samples_said settings moment settings.distributions (sample ∷ samples); rate = None; timestamp = None } in
        (subst (λ (item : FlushItem). IsSaidBy item.item item.values said) (sym (whole key words (sample ∷ samples))) (samples_are_said key sample samples clean), tt)

    abbrev CleanHistogram : LiveSeries (List Fixed) → Type 0
    CleanHistogram series = IsClean series.key × All (FitsSigned w64) (numbers_of series.cell)

    histograms_are_said : (words : List ℕ) (live : List (LiveSeries (List Fixed))) → All CleanHistogram live → Said (items_of_histograms settings [] moment words live) (histograms_said settings moment live)
    histograms_are_said words [] all = tt
    histograms_are_said words (series ∷ live) all =
        said_both (histogram_items settings [] moment series.key words series.cell) _ (histogram_if_any settings moment series.key series.cell) _
        (histogram_is_said series.key words series.cell (All-head CleanHistogram series live all))
        (histograms_are_said (drop (words_for settings [] moment series.cell) words) live (All-tail CleanHistogram series live all))

pub flush_is_said : (settings : DogStatsDSettings) (moment : ℕ) → moment < 2 ^ 64 → (words : List ℕ) (s : DogStatsDState) → CanBeSaid settings s
    → AllZip (λ item said. IsSaidBy item.item item.values said) (flush_items settings [] moment words s) (flush_said settings moment s)
flush_is_said settings moment few words s can =
    said_both (items_of_counters settings [] moment s.idle s.series.counters ++ items_of_gauges settings [] moment s.series.gauges) (items_of_histograms settings [] moment words s.series.histograms)
    (counters_said settings moment s.idle s.series.counters ++ gauges_said settings moment s.series.gauges) (histograms_said settings moment s.series.histograms)
    (said_both (items_of_counters settings [] moment s.idle s.series.counters) (items_of_gauges settings [] moment s.series.gauges)
    (counters_said settings moment s.idle s.series.counters) (gauges_said settings moment s.series.gauges)
    (counters_are_said settings moment few can.prefix s.idle s.series.counters can.counters) (gauges_are_said settings moment few can.prefix s.series.gauges can.gauges))
    (histograms_are_said settings moment few can.prefix can.unsampled words s.series.histograms can.histograms)
