-- From the state of an exporter to what it renders.
use Rattle.std.proofs.Common.{◌≡◌, ℕ, List, [], ◌∷◌, ◌++◌, map, refl, ap, subst}
use Rattle.std.specs.Prelude.{All, Option}
use Rattle.std.proofs.lemmas.List.Elements.{All-cons, All-head, All-nil, All-tail}
use Rattle.metrics_core.specs.Outside.{GrewBy, GrewByPrefix}
use Rattle.metrics_registry.specs.Live.{LiveSeries}
use Rattle.rolling_summaries.specs.Standing.{NeverFall, NoneAfter}
use Rattle.histogram_series.specs.Entries.{TimedEntry, records_of, samples_of_entries, samples_of_entry}
use Rattle.histogram_series.specs.Series.{entries}
use Rattle.rolling_summaries.specs.Window.{timed_samples}
use Rattle.prom_exporter.specs.State.{Series}
use Rattle.prom_exporter.specs.Values.{sampled_series, series_of}
use Rattle.prom_exporter.specs.Sampled.{Sampled, IsTimely, calls_known}
use Rattle.prom_exporter.specs.Exporter.{Exporter, AreTimely, state_of, page_body, written_page}
use Rattle.prom_exporter.proofs.TimelyPages.{timely_page}
use Rattle.script_player.specs.Timely.{AreTimelyCalls, IsTimelyState}

abbrev known_series : LiveSeries Sampled → Series
known_series s = series_of (sampled_series calls_known s)

-- entries stand for the samples of the calls that they tell
calls_tell : (es : List TimedEntry) → timed_samples (records_of es) ≡ samples_of_entries es
calls_tell [] = refl
calls_tell (e ∷ es) = ap (λ samples. samples_of_entry e ++ samples) (calls_tell es)

one_timely : (moment : ℕ) (cell : Sampled) → AreTimelyCalls moment (calls_known cell) → IsTimely moment cell
one_timely moment cell timely = subst (λ samples. NeverFall samples × NoneAfter moment samples) (calls_tell (entries cell.series)) timely

each_timely : (moment : ℕ) (hs : List (LiveSeries Sampled)) → All (λ (s : Series). AreTimelyCalls moment s.calls) (map series_of (map (sampled_series calls_known) hs)) → All (λ (s : LiveSeries Sampled). IsTimely moment s.cell) hs
each_timely moment [] timely = All-nil _
each_timely moment (h ∷ hs) timely =
    All-cons (λ (s : LiveSeries Sampled). IsTimely moment s.cell) h hs
    (one_timely moment h.cell (All-head (λ (s : Series). AreTimelyCalls moment s.calls) (known_series h) _ timely))
    (each_timely moment hs (All-tail (λ (s : Series). AreTimelyCalls moment s.calls) (known_series h) _ timely))

-- the samples of an exporter whose state is timely are
pub timely_exporter : (moment : ℕ) (e : Exporter) → IsTimelyState moment (state_of e) → AreTimely moment e
timely_exporter moment e timely = each_timely moment e.series.histograms timely

-- what was written of it is its page
module _ (moment : ℕ) (e : Exporter) (before after : Option (List ℕ)) (timely : IsTimelyState moment (state_of e)) where
  pub grew_page : GrewBy before after (written_page moment e) → GrewBy before after (page_body moment e)
  grew_page = subst (GrewBy before after) (timely_page moment e (timely_exporter moment e timely))

  pub grew_page_prefix : GrewByPrefix before after (written_page moment e) → GrewByPrefix before after (page_body moment e)
  grew_page_prefix = subst (GrewByPrefix before after) (timely_page moment e (timely_exporter moment e timely))
