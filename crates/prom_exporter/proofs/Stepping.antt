-- What a page makes of the series that are kept: where no pass is out, the page step of what the exporter has seen.
use Rattle.std.proofs.Common.{◌≡◌, ℕ, suc, ◌%◌, ◌^◌, ◌≤◌, Bool, true, false, cond, List, [], ◌∷◌, map, filter_map, length, Option, None, Some, refl, sym, ap, subst, ◌∙◌, arith}
use Rattle.std.specs.Prelude.{All, is_some, option_map, unwrap_or}
use Rattle.std.specs.List.{cons_option}
use Rattle.std.specs.Borrow.{MutBor}
use Rattle.std.specs.Fn.{Mut, Called}
use Rattle.std.proofs.lemmas.List.{length-map}
use Rattle.std.proofs.lemmas.List.Elements.{All-nil, All-head, All-tail, All-cons}
use Rattle.legal_history.specs.declared.history.Entry.{Entry}
use Rattle.legal_history.specs.History.{calls}
use Rattle.metrics_core.specs.declared.calls.SeriesCall.{SeriesCall}
use Rattle.metrics_core.specs.declared.kinds.MetricKind.{MetricKind}
use Rattle.metrics_core.specs.declared.kinds.MetricKind.TheVariants as kinds
use Rattle.metrics_core.specs.declared.kinds.SeriesId.{SeriesId}
use Rattle.metrics_core.specs.Numbers.{in_64_bits}
use Rattle.metrics_core.specs.Series.{call_of}
use Rattle.metrics_core.specs.Calls.{Call, update_count}
use Rattle.metrics_registry.specs.Live.{LiveSeries}
use Rattle.metrics_registry.specs.Recency.{Idle, note_left}
use Rattle.metrics_registry.specs.Retained.{AskedAt, Retains}
use Rattle.prom_format.specs.Pages.{body_text}
use Rattle.prom_exporter.specs.State.{Series, kept_at, page_step, publish as publish_state}
use Rattle.prom_exporter.specs.Families.{families_written}
use Rattle.prom_exporter.specs.Rows.{keys_of}
use Rattle.prom_exporter.specs.Shared.{Shared, IsHome, Counts, calls_seen}
use Rattle.prom_exporter.specs.Values.{series_of, seen_series}
use Rattle.metric_descriptions.specs.Descriptions.{DescribedText, publish}
use Rattle.prom_exporter.specs.Exporter.{Exporter, AllHome, AreTimely, state_of, state_shown, written_page, written_body}
use Rattle.prom_exporter.specs.Stepped.{IsNoted, AreNoted, AreCounted, DrainsInPart, DrainsWhole, AreDrained, DrainsEach, KeepsUp, Steps}
use Rattle.prom_exporter.proofs.Home.{counts-home, counts-all}
use Rattle.prom_exporter.proofs.Drained.{AreWhole, drained-rest, drained-timely, drained-known, drained-whole, whole-parts}
use Rattle.prom_exporter.proofs.Counted.{all_known, fewer_step, keys_step, counted-rest, counted-whole, counted-timely, counted-known, whole-shown}

-- the number of updates is that of the calls
length-calls : (log : List (Entry SeriesCall)) → length (calls log) ≡ length log
length-calls [] = refl
length-calls (e ∷ log) = ap suc (length-calls log)

module _ (idle : Option Idle) (moment : ℕ) (kind : MetricKind) {F : Type 0} where
  -- ---- the series that stay

  -- they are not more than there were
  pub noted_fewer : (old new : List (LiveSeries (Shared F))) → AreNoted idle moment kind old new → length new ≤ length old
  noted_fewer [] new is = let none : length new ≡ 0 = ap length is in omega (arith, none)
  noted_fewer (e ∷ old) new (stays, cell, rest, noted, others, is) = subst (λ (l : List (LiveSeries (Shared F))). length l ≤ length (e ∷ old)) (sym is) (fewer_step e old rest cell stays (noted_fewer old rest others))

  -- where they are as many, they have the same keys
  pub noted_keys : (old new : List (LiveSeries (Shared F))) → AreNoted idle moment kind old new → length old ≤ length new → keys_of new ≡ keys_of old
  noted_keys [] new is many = ap keys_of is
  noted_keys (e ∷ old) new (stays, cell, rest, noted, others, is) many =
      ap keys_of is ∙ keys_step e old rest cell stays (noted_fewer old rest others) (noted_keys old rest others) (subst (λ (l : List (LiveSeries (Shared F))). length (e ∷ old) ≤ length l) is many)

  -- ---- with no pass out

  abbrev AtHome : List (LiveSeries (Shared F)) → Type 0
  AtHome = All (λ series. IsHome series.cell)

  noted_at-home : (s t : Shared F) (stays : Bool) → IsHome s → IsNoted idle moment kind s stays t → IsHome t
  noted_at-home s t stays home noted = rw (noted.left, counts-home s noted.seen noted.count home noted.counts) home

  home_step : (e : LiveSeries (Shared F)) (rest : List (LiveSeries (Shared F))) (cell : Shared F) (stays : Bool) → IsHome cell → AtHome rest → AtHome (cond stays (record e { cell = cell } ∷ rest) rest)
  home_step e rest cell true home others = All-cons (λ (s : LiveSeries (Shared F)). IsHome s.cell) (record e { cell = cell }) rest home others
  home_step e rest cell false home others = others

  -- none is out then
  pub noted_home : (old new : List (LiveSeries (Shared F))) → AtHome old → AreNoted idle moment kind old new → AtHome new
  noted_home [] new home is = subst AtHome (sym is) (All-nil _)
  noted_home (e ∷ old) new home (stays, cell, rest, noted, others, is) =
      subst AtHome (sym is) (home_step e rest cell stays (noted_at-home e.cell cell stays (All-head (λ (s : LiveSeries (Shared F)). IsHome s.cell) e old home) noted) (noted_home old rest (All-tail (λ (s : LiveSeries (Shared F)). IsHome s.cell) e old home) others))

  module _ (plain : (made : List Call) → update_count kind made ≡ length made) where
    abbrev shown : LiveSeries (Shared F) → Series
    shown e = series_of (seen_series e)

    abbrev all_shown : List (LiveSeries (Shared F)) → List Series
    all_shown es = map series_of (map seen_series es)

    count-home : (s t : Shared F) (n : ℕ) → IsHome s → Counts s n t → n ≡ in_64_bits (update_count kind (calls_seen s))
    count-home s t n home counts =
        counts-all s t n home counts ∙ ap (λ m. m % 2 ^ 64) (sym (plain (calls_seen s) ∙ length-map (calls s.root.seen) call_of ∙ length-calls s.root.seen))

    -- what the page step makes of a series, whose note is then this
    shown_step : (e : LiveSeries (Shared F)) (rest : List (LiveSeries (Shared F))) (note : Option (Option (ℕ × ℕ))) (tail : List Series) → tail ≡ all_shown rest
        → cons_option (option_map (λ n. record (shown e) { note = n }) note) tail ≡ all_shown (cond (is_some note) (record e { cell = record e.cell { note = unwrap_or note e.cell.note } } ∷ rest) rest)
    shown_step e rest None tail same = same
    shown_step e rest (Some n) tail same = ap (λ l. record (shown e) { note = n } ∷ l) same

    -- the series that stay are those of the page step
    pub noted_shown : (old new : List (LiveSeries (Shared F))) → AtHome old → AreNoted idle moment kind old new → filter_map (kept_at idle moment kind) (all_shown old) ≡ all_shown new
    noted_shown [] new home is = ap all_shown (sym is)
    noted_shown (e ∷ old) new home (stays, cell, rest, noted, others, is) =
        let here = All-head (λ (s : LiveSeries (Shared F)). IsHome s.cell) e old home in
        let seen : noted.seen ≡ e.cell = counts-home e.cell noted.seen noted.count here noted.counts in
        let count = count-home e.cell noted.seen noted.count here noted.counts in
        let left : Option (Option (ℕ × ℕ)) = note_left idle kind e.cell.note noted.count moment in
        let cell_is : cell ≡ record e.cell { note = unwrap_or left e.cell.note } = noted.left ∙ ap (λ (s : Shared F). record s { note = unwrap_or (note_left idle kind s.note noted.count moment) s.note }) seen in
        let stays_is : stays ≡ is_some left = noted.stays_is ∙ ap (λ (s : Shared F). is_some (note_left idle kind s.note noted.count moment)) seen in
        let tail = noted_shown old rest (All-tail (λ (s : LiveSeries (Shared F)). IsHome s.cell) e old home) others in
        ap (λ n. cons_option (option_map (λ m. record (shown e) { note = m }) (note_left idle kind e.cell.note n moment)) (filter_map (kept_at idle moment kind) (all_shown old))) (sym count)
        ∙ shown_step e rest left _ tail
        ∙ sym (ap all_shown (is ∙ (λ j. cond (stays_is j) (record e { cell = cell_is j } ∷ rest) rest)))

-- what is noted by one rule is noted by another that leaves the same
pub noted_under : (idle other : Option Idle) (moment : ℕ) (kind : MetricKind) {F : Type 0} → ((note : Option (ℕ × ℕ)) (count t : ℕ) → note_left idle kind note count t ≡ note_left other kind note count t)
    → (old new : List (LiveSeries (Shared F))) → AreNoted idle moment kind old new → AreNoted other moment kind old new
noted_under idle other moment kind same [] new is = is
noted_under idle other moment kind same (e ∷ old) new (stays, cell, rest, noted, others, is) =
    let rule = same noted.seen.note noted.count moment in (
      stays,
      cell,
      rest,
      record {
        seen = noted.seen;
        count = noted.count;
        counts = noted.counts;
        stays_is = noted.stays_is ∙ ap is_some rule;
        left = noted.left ∙ ap (λ n. record noted.seen { note = unwrap_or n noted.seen.note }) rule;
      },
      noted_under idle other moment kind same old rest others,
      is,
    )

-- ---- a test that reads and notes each cell

module _ (idle : Option Idle) (moment : ℕ) (kind : MetricKind) {K F : Type 0} (g : Mut K (SeriesId × (MutBor (Shared F) × Unit {0})) (Bool × (MutBor (Shared F) × Unit {0}))) (Is : K → Type 0)
    (says : (f : K) (id : SeriesId) (cell : MutBor (Shared F)) (b : Bool) (left : MutBor (Shared F)) (f' : K) → Is f → Called g f (id, (cell, tt)) (b, (left, tt)) f' → Is f' × IsNoted idle moment kind cell.now b left.now) where
  asked : (f : K) (id : SeriesId) (cell : Shared F) (b : Bool) (left : Shared F) (f' : K) → Is f → AskedAt g f id cell b left f' → Is f' × IsNoted idle moment kind cell b left
  asked f id cell b left f' is a = rw (← a.shows, ← a.leaves) (says f id a.lent b a.left f' is a.called)

  pub retains_noted : (f : K) (live kept : List (LiveSeries (Shared F))) (last : K) → Is f → Retains g f live kept last → AreNoted idle moment kind live kept
  retains_noted f [] kept last is done = done.0
  retains_noted f (series ∷ live) kept last is done =
      let own = asked f series.id series.cell done.0 done.1 done.2 is done.4 in
      (done.0, done.1, done.3, own.1, retains_noted done.2 live done.3 last own.0 done.5, done.6)

-- ---- the exporter

-- histograms that were drained, where no pass is out
module _ (old new : Exporter) (home : AllHome old) (drains : DrainsEach DrainsInPart old new) where
  pub drains_home : AllHome new
  drains_home = rw drains.1 (home.0, home.1, drained-rest old.series.histograms new.series.histograms drains.0 home.2)

  pub drains_state : state_of new ≡ state_of old
  drains_state = ap state_of drains.1 ∙ ap (λ es. record (state_of old) { histograms = map series_of es }) (drained-known old.series.histograms new.series.histograms drains.0 home.2)

  -- moments of samples stay as they are
  pub drains_timely : (t : ℕ) → AreTimely t old → AreTimely t new
  drains_timely t timely = drained-timely t old.series.histograms new.series.histograms drains.0 home.2 timely

-- those that were drained whole were drained in part
pub drains_less : (old new : Exporter) → DrainsEach DrainsWhole old new → DrainsEach DrainsInPart old new
drains_less old new drains = (whole-parts old.series.histograms new.series.histograms drains.0, drains.1)

-- what waits is published after the histograms were drained
pub keeps_made : (old drained new : Exporter) (said : DescribedText) → DrainsEach DrainsWhole old drained → new ≡ record drained { said = said } → said ≡ publish drained.said → KeepsUp old new
keeps_made old drained new said drains is published = (
  subst (λ (e : Exporter). AreDrained DrainsWhole old.series.histograms e.series.histograms) (sym is) drains.0,
  is
      ∙ ap (λ (e : Exporter). record e { said = said }) drains.1
      ∙ (λ j. record old { series = record old.series { histograms = ap (λ (e : Exporter). e.series.histograms) (sym is) j }; said = (published ∙ ap (λ (e : Exporter). publish e.said) drains.1) j }),
)

-- those that were drained whole, where what waited was published
module _ (old new : Exporter) (home : AllHome old) (keeps : KeepsUp old new) where
  abbrev drained_only : Exporter
  drained_only = record old { series = record old.series { histograms = new.series.histograms } }

  drained_parts : DrainsEach DrainsInPart old drained_only
  drained_parts = (whole-parts old.series.histograms new.series.histograms keeps.0, refl)

  pub keeps_home : AllHome new
  keeps_home = subst AllHome (sym keeps.1) (drains_home old drained_only home drained_parts)

  pub keeps_timely : (t : ℕ) → AreTimely t old → AreTimely t new
  keeps_timely t timely = subst (AreTimely t) (sym keeps.1) (drains_timely old drained_only home drained_parts t timely)

  pub keeps_state : state_of new ≡ publish_state (state_of old)
  keeps_state = ap state_of keeps.1 ∙ ap publish_state (drains_state old drained_only home drained_parts)

-- the page step is made of its parts: the histograms are drained, and then each kind in turn
module _ (moment : ℕ) (old drained counted gauged new : Exporter) (drains : KeepsUp old drained)
    (counters : AreNoted drained.settings.idle moment kinds.Counter drained.series.counters counted.series.counters) (counted_is : counted ≡ record drained { series = record drained.series { counters = counted.series.counters } })
    (gauges : AreNoted counted.settings.idle moment kinds.Gauge counted.series.gauges gauged.series.gauges) (gauged_is : gauged ≡ record counted { series = record counted.series { gauges = gauged.series.gauges } })
    (histograms : AreCounted gauged.settings.idle moment gauged.series.histograms new.series.histograms) (new_is : new ≡ record gauged { series = record gauged.series { histograms = new.series.histograms } }) where
  abbrev with_counters : Exporter → Exporter
  with_counters e = record e { series = record e.series { counters = counted.series.counters } }

  abbrev with_gauges : Exporter → Exporter
  with_gauges e = record e { series = record e.series { gauges = gauged.series.gauges } }

  from_counted : counted ≡ with_counters (record old { series = record old.series { histograms = drained.series.histograms }; said = publish old.said })
  from_counted = counted_is ∙ ap with_counters drains.1

  from_gauged : gauged ≡ with_gauges (with_counters (record old { series = record old.series { histograms = drained.series.histograms }; said = publish old.said }))
  from_gauged = gauged_is ∙ ap with_gauges from_counted

  from_new : new ≡ record (with_gauges (with_counters old)) { series = record (with_gauges (with_counters old)).series { histograms = new.series.histograms }; said = publish old.said }
  from_new = new_is ∙ ap (λ (e : Exporter). record e { series = record e.series { histograms = new.series.histograms } }) from_gauged

  pub steps_made : Steps moment old new
  steps_made = record {
    settings = ap (λ (e : Exporter). e.settings) from_new;
    counters = subst (AreNoted old.settings.idle moment kinds.Counter old.series.counters) (sym (ap (λ (e : Exporter). e.series.counters) new_is ∙ ap (λ (e : Exporter). e.series.counters) gauged_is))
        (subst (λ (e : Exporter). AreNoted e.settings.idle moment kinds.Counter e.series.counters counted.series.counters) drains.1 counters);
    gauges = subst (AreNoted old.settings.idle moment kinds.Gauge old.series.gauges) (sym (ap (λ (e : Exporter). e.series.gauges) new_is))
        (subst (λ (e : Exporter). AreNoted e.settings.idle moment kinds.Gauge e.series.gauges gauged.series.gauges) from_counted gauges);
    drained = drained.series.histograms;
    drains = drains.0;
    histograms = subst (λ (e : Exporter). AreCounted e.settings.idle moment e.series.histograms new.series.histograms) from_gauged histograms;
    made = ap (λ (e : Exporter). e.series.made) from_new;
    said = ap (λ (e : Exporter). e.said) from_new;
    redirected = ap (λ (e : Exporter). e.redirected) from_new;
  }

module _ (moment : ℕ) (old new : Exporter) (home : AllHome old) (steps : Steps moment old new) where
  abbrev idle : Option Idle
  idle = old.settings.idle

  parts : AreDrained DrainsInPart old.series.histograms steps.drained
  parts = whole-parts old.series.histograms steps.drained steps.drains

  drained_whole : AreWhole steps.drained
  drained_whole = drained-whole old.series.histograms steps.drained steps.drains home.2

  pub steps_home : AllHome new
  steps_home = (
    noted_home idle moment kinds.Counter old.series.counters new.series.counters home.0 steps.counters,
    noted_home idle moment kinds.Gauge old.series.gauges new.series.gauges home.1 steps.gauges,
    counted-rest idle moment steps.drained new.series.histograms steps.histograms (drained-rest old.series.histograms steps.drained parts home.2),
  )

  -- moments of samples stay as they are
  pub steps_timely : (t : ℕ) → AreTimely t old → AreTimely t new
  steps_timely t timely =
      counted-timely idle moment t steps.drained new.series.histograms steps.histograms (drained-timely t old.series.histograms steps.drained parts home.2 timely)

  -- what the exporter has seen then is the page step of what it had seen
  pub steps_state : state_of new ≡ page_step old.settings.idle moment (state_of old)
  steps_state =
      let sampled : filter_map (kept_at idle moment kinds.Histogram) (all_known old.series.histograms) ≡ all_known new.series.histograms =
      ap (λ es. filter_map (kept_at idle moment kinds.Histogram) (map series_of es)) (sym (drained-known old.series.histograms steps.drained parts home.2))
      ∙ counted-known idle moment steps.drained new.series.histograms drained_whole steps.histograms in
      (λ j. record {
        counters = sym (noted_shown idle moment kinds.Counter (λ made. refl) old.series.counters new.series.counters home.0 steps.counters) j;
        gauges = sym (noted_shown idle moment kinds.Gauge (λ made. refl) old.series.gauges new.series.gauges home.1 steps.gauges) j;
        histograms = sym sampled j;
        made = steps.made j;
        published = (steps.said j).published;
        pending = (steps.said j).pending;
        limit = (steps.settings j).series_limit;
        redirected = steps.redirected j;
      })

  -- a page shows all of it: each sample is recorded
  pub steps_shown : state_shown new ≡ state_of new
  steps_shown =
      ap (λ l. record (state_of new) { histograms = l }) (whole-shown new.series.histograms (counted-whole idle moment steps.drained new.series.histograms steps.histograms drained_whole))

  pub steps_page : written_body moment new ≡ written_page moment old
  steps_page = ap (λ s. body_text (families_written new.settings moment s)) steps_shown ∙ (λ j. body_text (families_written (steps.settings j) moment (steps_state j)))
