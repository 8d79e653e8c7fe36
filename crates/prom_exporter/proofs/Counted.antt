-- Histograms whose updates a page counted: where all samples are recorded, those of the page step stay.
use Rattle.std.proofs.Common.{◌≡◌, ℕ, ◌+◌, ◌≤◌, Bool, true, false, cond, List, [], ◌∷◌, map, filter_map, length, length-append, Option, None, Some, refl, sym, ap, subst, ◌∙◌, arith}
use Rattle.std.specs.Prelude.{All, is_some, option_map, unwrap_or, replicate}
use Rattle.std.specs.List.{cons_option}
use Rattle.std.specs.Borrow.{MutBor}
use Rattle.std.specs.Fn.{Mut, Called}
use Rattle.std.proofs.lemmas.List.{length-replicate}
use Rattle.std.proofs.lemmas.List.Elements.{All-nil, All-head, All-tail, All-cons}
use Rattle.metrics_core.specs.declared.kinds.MetricKind.TheVariants as kinds
use Rattle.metrics_core.specs.declared.kinds.SeriesId.{SeriesId}
use Rattle.metrics_core.specs.Numbers.{in_64_bits}
use Rattle.metrics_core.specs.Calls.{samples}
use Rattle.metrics_registry.specs.Live.{LiveSeries}
use Rattle.metrics_registry.specs.Recency.{Idle, note_left}
use Rattle.metrics_registry.specs.Retained.{AskedAt, Retains}
use Rattle.histogram_series.specs.Entries.{TimedEntry, records_of, samples_of_entry, samples_of_entries}
use Rattle.histogram_series.specs.Series.{SampleSeries, entries, recorded, all_samples}
use Rattle.rolling_summaries.specs.Standing.{NeverFall, NoneAfter}
use Rattle.prom_format.specs.Names.{sanitized_metric_name}
use Rattle.prom_exporter.specs.State.{Series, count_of_updates, kept_at}
use Rattle.prom_exporter.specs.Families.{ExporterSettings, distribution_of}
use Rattle.prom_exporter.specs.Kept.{HaveKinds}
use Rattle.prom_exporter.specs.Rows.{keys_of}
use Rattle.prom_exporter.specs.Sampled.{Sampled, IsAtRest, IsTimely, calls_known, calls_recorded, updates_of}
use Rattle.prom_exporter.specs.Values.{series_of, sampled_series}
use Rattle.prom_exporter.specs.Stepped.{IsCounted, AreCounted}
use Rattle.prom_exporter.proofs.Drained.{IsWhole, AtRest, AreWhole}

-- the number of updates is that of the samples
pub length-samples : (es : List TimedEntry) → length (samples (records_of es)) ≡ length (samples_of_entries es)
length-samples [] = refl
length-samples (e ∷ es) =
    length-append (replicate e.count e.item.0.0) (samples (records_of es))
    ∙ (λ j. length-replicate e.count e.item.0.0 j + length-samples es j)
    ∙ sym (length-append (samples_of_entry e) (samples_of_entries es) ∙ ap (λ n. n + length (samples_of_entries es)) (length-replicate e.count _))

-- a histogram as a state sees it
abbrev pub known : LiveSeries Sampled → Series
known e = series_of (sampled_series calls_known e)

abbrev pub all_known : List (LiveSeries Sampled) → List Series
all_known es = map series_of (map (sampled_series calls_known) es)

abbrev pub all_recorded : List (LiveSeries Sampled) → List Series
all_recorded es = map series_of (map (sampled_series calls_recorded) es)

pub updates-known : (e : LiveSeries Sampled) → IsWhole e.cell → updates_of e.cell ≡ count_of_updates kinds.Histogram (known e)
updates-known e whole = ap in_64_bits (ap (λ es. length (samples_of_entries es)) whole ∙ sym (length-samples (entries e.cell.series)))

-- where all samples are recorded, what a page shows is what the state sees
pub whole-shown : (es : List (LiveSeries Sampled)) → AreWhole es → all_recorded es ≡ all_known es
whole-shown [] whole = refl
whole-shown (e ∷ es) whole =
    let own = All-head (λ (s : LiveSeries Sampled). IsWhole s.cell) e es whole in
    let rest = whole-shown es (All-tail (λ (s : LiveSeries Sampled). IsWhole s.cell) e es whole) in
    (λ j. record (known e) { calls = records_of (own j) } ∷ rest j)

-- ---- series that stay, among those of a kind

module _ {X : Type 0} where
  pub fewer_step : (e : LiveSeries X) (old rest : List (LiveSeries X)) (cell : X) (stays : Bool) → length rest ≤ length old → length (cond stays (record e { cell = cell } ∷ rest) rest) ≤ length (e ∷ old)
  fewer_step e old rest cell true less = omega (arith, less)
  fewer_step e old rest cell false less = omega (arith, less)

  pub keys_step : (e : LiveSeries X) (old rest : List (LiveSeries X)) (cell : X) (stays : Bool) → length rest ≤ length old → (length old ≤ length rest → keys_of rest ≡ keys_of old)
      → length (e ∷ old) ≤ length (cond stays (record e { cell = cell } ∷ rest) rest) → keys_of (cond stays (record e { cell = cell } ∷ rest) rest) ≡ keys_of (e ∷ old)
  keys_step e old rest cell true less same many = ap (λ l. e.key ∷ l) (same (omega (arith, many)))
  keys_step e old rest cell false less same many = absurd (omega (arith, less, many))

-- ---- histograms

module _ (idle : Option Idle) (moment : ℕ) where
  -- they are not more than there were
  pub counted_fewer : (old new : List (LiveSeries Sampled)) → AreCounted idle moment old new → length new ≤ length old
  counted_fewer [] new is = let none : length new ≡ 0 = ap length is in omega (arith, none)
  counted_fewer (e ∷ old) new (stays, cell, rest, counted, others, is) = subst (λ (l : List (LiveSeries Sampled)). length l ≤ length (e ∷ old)) (sym is) (fewer_step e old rest cell stays (counted_fewer old rest others))

  -- where they are as many, they have the same keys
  pub counted_keys : (old new : List (LiveSeries Sampled)) → AreCounted idle moment old new → length old ≤ length new → keys_of new ≡ keys_of old
  counted_keys [] new is many = ap keys_of is
  counted_keys (e ∷ old) new (stays, cell, rest, counted, others, is) many =
      ap keys_of is ∙ keys_step e old rest cell stays (counted_fewer old rest others) (counted_keys old rest others) (subst (λ (l : List (LiveSeries Sampled)). length (e ∷ old) ≤ length l) is many)

  -- what holds of each that stays, where it held of each before
  pub counted-all : (P : LiveSeries Sampled → Type 0) → ((s : LiveSeries Sampled) (cell : Sampled) → cell.series ≡ s.cell.series → P s → P (record s { cell = cell }))
      → (old new : List (LiveSeries Sampled)) → AreCounted idle moment old new → All P old → All P new
  counted-all P each [] new is all = subst (All P) (sym is) (All-nil P)
  counted-all P each (s ∷ old) new (stays, cell, rest, counted, others, is) all =
      let own = each s cell (ap (λ (c : Sampled). c.series) counted.left) (All-head P s old all) in
      let later = counted-all P each old rest others (All-tail P s old all) in
      subst (All P) (sym is) (elim stays as (λ b. All P (cond b (record s { cell = cell } ∷ rest) rest)) [
        | true ↦ All-cons P (record s { cell = cell }) rest own later
        | false ↦ later
      ])

  pub counted-rest : (old new : List (LiveSeries Sampled)) → AreCounted idle moment old new → AtRest old → AtRest new
  counted-rest = counted-all (λ s. IsAtRest s.cell) (λ s cell same rest. (ap (λ (x : SampleSeries). x.root.number) same ∙ rest.0, ap (λ (x : SampleSeries). x.root.out) same ∙ rest.1))

  pub counted-whole : (old new : List (LiveSeries Sampled)) → AreCounted idle moment old new → AreWhole old → AreWhole new
  counted-whole = counted-all (λ s. IsWhole s.cell) (λ s cell same whole. ap recorded same ∙ whole ∙ sym (ap entries same))

  pub counted-timely : (t : ℕ) (old new : List (LiveSeries Sampled)) → AreCounted idle moment old new → All (λ (s : LiveSeries Sampled). IsTimely t s.cell) old → All (λ (s : LiveSeries Sampled). IsTimely t s.cell) new
  counted-timely t = counted-all (λ s. IsTimely t s.cell) (λ s cell same timely. subst (λ (x : SampleSeries). NeverFall (all_samples x) × NoneAfter t (all_samples x)) (sym same) timely)

  pub counted-kinds : (settings : ExporterSettings) (old new : List (LiveSeries Sampled)) → AreCounted idle moment old new → HaveKinds settings old → HaveKinds settings new
  counted-kinds settings = counted-all (λ s. s.cell.series.kind ≡ distribution_of settings (sanitized_metric_name s.key.name)) (λ s cell same kind. ap (λ (x : SampleSeries). x.kind) same ∙ kind)

  -- ---- with all samples recorded

  -- what the page step makes of a histogram, whose note is then this
  counted_step : (e : LiveSeries Sampled) (rest : List (LiveSeries Sampled)) (note : Option (Option (ℕ × ℕ))) (tail : List Series) → tail ≡ all_known rest
      → cons_option (option_map (λ n. record (known e) { note = n }) note) tail ≡ all_known (cond (is_some note) (record e { cell = record e.cell { note = unwrap_or note e.cell.note } } ∷ rest) rest)
  counted_step e rest None tail same = same
  counted_step e rest (Some n) tail same = ap (λ l. record (known e) { note = n } ∷ l) same

  -- the histograms that stay are those of the page step
  pub counted-known : (old new : List (LiveSeries Sampled)) → AreWhole old → AreCounted idle moment old new → filter_map (kept_at idle moment kinds.Histogram) (all_known old) ≡ all_known new
  counted-known [] new whole is = ap all_known (sym is)
  counted-known (e ∷ old) new whole (stays, cell, rest, counted, others, is) =
      let here = All-head (λ (s : LiveSeries Sampled). IsWhole s.cell) e old whole in
      let left : Option (Option (ℕ × ℕ)) = note_left idle kinds.Histogram e.cell.note (updates_of e.cell) moment in
      let tail = counted-known old rest (All-tail (λ (s : LiveSeries Sampled). IsWhole s.cell) e old whole) others in
      ap (λ n. cons_option (option_map (λ m. record (known e) { note = m }) (note_left idle kinds.Histogram e.cell.note n moment)) (filter_map (kept_at idle moment kinds.Histogram) (all_known old))) (sym (updates-known e here))
      ∙ counted_step e rest left _ tail
      ∙ sym (ap all_known (is ∙ (λ j. cond (counted.stays_is j) (record e { cell = counted.left j } ∷ rest) rest)))

-- what is counted by one rule is counted by another that leaves the same
pub counted_under : (idle other : Option Idle) (moment : ℕ) → ((note : Option (ℕ × ℕ)) (count t : ℕ) → note_left idle kinds.Histogram note count t ≡ note_left other kinds.Histogram note count t)
    → (old new : List (LiveSeries Sampled)) → AreCounted idle moment old new → AreCounted other moment old new
counted_under idle other moment same [] new is = is
counted_under idle other moment same (e ∷ old) new (stays, cell, rest, counted, others, is) =
    let rule = same e.cell.note (updates_of e.cell) moment in (
      stays,
      cell,
      rest,
      record {
        stays_is = counted.stays_is ∙ ap is_some rule;
        left = counted.left ∙ ap (λ n. record e.cell { note = unwrap_or n e.cell.note }) rule;
      },
      counted_under idle other moment same old rest others,
      is,
    )

-- ---- a test that counts the updates of each histogram

module _ (idle : Option Idle) (moment : ℕ) {K : Type 0} (g : Mut K (SeriesId × (MutBor Sampled × Unit {0})) (Bool × (MutBor Sampled × Unit {0}))) (Is : K → Type 0)
    (says : (f : K) (id : SeriesId) (cell : MutBor Sampled) (b : Bool) (left : MutBor Sampled) (f' : K) → Is f → Called g f (id, (cell, tt)) (b, (left, tt)) f' → Is f' × IsCounted idle moment cell.now b left.now) where
  asked : (f : K) (id : SeriesId) (cell : Sampled) (b : Bool) (left : Sampled) (f' : K) → Is f → AskedAt g f id cell b left f' → Is f' × IsCounted idle moment cell b left
  asked f id cell b left f' is a = rw (← a.shows, ← a.leaves) (says f id a.lent b a.left f' is a.called)

  pub retains_counted : (f : K) (live kept : List (LiveSeries Sampled)) (last : K) → Is f → Retains g f live kept last → AreCounted idle moment live kept
  retains_counted f [] kept last is done = done.0
  retains_counted f (series ∷ live) kept last is done =
      let own = asked f series.id series.cell done.0 done.1 done.2 is done.4 in
      (done.0, done.1, done.3, own.1, retains_counted done.2 live done.3 last own.0 done.5, done.6)
