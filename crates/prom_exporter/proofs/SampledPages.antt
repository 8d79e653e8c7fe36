-- The blocks of the histograms' families: what is kept for them, and the text that it makes.
use Rattle.std.proofs.Common.{◌≡◌, ℕ, suc, ◌+◌, Bool, true, false, List, [], ◌∷◌, ◌++◌, map, filter, None, Some, refl, sym, ap, ◌∙◌, arith, add-zero, zero-add}
use Rattle.std.specs.Prelude.{Option, option_map, flat_map, filter_map, slice_get, bytes_eq, codes}
use Rattle.std.specs.List.{AllByRecursion, enumerate_from, cons_option}
use Rattle.std.proofs.lemmas.Grind.{flat_map-append}
use Rattle.std.proofs.lemmas.Option.{none-some, same_Some, slice_get-map}
use Rattle.std.proofs.lemmas.Slice.Eq.{bytes_eq-Decides}
use Rattle.metrics_core.specs.Characters.{line}
use Rattle.metrics_core.specs.Keys.{LabelText}
use Rattle.metrics_core.specs.declared.kinds.MetricKind.TheVariants as kinds
use Rattle.metrics_registry.specs.Live.{LiveSeries, RegistryText}
use Rattle.prom_format.specs.Names.{sanitized_metric_name}
use Rattle.prom_format.specs.Lines.{shown_label_set}
use Rattle.prom_format.specs.Pages.{Row, Family, row_text, block_text, body_text, label_set_text}
use Rattle.distributions.specs.Kinds.{DistributionKind, NativeHistogram, Histogram, Summary, DistributionRules}
use Rattle.prom_exporter.specs.State.{Series, PrometheusState}
use Rattle.prom_exporter.specs.Families.{ExporterSettings, distinct, names_of_kind, distribution_of, distribution_family, rules_of_settings, histogram_rows, summary_rows, kept_window}
use Rattle.prom_exporter.specs.Exporter.{Exporter, with_rest}
use Rattle.prom_exporter.specs.Kept.{FitsSettings}
use Rattle.prom_exporter.specs.Naming.{NamingText, shown_name, title_text}
use Rattle.prom_exporter.specs.Rows.{RowsText, label_set_of, name_at, places_of, rows_of, keys_of}
use Rattle.prom_exporter.specs.Sampled.{Sampled, calls_recorded}
use Rattle.prom_exporter.specs.SampledRows.{sampled_rows, shown_word, lines_if, lines_at, block_under, sampled_block, HasRowsOf}
use Rattle.prom_exporter.specs.Shared.{Shared}
use Rattle.prom_exporter.specs.Values.{named, grouped, series_of, sampled_series, state_recorded}
use Rattle.prom_exporter.proofs.KeptRows.{placed_key, placed_name, keys-placed, places-placed, grouped-map}
use Rattle.prom_exporter.proofs.SampledRows.{seen, labels, summary-built, histogram_rows-are, summary_rows-are}

abbrev all_seen : List (LiveSeries Sampled) → List Series
all_seen live = map series_of (map (sampled_series calls_recorded) live)

abbrev metric : Series → List ℕ
metric series = sanitized_metric_name series.key.name

module _ (live : List (LiveSeries Sampled)) where
  abbrev all_placed : List (ℕ × LiveSeries Sampled)
  all_placed = enumerate_from 0 live

  abbrev placed_groups : List (List ℕ) → List (List ℕ × List ℕ)
  placed_groups ns = map places_of (map (λ n. (n, named placed_name all_placed n)) ns)

  -- the families that are kept, as groups of series with their places
  families-placed : (globals : List LabelText) → (rows_of globals (keys_of live)).families ≡ placed_groups (distinct (map placed_name all_placed))
  families-placed globals =
      ap (λ l. map places_of (grouped name_at l)) (keys-placed 0 live)
      ∙ ap (map places_of) (grouped-map name_at placed_key all_placed)
      ∙ places-placed (grouped placed_name all_placed)

  -- these series stand behind the first k
  abbrev StandBehind : ℕ → List (LiveSeries Sampled) → Type 0
  StandBehind k xs = (j : ℕ) → slice_get live (k + j) ≡ slice_get xs j

  stand_here : (k : ℕ) (x : LiveSeries Sampled) (xs : List (LiveSeries Sampled)) → StandBehind k (x ∷ xs) → slice_get live k ≡ Some x
  stand_here k x xs behind = ap (slice_get live) (sym (add-zero k)) ∙ behind 0

  stand_later : (k : ℕ) (x : LiveSeries Sampled) (xs : List (LiveSeries Sampled)) → StandBehind k (x ∷ xs) → StandBehind (k + 1) xs
  stand_later k x xs behind j = ap (slice_get live) (let e : k + 1 + j ≡ k + suc j = omega arith in e) ∙ behind (suc j)

-- ---- the text

-- the block of a family, if there is one
abbrev text_if : Option Family → List ℕ
text_if None = []
text_if (Some family) = block_text family

body-cons : (o : Option Family) (families : List Family) → body_text (cons_option o families) ≡ text_if o ++ body_text families
body-cons None families = refl
body-cons (Some family) families = refl

-- each histogram's kind follows from its name
abbrev pub HasKind : ExporterSettings → LiveSeries Sampled → Type 0
HasKind settings e = e.cell.series.kind ≡ distribution_of settings (sanitized_metric_name e.key.name)

names-seen : (k : ℕ) (live : List (LiveSeries Sampled)) → map placed_name (enumerate_from k live) ≡ map metric (all_seen live)
names-seen k [] = refl
names-seen k (e ∷ live) = ap (λ l. sanitized_metric_name e.key.name ∷ l) (names-seen (k + 1) live)

module _ {C G : Type 0} (settings : ExporterSettings) (t : ℕ) (exporter : Exporter) (registry : RegistryText (Shared C) (Shared G) Sampled) where
  abbrev live : List (LiveSeries Sampled)
  live = registry.histograms

  abbrev state : PrometheusState
  state = with_rest exporter (state_recorded registry)

  -- what names follow from
  abbrev naming : NamingText
  naming = record { units = settings.units; published = exporter.said.published }

  -- each series under a name has these rows
  module _ (n : List ℕ) (rows : Series → List Row) (one : (e : LiveSeries Sampled) → sanitized_metric_name e.key.name ≡ n → HasKind settings e → rows (seen e) ≡ sampled_rows t (shown_name naming None n) (labels settings state t e) e.cell) where
    abbrev written : List (ℕ × LiveSeries Sampled) → List ℕ
    written placed = flat_map (lines_at settings.globals t live (shown_name naming None n)) (map (λ p. p.0) (named placed_name placed n))

    abbrev meant : List (LiveSeries Sampled) → List ℕ
    meant xs = flat_map row_text (flat_map rows (filter (λ series. bytes_eq (metric series) n) (all_seen xs)))

    rows_step : (k : ℕ) (x : LiveSeries Sampled) (xs : List (LiveSeries Sampled)) (b : Bool) → bytes_eq (sanitized_metric_name x.key.name) n ≡ b → slice_get live k ≡ Some x → HasKind settings x
        → written (enumerate_from (k + 1) xs) ≡ meant xs → written (enumerate_from k (x ∷ xs)) ≡ meant (x ∷ xs)
    rows_step k x xs true is at kind rest =
        let same : sanitized_metric_name x.key.name ≡ n = (bytes_eq-Decides (sanitized_metric_name x.key.name) n).0 is in
        let here : lines_at settings.globals t live (shown_name naming None n) k ≡ flat_map row_text (rows (seen x)) = ap (lines_if settings.globals t live (shown_name naming None n)) at ∙ sym (ap (flat_map row_text) (one x same kind)) in
        rw is ((λ j. here j ++ rest j) ∙ sym (flat_map-append row_text (rows (seen x)) (flat_map rows (filter (λ series. bytes_eq (metric series) n) (all_seen xs)))))
    rows_step k x xs false is at kind rest = rw is rest

    rows-named : (k : ℕ) (xs : List (LiveSeries Sampled)) → StandBehind live k xs → AllByRecursion (HasKind settings) xs → written (enumerate_from k xs) ≡ meant xs
    rows-named k [] behind have = refl
    rows-named k (x ∷ xs) behind have =
        rows_step k x xs (bytes_eq (sanitized_metric_name x.key.name) n) refl (stand_here live k x xs behind) have.0 (rows-named (k + 1) xs (stand_later live k x xs behind) have.1)

    all_rows-named : AllByRecursion (HasKind settings) live → written (all_placed live) ≡ meant live
    all_rows-named have = rows-named 0 live (λ j. ap (slice_get live) (zero-add j)) have

  module _ (distributions : DistributionRules) (fits : FitsSettings settings distributions) (have : AllByRecursion (HasKind settings) live) where
    abbrev group : List ℕ → List ℕ × List ℕ
    group n = (n, map (λ p. p.0) (named placed_name (all_placed live) n))

    block-by : (n : List ℕ) (kind : DistributionKind) → distribution_of settings n ≡ kind
        → block_under naming settings.globals t live (shown_word kind) (group n) ≡ text_if (distribution_family settings state (kept_window settings t) n kind)
    block-by n (NativeHistogram config) is = refl
    block-by n (Histogram bounds) is =
        let one = λ (e : LiveSeries Sampled) (same : sanitized_metric_name e.key.name ≡ n) (kind : HasKind settings e).
        histogram_rows-are settings state t e bounds (kind ∙ ap (distribution_of settings) same ∙ is) ∙ ap (λ m. sampled_rows t (shown_name naming None m) (labels settings state t e) e.cell) same in
        ap (λ rows. title_text naming None (codes "histogram") n ++ rows ++ line []) (all_rows-named n (histogram_rows settings state bounds) one have)
    block-by n (Summary built) is =
        let from : built ≡ (rules_of_settings settings).summary = summary-built (rules_of_settings settings) n built is in
        let one = λ (e : LiveSeries Sampled) (same : sanitized_metric_name e.key.name ≡ n) (kind : HasKind settings e).
        summary_rows-are settings state t e built from (kind ∙ ap (distribution_of settings) same ∙ is) ∙ ap (λ m. sampled_rows t (shown_name naming None m) (labels settings state t e) e.cell) same in
        ap (λ rows. title_text naming None (codes "summary") n ++ rows ++ line []) (all_rows-named n (summary_rows settings state (kept_window settings t)) one have)

    block-named : (n : List ℕ) → sampled_block naming settings.globals t live distributions (group n) ≡ text_if (distribution_family settings state (kept_window settings t) n (distribution_of settings n))
    block-named n = ap (λ kind. block_under naming settings.globals t live (shown_word kind) (group n)) (fits n) ∙ block-by n (distribution_of settings n) refl

    blocks-named : (ns : List (List ℕ)) → flat_map (sampled_block naming settings.globals t live distributions) (placed_groups live ns)
        ≡ body_text (filter_map (λ n. distribution_family settings state (kept_window settings t) n (distribution_of settings n)) ns)
    blocks-named [] = refl
    blocks-named (n ∷ ns) =
        (λ j. block-named n j ++ blocks-named ns j)
        ∙ sym (body-cons (distribution_family settings state (kept_window settings t) n (distribution_of settings n)) (filter_map (λ m. distribution_family settings state (kept_window settings t) m (distribution_of settings m)) ns))

    -- the blocks are those of the families that a page shows
    pub blocks-sampled : flat_map (sampled_block naming settings.globals t live distributions) (rows_of settings.globals (keys_of live)).families
        ≡ body_text (filter_map (λ n. distribution_family settings state (kept_window settings t) n (distribution_of settings n)) (names_of_kind kinds.Histogram state))
    blocks-sampled =
        ap (flat_map (sampled_block naming settings.globals t live distributions)) (families-placed live settings.globals)
        ∙ ap (λ names. flat_map (sampled_block naming settings.globals t live distributions) (placed_groups live (distinct names))) (names-seen 0 live)
        ∙ blocks-named (distinct (map metric (all_seen live)))

-- ---- the series at a place

-- what is found at a place is a series, whose label set is printed so
pub record IsFoundAt (globals : List LabelText) (live : List (LiveSeries Sampled)) (place : ℕ) (labels : List ℕ) (cell : Sampled) : Type 0 where
  pub series : LiveSeries Sampled
  pub at : slice_get live place ≡ Some series
  pub cell_is : cell ≡ series.cell
  pub labels_are : labels ≡ label_set_text (shown_label_set globals series.key.labels)

found-by : (globals : List LabelText) (live : List (LiveSeries Sampled)) (place : ℕ) (printed : List ℕ) (cell : Sampled) (o : Option (LiveSeries Sampled)) → slice_get live place ≡ o
    → slice_get (map (label_set_of globals) (keys_of live)) place ≡ Some printed → Some cell ≡ option_map (λ (s : LiveSeries Sampled). s.cell) o → IsFoundAt globals live place printed cell
found-by globals live place printed cell None at labels-at cell-at = absurd cc
found-by globals live place printed cell (Some s) at labels-at cell-at =
    let here : slice_get (map (label_set_of globals) (keys_of live)) place ≡ Some (label_set_of globals s.key) =
    slice_get-map (label_set_of globals) (keys_of live) place ∙ ap (option_map (label_set_of globals)) (slice_get-map (λ (series : LiveSeries Sampled). series.key) live place ∙ ap (option_map (λ (series : LiveSeries Sampled). series.key)) at) in
    record {
      series = s;
      at = at;
      cell_is = same_Some cell s.cell cell-at;
      labels_are = same_Some printed (label_set_of globals s.key) (sym labels-at ∙ here);
    }

pub found-at : (globals : List LabelText) (live : List (LiveSeries Sampled)) (rows : RowsText) (place : ℕ) (printed : List ℕ) (cell : Sampled) → HasRowsOf globals live rows
    → slice_get rows.label_sets place ≡ Some printed → Some cell ≡ option_map (λ (s : LiveSeries Sampled). s.cell) (slice_get live place) → IsFoundAt globals live place printed cell
found-at globals live rows place printed cell kept labels-at cell-at =
    found-by globals live place printed cell (slice_get live place) refl (sym (ap (λ (r : RowsText). slice_get r.label_sets place) kept) ∙ labels-at) cell-at

-- its lines
pub found-lines : (globals : List LabelText) (t : ℕ) (live : List (LiveSeries Sampled)) (name : List ℕ) (place : ℕ) (printed : List ℕ) (cell : Sampled) (found : IsFoundAt globals live place printed cell)
    → flat_map row_text (sampled_rows t name (shown_label_set globals found.series.key.labels) cell) ≡ lines_at globals t live name place
found-lines globals t live name place printed cell found =
    ap (λ c. flat_map row_text (sampled_rows t name (shown_label_set globals found.series.key.labels) c)) found.cell_is ∙ sym (ap (lines_if globals t live name) found.at)

-- no label set, or no series: no lines
pub none-found : (globals : List LabelText) (t : ℕ) (live : List (LiveSeries Sampled)) (name : List ℕ) (place : ℕ) → None ≡ option_map (λ (s : LiveSeries Sampled). s.cell) (slice_get live place) → lines_at globals t live name place ≡ []
none-found globals t live name place none = by (slice_get live place) none
  where
    by : (o : Option (LiveSeries Sampled)) → None ≡ option_map (λ (s : LiveSeries Sampled). s.cell) o → lines_if globals t live name o ≡ []
    by None e = refl
    by (Some s) e = absurd cc

pub no_labels-found : (globals : List LabelText) (t : ℕ) (live : List (LiveSeries Sampled)) (rows : RowsText) (name : List ℕ) (place : ℕ) → HasRowsOf globals live rows → slice_get rows.label_sets place ≡ None → lines_at globals t live name place ≡ []
no_labels-found globals t live rows name place kept none = by (slice_get live place) refl
  where
    by : (o : Option (LiveSeries Sampled)) → slice_get live place ≡ o → lines_if globals t live name o ≡ []
    by None e = refl
    by (Some s) e =
        let here : slice_get (map (label_set_of globals) (keys_of live)) place ≡ Some (label_set_of globals s.key) =
        slice_get-map (label_set_of globals) (keys_of live) place ∙ ap (option_map (label_set_of globals)) (slice_get-map (λ (series : LiveSeries Sampled). series.key) live place ∙ ap (option_map (λ (series : LiveSeries Sampled). series.key)) e) in
        absurd (none-some _ (sym none ∙ ap (λ (r : RowsText). slice_get r.label_sets place) kept ∙ here))
