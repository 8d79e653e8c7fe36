-- The page of a state: its families of counters and of gauges are the groups of its series.
use Rattle.std.proofs.Common.{◌≡◌, ℕ, Bool, true, false, List, [], ◌∷◌, ◌++◌, map, filter, None, refl, ap, ◌∙◌, append-nil}
use Rattle.std.specs.Prelude.{Option, bytes_eq, flat_map, filter_map, ℤ}
use Rattle.std.proofs.lemmas.Grind.{flat_map-append}
use Rattle.std.proofs.lemmas.Slice.Eq.{bytes_eq-Decides}
use Rattle.metrics_core.specs.Keys.{LabelText}
use Rattle.metrics_core.specs.declared.kinds.MetricKind.TheVariants as kinds
use Rattle.metrics_registry.specs.Live.{LiveSeries, RegistryText}
use Rattle.prom_format.specs.Names.{sanitized_metric_name}
use Rattle.prom_format.specs.Pages.{Row, Family, body_text, block_text}
use Rattle.prom_format.specs.Lines.{shown_label_set}
use Rattle.prom_format.specs.declared.families.FamilyType.{FamilyType}
use Rattle.prom_format.specs.declared.families.FamilyType.TheVariants as types
use Rattle.prom_exporter.specs.State.{Series, PrometheusState}
use Rattle.prom_exporter.specs.Families.{ExporterSettings, distinct, names_of_kind, counter_suffix, counter_rows, gauge_rows, distribution_of, distribution_family, kept_window, overflow_families}
use Rattle.prom_exporter.specs.Families as pages
use Rattle.prom_exporter.specs.Exporter.{Exporter, with_rest}
use Rattle.prom_exporter.specs.Naming.{NamingText, help_in, shown_name}
use Rattle.prom_exporter.specs.Sampled.{Sampled}
use Rattle.prom_exporter.specs.Shared.{Shared}
use Rattle.prom_exporter.specs.Values.{series_of, seen_series, state_recorded, counter_shown, gauge_shown, named, member_of, metric_name, value_row, value_family, value_families}

abbrev metric : Series → List ℕ
metric series = sanitized_metric_name series.key.name

-- a series of a shared cell, with the calls that are seen of it
abbrev shown_series : {F : Type 0} → LiveSeries (Shared F) → Series
shown_series e = series_of (seen_series e)

abbrev all_shown : {F : Type 0} → List (LiveSeries (Shared F)) → List Series
all_shown es = map series_of (map seen_series es)

names_of_series : {F : Type 0} (es : List (LiveSeries (Shared F))) → map metric (all_shown es) ≡ map metric_name (map member_of es)
names_of_series [] = refl
names_of_series (e ∷ es) = ap (λ l. metric_name (member_of e) ∷ l) (names_of_series es)

-- each series has one row
module _ {F : Type 0} (naming : NamingText) (suffix : Option (List ℕ)) (shown : Shared F → ℤ) (globals : List LabelText) (rows : Series → List Row)
    (one : (e : LiveSeries (Shared F)) → rows (shown_series e) ≡ value_row shown globals (shown_name naming suffix (metric_name (member_of e))) (member_of e) ∷ []) where
  rows_step : (name : List ℕ) (e : LiveSeries (Shared F)) (es : List (LiveSeries (Shared F))) (b : Bool) → bytes_eq (metric_name (member_of e)) name ≡ b
      → flat_map rows (filter (λ series. bytes_eq (metric series) name) (all_shown es)) ≡ map (value_row shown globals (shown_name naming suffix name)) (named metric_name (map member_of es) name)
      → flat_map rows (filter (λ series. bytes_eq (metric series) name) (all_shown (e ∷ es))) ≡ map (value_row shown globals (shown_name naming suffix name)) (named metric_name (map member_of (e ∷ es)) name)
  rows_step name e es true is rest =
      let same : metric_name (member_of e) ≡ name = (bytes_eq-Decides (metric_name (member_of e)) name).0 is in
      rw is ((λ j. one e j ++ rest j) ∙ ap (λ n. value_row shown globals (shown_name naming suffix n) (member_of e) ∷ map (value_row shown globals (shown_name naming suffix name)) (named metric_name (map member_of es) name)) same)
  rows_step name e es false is rest = rw is rest

  rows_named : (name : List ℕ) (es : List (LiveSeries (Shared F)))
      → flat_map rows (filter (λ series. bytes_eq (metric series) name) (all_shown es)) ≡ map (value_row shown globals (shown_name naming suffix name)) (named metric_name (map member_of es) name)
  rows_named name [] = refl
  rows_named name (e ∷ es) = rows_step name e es (bytes_eq (metric_name (member_of e)) name) refl (rows_named name es)

  families_named : (type : FamilyType) (es : List (LiveSeries (Shared F))) (names : List (List ℕ))
      → map (λ name. record { help = help_in naming name; name = shown_name naming suffix name; type = type; rows = flat_map rows (filter (λ series. bytes_eq (metric series) name) (all_shown es)) }) names
      ≡ map (value_family naming suffix type shown globals) (map (λ name. (name, named metric_name (map member_of es) name)) names)
  families_named type es [] = refl
  families_named type es (name ∷ names) = (λ j. record { help = help_in naming name; name = shown_name naming suffix name; type = type; rows = rows_named name es j } ∷ families_named type es names j)

  families_of_kind : (type : FamilyType) (es : List (LiveSeries (Shared F)))
      → map (λ name. record { help = help_in naming name; name = shown_name naming suffix name; type = type; rows = flat_map rows (filter (λ series. bytes_eq (metric series) name) (all_shown es)) }) (distinct (map metric (all_shown es)))
      ≡ value_families naming suffix type shown globals es
  families_of_kind type es =
      ap (λ names. map (λ name. record { help = help_in naming name; name = shown_name naming suffix name; type = type; rows = flat_map rows (filter (λ series. bytes_eq (metric series) name) (all_shown es)) }) (distinct names)) (names_of_series es)
      ∙ families_named type es (distinct (map metric_name (map member_of es)))

abbrev row_of_series : {F : Type 0} → List ℕ → LiveSeries (Shared F) → ℤ → List LabelText → List Row
row_of_series name e value labels = record { name = name; labels = labels; value = value } ∷ []

one_row : {F : Type 0} (name : List ℕ) (globals : List LabelText) (e : LiveSeries (Shared F)) (value : ℤ) → row_of_series name e value (shown_label_set globals e.key.labels ++ []) ≡ row_of_series name e value (shown_label_set globals e.key.labels)
one_row name globals e value = ap (row_of_series name e value) (append-nil (shown_label_set globals e.key.labels))

module _ {C G : Type 0} (settings : ExporterSettings) (t : ℕ) (exporter : Exporter) (registry : RegistryText (Shared C) (Shared G) Sampled) where
  -- the state as far as a page shows it
  abbrev pub shown_state : PrometheusState
  shown_state = with_rest exporter (state_recorded registry)

  -- what names follow from
  abbrev pub naming_of : NamingText
  naming_of = record { units = settings.units; published = exporter.said.published }

  abbrev pub counter_families : List Family
  counter_families = value_families naming_of (counter_suffix settings) types.Counter counter_shown settings.globals registry.counters

  abbrev pub gauge_families : List Family
  gauge_families = value_families naming_of None types.Gauge gauge_shown settings.globals registry.gauges

  -- the families of distributions
  abbrev pub sampled_families : List Family
  sampled_families = filter_map (λ n. distribution_family settings shown_state (kept_window settings t) n (distribution_of settings n)) (names_of_kind kinds.Histogram shown_state)

  families_are : pages.families_written settings t shown_state ≡ ((counter_families ++ gauge_families) ++ sampled_families) ++ overflow_families exporter.redirected
  families_are =
      (λ j.
      families_of_kind naming_of (counter_suffix settings) counter_shown settings.globals (counter_rows settings shown_state)
      (λ e. one_row (shown_name naming_of (counter_suffix settings) (metric_name (member_of e))) settings.globals e (counter_shown e.cell)) types.Counter registry.counters j
      ++ families_of_kind naming_of None gauge_shown settings.globals (gauge_rows settings shown_state)
      (λ e. one_row (shown_name naming_of None (metric_name (member_of e))) settings.globals e (gauge_shown e.cell)) types.Gauge registry.gauges j
      ++ sampled_families
      ++ overflow_families exporter.redirected)

  -- the body of the page is the text of the groups, that of the distributions, and that of what was redirected
  pub body-values : body_text (pages.families_written settings t shown_state)
      ≡ ((body_text counter_families ++ body_text gauge_families) ++ body_text sampled_families) ++ body_text (overflow_families exporter.redirected)
  body-values =
      ap body_text families_are
      ∙ flat_map-append block_text ((counter_families ++ gauge_families) ++ sampled_families) (overflow_families exporter.redirected)
      ∙ ap (λ l. l ++ body_text (overflow_families exporter.redirected))
      (flat_map-append block_text (counter_families ++ gauge_families) sampled_families
      ∙ ap (λ l. l ++ body_text sampled_families) (flat_map-append block_text counter_families gauge_families))
