-- The families that a state shows can stand on a page.
use Rattle.std.proofs.Common.{◌≡◌, ℕ, ◌<◌, List, [], ◌∷◌, ◌++◌, length, refl, sym, arith, Bool, true, false, map, length-append, subst, rules}
use Rattle.std.specs.Prelude.{Option, Some, None, IfSome, filter, filter_map, flat_map, not, ℤ, pos, bytes_eq, codes, if◌then◌else◌}
use Rattle.std.specs.List.{AllByRecursion, cons_option}
use Rattle.std.proofs.lemmas.Slice.Eq.{bytes_eq-Decides}
use Rattle.std.proofs.lemmas.List.Elements.{All-from_recursion}
use Rattle.metrics_core.specs.declared.kinds.MetricKind.{MetricKind}
use Rattle.metrics_core.specs.declared.kinds.MetricKind.TheVariants as kinds
use Rattle.metrics_core.specs.Keys.{LabelText}
use Rattle.metrics_core.specs.Numbers.{page_number}
use Rattle.prom_format.specs.Names.{IsMetricName, IsLabelName, sanitized_metric_name}
use Rattle.prom_format.specs.Lines.{shown_label}
use Rattle.prom_format.specs.Pages.{Row, IsPrintable, IsPrintableRow, IsPage, page_text}
use Rattle.prom_format.specs.declared.families.FamilyType.{FamilyType}
use Rattle.prom_format.proofs.NameLaws.{sanitized_metric_name-is_name, sanitized_label_name-is_name, full_name-is_name}
use Rattle.prom_format.proofs.PageText.{page_read}
use Rattle.name_counts.specs.Counts.{NameCount}
use Rattle.prom_exporter.specs.State.{Series, PrometheusState, live}
use Rattle.prom_exporter.specs.Families.{ExporterSettings, Windows, families_by, family_of, row_of, one_label, shown_unit, counter_suffix, counter_rows, gauge_rows, histogram_rows, summary_rows, sum_and_count_rows, distinct, names_of_kind, series_named, distribution_of, distribution_family, overflow_row, overflow_families}
use Rattle.distributions.specs.Kinds.{DistributionKind, NativeHistogram, Histogram, Summary}
use Rattle.metrics_registry.specs.Quantiles.{clamped}

-- ---- lists

all_append : {A : Type 0} (P : A → Type 0) (xs ys : List A) → AllByRecursion P xs → AllByRecursion P ys → AllByRecursion P (xs ++ ys)
all_append P [] ys h k = k
all_append P (x ∷ xs) ys h k = (h.0, all_append P xs ys h.1 k)

all_map : {A B : Type 0} (P : B → Type 0) (f : A → B) → ((x : A) → P (f x)) → (xs : List A) → AllByRecursion P (map f xs)
all_map P f h [] = tt
all_map P f h (x ∷ xs) = (h x, all_map P f h xs)

all_filter : {A : Type 0} (P : A → Type 0) (q : A → Bool) (xs : List A) → AllByRecursion P xs → AllByRecursion P (filter q xs)
all_filter P q [] h = tt
all_filter P q (x ∷ xs) h = by (q x) (all_filter P q xs h.1)
  where
    by : (b : Bool) → AllByRecursion P (filter q xs) → AllByRecursion P (if b then x ∷ filter q xs else filter q xs)
    by true rest = (h.0, rest)
    by false rest = rest

all_weaker : {A : Type 0} (P Q : A → Type 0) → ((x : A) → P x → Q x) → (xs : List A) → AllByRecursion P xs → AllByRecursion Q xs
all_weaker P Q f [] h = tt
all_weaker P Q f (x ∷ xs) h = (f x h.0, all_weaker P Q f xs h.1)

-- ---- names that stand once

all_distinct : (P : List ℕ → Type 0) (xs : List (List ℕ)) → AllByRecursion P xs → AllByRecursion P (distinct xs)
all_distinct P [] h = tt
all_distinct P (x ∷ xs) h = (h.0, all_filter P (λ y. not (bytes_eq x y)) (distinct xs) (all_distinct P xs h.1))

-- some element has each name
abbrev HasOne : {A : Type 0} → (A → List ℕ) → List A → List ℕ → Type 0
HasOne f xs name = 0 < length (filter (λ x. bytes_eq (f x) name) xs)

one_more : {A : Type 0} (f : A → List ℕ) (x : A) (xs : List A) (name : List ℕ) → HasOne f xs name → HasOne f (x ∷ xs) name
one_more f x xs name h = by (bytes_eq (f x) name) h
  where
    by : (b : Bool) → HasOne f xs name → 0 < length (if b then x ∷ filter (λ y. bytes_eq (f y) name) xs else filter (λ y. bytes_eq (f y) name) xs)
    by true h = omega arith
    by false h = h

bytes_eq_refl : (name : List ℕ) → bytes_eq name name ≡ true
bytes_eq_refl name = search (rules, bytes_eq-Decides)

first_one : {A : Type 0} (f : A → List ℕ) (x : A) (xs : List A) → HasOne f (x ∷ xs) (f x)
first_one f x xs = let P : Bool → Type 0 = λ b. 0 < length (if b then x ∷ filter (λ y. bytes_eq (f y) (f x)) xs else filter (λ y. bytes_eq (f y) (f x)) xs) in
    subst P (sym (bytes_eq_refl (f x))) (omega arith)

each_has_one : {A : Type 0} (f : A → List ℕ) (xs : List A) → AllByRecursion (HasOne f xs) (distinct (map f xs))
each_has_one f [] = tt
each_has_one f (x ∷ xs) = (
  first_one f x xs,
  all_filter (HasOne f (x ∷ xs)) (λ y. not (bytes_eq (f x) y)) (distinct (map f xs))
      (all_weaker (HasOne f xs) (HasOne f (x ∷ xs)) (one_more f x xs) (distinct (map f xs)) (each_has_one f xs)),
)

-- ---- rows

labels_named : (labels : List LabelText) → AllByRecursion (λ l. IsLabelName l.key) (map shown_label labels)
labels_named labels = all_map (λ (l : LabelText). IsLabelName l.key) shown_label (λ l. sanitized_label_name-is_name l.key) labels

row_printable : (settings : ExporterSettings) (s : PrometheusState) (series : Series) (suffix : Option (List ℕ)) (more : List LabelText) (value : ℤ)
    → IfSome suffix IsMetricName → AllByRecursion (λ l. IsLabelName l.key) more → IsPrintableRow (row_of settings s series suffix more value)
row_printable settings s series suffix more value named labelled = record {
  named = full_name-is_name (sanitized_metric_name series.key.name) (shown_unit settings s (sanitized_metric_name series.key.name)) suffix (sanitized_metric_name-is_name series.key.name) named;
  labels = All-from_recursion (λ (l : LabelText). IsLabelName l.key) _ (all_append (λ (l : LabelText). IsLabelName l.key) _ more (labels_named _) labelled);
}

-- rows that can stand on a page, at least one
abbrev AreRowsOf : List Row → Type 0
AreRowsOf rows = AllByRecursion IsPrintableRow rows × (0 < length rows)

suffix_named : (settings : ExporterSettings) → IfSome (counter_suffix settings) IsMetricName
suffix_named settings = by settings.total_suffix
  where
    by : (b : Bool) → IfSome (if b then Some (codes "total") else None) IsMetricName
    by true = refl
    by false = tt

counter_printable : (settings : ExporterSettings) (s : PrometheusState) (series : Series) → AreRowsOf (counter_rows settings s series)
counter_printable settings s series = ((row_printable settings s series (counter_suffix settings) [] _ (suffix_named settings) tt, tt), omega arith)

gauge_printable : (settings : ExporterSettings) (s : PrometheusState) (series : Series) → AreRowsOf (gauge_rows settings s series)
gauge_printable settings s series = ((row_printable settings s series None [] _ tt tt, tt), omega arith)

sum_and_count_printable : (settings : ExporterSettings) (s : PrometheusState) (series : Series) (values : List ℤ) → AllByRecursion IsPrintableRow (sum_and_count_rows settings s series values)
sum_and_count_printable settings s series values =
    (row_printable settings s series (Some (codes "sum")) [] _ refl tt, (row_printable settings s series (Some (codes "count")) [] _ refl tt, tt))

some_behind : {A : Type 0} (xs : List A) (y : A) (ys : List A) → 0 < length (xs ++ y ∷ ys)
some_behind xs y ys = omega (arith, length-append xs (y ∷ ys))

histogram_printable : (settings : ExporterSettings) (s : PrometheusState) (bounds : List ℤ) (series : Series) → AreRowsOf (histogram_rows settings s bounds series)
histogram_printable settings s bounds series = (
  all_append IsPrintableRow _ _
      (all_map IsPrintableRow _ (λ bound. row_printable settings s series (Some (codes "bucket")) (one_label (codes "le") (page_number bound)) _ refl (refl, tt)) bounds)
      (row_printable settings s series (Some (codes "bucket")) (one_label (codes "le") (codes "+Inf")) _ refl (refl, tt), sum_and_count_printable settings s series _),
  some_behind _ _ _,
)

summary_printable : (settings : ExporterSettings) (s : PrometheusState) (windows : Windows) (series : Series) → AreRowsOf (summary_rows settings s windows series)
summary_printable settings s windows series = (
  all_append IsPrintableRow _ _
      (all_map IsPrintableRow _ (λ q. row_printable settings s series None (one_label (codes "quantile") (page_number (pos (clamped q)))) _ tt (refl, tt)) settings.quantiles)
      (sum_and_count_printable settings s series _),
  some_behind _ _ _,
)

-- ---- families

all_rows : (rows : Series → List Row) → ((series : Series) → AreRowsOf (rows series)) → (series : List Series) → AllByRecursion IsPrintableRow (flat_map rows series)
all_rows rows h [] = tt
all_rows rows h (x ∷ xs) = all_append IsPrintableRow (rows x) (flat_map rows xs) (h x).0 (all_rows rows h xs)

some_rows : (rows : Series → List Row) → ((series : Series) → AreRowsOf (rows series)) → (series : List Series) → 0 < length series → 0 < length (flat_map rows series)
some_rows rows h [] some = omega (arith, some)
some_rows rows h (x ∷ xs) some = omega (arith, length-append (rows x) (flat_map rows xs), (h x).1)

-- a name of a kind of live series
abbrev IsNameOf : MetricKind → PrometheusState → List ℕ → Type 0
IsNameOf kind s name = IsMetricName name × (0 < length (series_named kind s name))

names_are : (kind : MetricKind) (s : PrometheusState) → AllByRecursion (IsNameOf kind s) (names_of_kind kind s)
names_are kind s = both (names_of_kind kind s)
    (all_distinct IsMetricName _ (all_map IsMetricName (λ (series : Series). sanitized_metric_name series.key.name) (λ series. sanitized_metric_name-is_name series.key.name) (live kind s)))
    (each_has_one (λ (series : Series). sanitized_metric_name series.key.name) (live kind s))
  where
    both : (names : List (List ℕ)) → AllByRecursion IsMetricName names → AllByRecursion (HasOne (λ (series : Series). sanitized_metric_name series.key.name) (live kind s)) names → AllByRecursion (IsNameOf kind s) names
    both [] h k = tt
    both (n ∷ names) h k = ((h.0, k.0), both names h.1 k.1)

family_printable : (settings : ExporterSettings) (s : PrometheusState) (kind : MetricKind) (name : List ℕ) (suffix : Option (List ℕ)) (type : FamilyType) (rows : Series → List Row)
    → IfSome suffix IsMetricName → ((series : Series) → AreRowsOf (rows series)) → IsNameOf kind s name → IsPrintable (family_of settings s kind name suffix type rows)
family_printable settings s kind name suffix type rows named h is = record {
  named = full_name-is_name name (shown_unit settings s name) suffix is.0 named;
  rows = All-from_recursion IsPrintableRow _ (all_rows rows h (series_named kind s name));
  some_row = some_rows rows h (series_named kind s name) is.1;
}

all_mapped : {A B : Type 0} (P : A → Type 0) (Q : B → Type 0) (f : A → B) → ((x : A) → P x → Q (f x)) → (xs : List A) → AllByRecursion P xs → AllByRecursion Q (map f xs)
all_mapped P Q f g [] h = tt
all_mapped P Q f g (x ∷ xs) h = (g x h.0, all_mapped P Q f g xs h.1)

distribution_printable : (settings : ExporterSettings) (s : PrometheusState) (windows : Windows) (name : List ℕ) (d : DistributionKind) → IsNameOf kinds.Histogram s name → IfSome (distribution_family settings s windows name d) IsPrintable
distribution_printable settings s windows name (NativeHistogram config) is = tt
distribution_printable settings s windows name (Histogram bounds) is = family_printable settings s kinds.Histogram name None _ (histogram_rows settings s bounds) tt (histogram_printable settings s bounds) is
distribution_printable settings s windows name (Summary summary) is = family_printable settings s kinds.Histogram name None _ (summary_rows settings s windows) tt (summary_printable settings s windows) is

first_too : {B : Type 0} (Q : B → Type 0) (o : Option B) (ys : List B) → IfSome o Q → AllByRecursion Q ys → AllByRecursion Q (cons_option o ys)
first_too Q None ys q rest = rest
first_too Q (Some y) ys q rest = (q, rest)

all_filter_mapped : {A B : Type 0} (P : A → Type 0) (Q : B → Type 0) (f : A → Option B) → ((x : A) → P x → IfSome (f x) Q) → (xs : List A) → AllByRecursion P xs → AllByRecursion Q (filter_map f xs)
all_filter_mapped P Q f g [] h = tt
all_filter_mapped P Q f g (x ∷ xs) h = first_too Q (f x) (filter_map f xs) (g x h.0) (all_filter_mapped P Q f g xs h.1)

overflow_row_printable : (redirected : NameCount) → IsPrintableRow (overflow_row redirected)
overflow_row_printable redirected = record {
  named = refl;
  labels = All-from_recursion (λ (l : LabelText). IsLabelName l.key) (overflow_row redirected).labels (refl, (refl, tt));
}

overflow_printable : (redirected : List NameCount) → AllByRecursion IsPrintable (overflow_families redirected)
overflow_printable [] = tt
overflow_printable (first ∷ others) = (
  record {
    named = refl;
    rows = All-from_recursion IsPrintableRow (map overflow_row (first ∷ others)) (all_map IsPrintableRow overflow_row overflow_row_printable (first ∷ others));
    some_row = omega arith;
  },
  tt,
)

families_printable : (settings : ExporterSettings) (windows : Windows) (s : PrometheusState) → AllByRecursion IsPrintable (families_by settings windows s)
families_printable settings windows s =
    all_append IsPrintable _ _
    (all_append IsPrintable _ _
    (all_append IsPrintable _ _
    (all_mapped (IsNameOf kinds.Counter s) IsPrintable _ (λ name is. family_printable settings s kinds.Counter name (counter_suffix settings) _ (counter_rows settings s) (suffix_named settings) (counter_printable settings s) is) _ (names_are kinds.Counter s))
    (all_mapped (IsNameOf kinds.Gauge s) IsPrintable _ (λ name is. family_printable settings s kinds.Gauge name None _ (gauge_rows settings s) tt (gauge_printable settings s) is) _ (names_are kinds.Gauge s)))
    (all_filter_mapped (IsNameOf kinds.Histogram s) IsPrintable _ (λ name is. distribution_printable settings s windows name (distribution_of settings name) is) _ (names_are kinds.Histogram s)))
    (overflow_printable s.redirected)

-- the text of the families of a state is a page of exactly these families, whatever is answered of windows
pub page_reads : (settings : ExporterSettings) (windows : Windows) (s : PrometheusState) → IsPage (page_text (families_by settings windows s)) (families_by settings windows s)
page_reads settings windows s = page_read (families_by settings windows s) (All-from_recursion IsPrintable _ (families_printable settings windows s))
