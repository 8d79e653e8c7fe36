use Rattle.std.specs.Prelude.{◌≡◌, ℕ, negsuc, codes, refl, List, [], ◌∷◌, ◌++◌, false, Some, None}
use Rattle.std.specs.Fmt.{digits}
use Rattle.std.specs.Str.{chars}
use Rattle.metrics_core.specs.Numbers.{whole}
use Rattle.metrics_core.specs.Keys.{LabelText}
use Rattle.metrics_core.specs.declared.units.Unit.TheVariants.{Seconds, Bytes}
use Rattle.prom_format.specs.Names.{sanitized_metric_name, sanitized_label_name, full_name}
use Rattle.prom_format.specs.Printed.{printed_label_value}
use Rattle.prom_format.specs.Pages.{Row, row_text, page_text}
use Rattle.prom_format.specs.Lines.{metric_line, help_line}
use Rattle.prom_format.specs.Matchers.{Suffix, Prefix, Full, sanitized_matcher, fits, rule_for}
use Rattle.prom_format.specs.declared.families.FamilyType.TheVariants.{Counter, Gauge}

pub digits_become_underscores : sanitized_metric_name (codes "123") ≡ codes "_23"
unfolding chars
digits_become_underscores = refl

pub colons_stay : sanitized_metric_name (codes "foo1:bar2") ≡ codes "foo1:bar2"
unfolding chars
colons_stay = refl

pub star_becomes_underscore : sanitized_metric_name (codes "*") ≡ codes "_"
unfolding chars
star_becomes_underscore = refl

pub no_colon_in_labels : sanitized_label_name (codes ":") ≡ codes "_"
unfolding chars
no_colon_in_labels = refl

-- `1é b`, where é has two bytes
pub a_character_of_two_bytes : sanitized_metric_name (codes "1" ++ 195 ∷ 169 ∷ codes " b") ≡ codes "___b"
unfolding chars
a_character_of_two_bytes = refl

pub empty_name : sanitized_metric_name [] ≡ codes "_"
unfolding chars
empty_name = refl

pub one_backslash : printed_label_value (92 ∷ []) ≡ 92 ∷ 92 ∷ []
one_backslash = refl

pub two_backslashes : printed_label_value (92 ∷ 92 ∷ []) ≡ 92 ∷ 92 ∷ []
two_backslashes = refl

pub backslash_quote : printed_label_value (92 ∷ 34 ∷ []) ≡ 92 ∷ 34 ∷ []
backslash_quote = refl

pub backslash_newline : printed_label_value (92 ∷ 10 ∷ 98 ∷ []) ≡ 92 ∷ 110 ∷ 92 ∷ 92 ∷ 98 ∷ []
backslash_newline = refl

pub unit_before_suffix : full_name (codes "lat_total") (Some Seconds) (Some (codes "total")) ≡ codes "lat_seconds_total"
unit_before_suffix = refl

pub unit_before_total : full_name (codes "foo_total") (Some Bytes) (Some (codes "total")) ≡ codes "foo_bytes_total"
unit_before_total = refl

pub count_in_account : full_name (codes "account") None (Some (codes "count")) ≡ codes "account"
count_in_account = refl

pub row_line : row_text (record { name = full_name (codes "lat_total") (Some Seconds) (Some (codes "total")); labels = []; value = whole 5 }) ≡ codes "lat_seconds_total 5\n"
unfolding digits
row_line = refl

-- the same by the call, with one more label
pub written_line : metric_line (codes "lat_total") (Some (codes "total")) [] None (codes "5") (Some Seconds) ≡ codes "lat_seconds_total 5\n"
written_line = refl

pub written_labels : metric_line (codes "h") (Some (codes "bucket")) (record { key = codes "a"; value = codes "\n" } ∷ []) (Some (codes "le", codes "+Inf")) (codes "4") None ≡ codes "h_bucket{a=\"\\n\",le=\"+Inf\"} 4\n"
unfolding chars
written_labels = refl

pub written_help : help_line (codes "a") None None (codes "say \"x\"") ≡ codes "# HELP a say \"x\"\n"
written_help = refl

pub suffix_sanitized : sanitized_matcher (Suffix (codes "5xx")) ≡ Suffix (codes "_xx")
unfolding chars
suffix_sanitized = refl

pub suffix_misses : fits (sanitized_matcher (Suffix (codes "5xx"))) (codes "http_5xx") ≡ false
unfolding chars
suffix_misses = refl

abbrev one_row : List ℕ → List LabelText → ℕ → Row
one_row name labels n = record { name = name; labels = labels; value = whole n }

pub basic_counter_page : page_text (record { help = None; name = codes "basic_counter"; type = Counter; rows = one_row (codes "basic_counter") [] 42 ∷ [] } ∷ [])
    ≡ codes "# TYPE basic_counter counter\nbasic_counter 42\n\n# EOF\n"
unfolding digits
basic_counter_page = refl

pub label_page : page_text (record { help = None; name = codes "basic_gauge"; type = Gauge; rows = record { name = codes "basic_gauge"; labels = record { key = codes "wutang"; value = codes "forever" } ∷ []; value = negsuc 3139999999 } ∷ [] } ∷ [])
    ≡ codes "# TYPE basic_gauge gauge\nbasic_gauge{wutang=\"forever\"} -3.14\n\n# EOF\n"
unfolding digits
label_page = refl

-- a whole name goes before a prefix, and of equal matchers the last counts
pub whole_names_first : rule_for {X = ℕ} ((Prefix (codes "h"), 1) ∷ (Full (codes "ha"), 2) ∷ []) (codes "ha") ≡ Some (Full (codes "ha"), 2)
whole_names_first = refl

pub the_last_counts : rule_for {X = ℕ} ((Prefix (codes "h"), 1) ∷ (Prefix (codes "h"), 2) ∷ []) (codes "ha") ≡ Some (Prefix (codes "h"), 2)
the_last_counts = refl

pub none_fits : rule_for {X = ℕ} ((Prefix (codes "h"), 1) ∷ []) (codes "a") ≡ None
none_fits = refl
