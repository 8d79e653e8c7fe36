-- The text of the family of redirections.
use Rattle.std.proofs.Common.{◌≡◌, ℕ, zero, suc, ◌<◌, List, [], ◌∷◌, ◌++◌, map, length, refl, ap, ◌∙◌, append-nil, append_assoc, arith}
use Rattle.std.specs.Prelude.{None, codes, flat_map, slice_get}
use Rattle.std.specs.Str.{chars}
use Rattle.metrics_core.specs.Characters.{line}
use Rattle.metrics_core.specs.declared.kinds.MetricKind.{MetricKind}
use Rattle.metrics_core.specs.declared.kinds.MetricKind.TheVariants as kinds
use Rattle.metrics_core.specs.Kinds.{kind_text}
use Rattle.prom_format.specs.Printed.{escaped_label_value}
use Rattle.prom_format.specs.Pages.{row_text, type_line_text, body_text}
use Rattle.prom_format.specs.declared.families.FamilyType.TheVariants as types
use Rattle.name_counts.specs.Counts.{NameCount}
use Rattle.prom_exporter.specs.Families.{overflow_name, overflow_row, overflow_families}

-- ---- a row

-- the word for a kind needs no escape
pub kind-plain : (kind : MetricKind) → escaped_label_value (kind_text kind) ≡ kind_text kind
unfolding chars
kind-plain kinds.Counter = refl
kind-plain kinds.Gauge = refl
kind-plain kinds.Histogram = refl

-- the pieces of a row, pushed one behind the other
pieces : (b name opened metric is v end comma kind k close space n e : List ℕ)
    → (((((((b ++ name) ++ (opened ++ metric ++ is)) ++ v) ++ (end ++ comma ++ kind ++ is)) ++ k) ++ (end ++ close ++ space)) ++ n) ++ e
    ≡ b ++ ((name ++ (opened ++ ((metric ++ is ++ v ++ end) ++ comma ++ (kind ++ is ++ k ++ end)) ++ close) ++ space ++ n) ++ e)
pieces b name opened metric is v end comma kind k close space n e = simp append_assoc

-- the value of the one label, the word for the kind and the number among the others
pub row-pushed : (b v k n : List ℕ) → (((((((b ++ overflow_name) ++ codes "{metric=\"") ++ v) ++ codes "\",kind=\"") ++ k) ++ codes "\"} ") ++ n) ++ 10 ∷ []
    ≡ b ++ line (overflow_name ++ (codes "{" ++ ((codes "metric" ++ codes "=\"" ++ v ++ codes "\"") ++ codes "," ++ (codes "kind" ++ codes "=\"" ++ k ++ codes "\"")) ++ codes "}") ++ codes " " ++ n)
unfolding chars
row-pushed b v k n = pieces b overflow_name (codes "{") (codes "metric") (codes "=\"") v (codes "\"") (codes ",") (codes "kind") k (codes "}") (codes " ") n (10 ∷ [])

-- ---- the family

abbrev pub rows_text : List NameCount → List ℕ
rows_text all = flat_map (λ redirected. row_text (overflow_row redirected)) all

rows-mapped : (all : List NameCount) → flat_map row_text (map overflow_row all) ≡ rows_text all
rows-mapped [] = refl
rows-mapped (c ∷ cs) = ap (λ l. row_text (overflow_row c) ++ l) (rows-mapped cs)

-- where there are none it has no text
pub no-overflow : (all : List NameCount) → length all ≡ 0 → body_text (overflow_families all) ≡ []
no-overflow [] none = refl
no-overflow (c ∷ cs) none = absurd (omega (arith, none))

pub some-overflow : (all : List NameCount) → (length all ≡ 0 → ⊥) → body_text (overflow_families all) ≡ (type_line_text overflow_name types.Counter ++ rows_text all) ++ line []
some-overflow [] some = absurd (some refl)
some-overflow (c ∷ cs) some = append-nil _ ∙ ap (λ rows. (type_line_text overflow_name types.Counter ++ rows) ++ line []) (rows-mapped (c ∷ cs))

-- type line, rows and empty line, pushed one behind the other
pub block-pushed : (b t r : List ℕ) → ((b ++ t) ++ r) ++ line [] ≡ b ++ ((t ++ r) ++ line [])
block-pushed b t r = ap (λ l. l ++ line []) (append_assoc b t r) ∙ append_assoc b (t ++ r) (line [])

-- each place within has an entry
pub none_past : (all : List NameCount) (i : ℕ) → i < length all → None ≡ slice_get all i → ⊥
none_past [] i within none = absurd (omega (arith, within))
none_past (c ∷ cs) zero within none = absurd cc
none_past (c ∷ cs) (suc i) within none = none_past cs i (omega (arith, within)) none
