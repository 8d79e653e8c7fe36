-- Which groups of a rule's rows fire on which page (this project's rules).
use Rattle.std.specs.Prelude.{ℕ, suc, ◌-◌, Bool, ◌&&◌, nat_le, not, List, [], ◌∷◌, ◌++◌, map, filter, flat_map, fold, length, drop, ℤ, pos, int_lt, bytes_eq, string_bytes, if◌then◌else◌}
use Rattle.std.specs.Cmp.Lexicographic.{pointwise}
use Rattle.std.specs.List.{list_any, list_all}
use Rattle.metrics_core.specs.Keys.{LabelText}
use Rattle.metrics_core.specs.Numbers.{add_128}
use Rattle.prom_format.specs.Pages.{Family, Row}
use Rattle.rule_eval.specs.Rules.{RuleText}
use Rattle.rule_eval.specs.declared.evaluator.Firing.{Firing}

-- a group: values of a rule's keys
abbrev pub Group : Type 0
Group = List (List ℕ)

abbrev pub same_group : Group → Group → Bool
same_group = pointwise bytes_eq

-- the value of the first label with this key, or the empty text where there is none
abbrev pub value_at : List ℕ → List LabelText → List ℕ
value_at key [] = []
value_at key (label ∷ labels) = if bytes_eq label.key key then label.value else value_at key labels

abbrev pub group_of : RuleText → Row → Group
group_of rule row = map (λ key. value_at key row.labels) rule.keys

-- the rows of a page with the rule's name, in order
abbrev pub rows_of : RuleText → List Family → List Row
rows_of rule page = filter (λ row. bytes_eq row.name rule.name) (flat_map (λ (family : Family). family.rows) page)

-- each group once, in order of first appearance
abbrev pub each_once : List Group → List Group
each_once [] = []
each_once (group ∷ groups) = group ∷ filter (λ other. not (same_group group other)) (each_once groups)

abbrev pub groups_on : RuleText → List Family → List Group
groups_on rule page = each_once (map (group_of rule) (rows_of rule page))

-- a group's value on a page: the sum of its rows, which wraps in 128 bits
abbrev pub value_on : RuleText → List Family → Group → ℤ
value_on rule page group =
    fold add_128 (pos 0) (map (λ (row : Row). row.value) (filter (λ row. same_group (group_of rule row) group) (rows_of rule page)))

-- the group is on the page, and its value is over the bound, or under it
abbrev pub passes : RuleText → ℤ → Bool
passes rule value = if rule.over then int_lt rule.bound value else int_lt value rule.bound

abbrev pub holds_on : RuleText → Group → List Family → Bool
holds_on rule group page = list_any (same_group group) (groups_on rule page) && passes rule (value_on rule page group)

-- a group fires on the last of some pages: it holds on each of the last pages that the rule asks for
abbrev pub fires : RuleText → List (List Family) → Group → Bool
fires rule pages group =
    nat_le rule.pages (length pages) && list_all (holds_on rule group) (drop (length pages - rule.pages) pages)

-- a group that fires: the number of its rule, from 0, and its value
pub record FiringText : Type 0 where
  pub rule : ℕ
  pub group : Group
  pub value : ℤ

abbrev pub firing_text : Firing → FiringText
firing_text firing = record { rule = firing.rule; group = map string_bytes firing.group.items; value = firing.value }

-- what fires on a page behind others: rules in order, and groups in order on the page
abbrev pub rule_firings : ℕ → RuleText → List (List Family) → List Family → List FiringText
rule_firings n rule before page =
    map (λ group. record { rule = n; group = group; value = value_on rule page group })
    (filter (fires rule (before ++ page ∷ [])) (groups_on rule page))

abbrev pub firings_from : ℕ → List RuleText → List (List Family) → List Family → List FiringText
firings_from n [] before page = []
firings_from n (rule ∷ rules) before page = rule_firings n rule before page ++ firings_from (suc n) rules before page

abbrev pub firings : List RuleText → List (List Family) → List Family → List FiringText
firings rules before page = firings_from 0 rules before page

-- what fires on each of some pages behind others
abbrev pub firings_on : List RuleText → List (List Family) → List (List Family) → List (List FiringText)
firings_on rules before [] = []
firings_on rules before (page ∷ pages) = firings rules before page ∷ firings_on rules (before ++ page ∷ []) pages

-- ---- the state of an evaluation

-- rules, and the pages so far
pub record Evaluation : Type 0 where
  pub rules : List RuleText
  pub pages : List (List Family)
