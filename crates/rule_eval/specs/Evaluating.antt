-- What an evaluator keeps, and what it computes of a page on the way.
use Rattle.std.specs.Prelude.{◌≡◌, ℕ, suc, ◌<◌, ◌^◌, Bool, ◌&&◌, nat_le, All, List, [], ◌∷◌, ◌++◌, map, filter, flat_map, fold, length, min, ℤ, pos, bytes_eq, string_bytes, if◌then◌else◌, Option, Some, slice_get}
use Rattle.std.specs.Borrow.{Bor}
use Rattle.std.specs.Cmp.Lexicographic.{pointwise}
use Rattle.std.specs.List.{list_any}
use Rattle.std.specs.Option.{option_map_or}
use Rattle.std.specs.String.{string_eq}
use Rattle.std.specs.declared.alloc.Global.{Global}
use Rattle.std.specs.declared.snapshot.Snapshot.{Snapshot}
use Rattle.std.specs.declared.string.String.{String}
use Rattle.std.specs.declared.vec.Vec.{Vec}
use Rattle.hash_starts.specs.declared.start.HashStart.{HashStart}
use Rattle.indexmap.specs.IndexMap.{IndexMap, get_by}
use Rattle.metrics_core.specs.Numbers.{add_128}
use Rattle.prom_format.specs.Pages.{Family, Row}
use Rattle.rule_eval.specs.Firing.{Group, FiringText, each_once, group_of, holds_on, passes, rows_of, same_group}
use Rattle.rule_eval.specs.Rules.{AsksForPages, RuleText}
use Rattle.page_relay.specs.Values.{families_of, row_of}
use Rattle.page_relay.specs.declared.pages.Page.{Page}
use Rattle.page_relay.specs.declared.pages.PageRow.{PageRow}

-- ---- rows

-- rows by their names
abbrev pub RowsByName : Type 0
RowsByName = IndexMap (Bor (List ℕ)) (Vec (Bor PageRow) Global) HashStart

abbrev pub rows_at : List (Bor PageRow) → List Row
rows_at rows = map (λ row. row_of row.now) rows

-- what is found under a name
abbrev pub found_at : RowsByName → List ℕ → List (Bor PageRow)
found_at rows name = option_map_or (λ found. found.items) (get_by (λ key. bytes_eq name key.now) rows) []

abbrev pub rows_named : RowsByName → List ℕ → List Row
rows_named rows name = rows_at (found_at rows name)

-- the rows with a name
abbrev pub named : List ℕ → List Row → List Row
named name rows = filter (λ row. bytes_eq row.name name) rows

abbrev pub rows_with : List ℕ → List Family → List Row
rows_with name page = named name (flat_map (λ (family : Family). family.rows) page)

-- ---- groups with something each

-- the values of a group as the program has them
abbrev pub GroupKey : Type 0
GroupKey = Vec (String Global) Global

abbrev pub group_text : GroupKey → Group
group_text key = map string_bytes key.items

abbrev pub same_key : GroupKey → GroupKey → Bool
same_key a b = pointwise string_eq a.items b.items

-- what the entries of a map stand for
abbrev pub entries_text : {X : Type 0} → List (GroupKey × X) → List (Group × X)
entries_text entries = map (λ entry. (group_text entry.0, entry.1)) entries

-- what stands beside a group, or else this
abbrev pub beside_or : {X : Type 0} → X → List (Group × X) → Group → X
beside_or other [] group = other
beside_or other (entry ∷ entries) group = if same_group group entry.0 then entry.1 else beside_or other entries group

-- the sum of the rows of a group
abbrev pub sum_of : RuleText → List Row → Group → ℤ
sum_of rule rows group = fold add_128 (pos 0) (map (λ (row : Row). row.value) (filter (λ row. same_group (group_of rule row) group) rows))

-- the groups of rows, in order of first appearance, and the sum of each
abbrev pub sums_of : RuleText → List Row → List (Group × ℤ)
sums_of rule rows = map (λ group. (group, sum_of rule rows group)) (each_once (map (group_of rule) rows))

-- ---- runs

-- on how many pages in a row, up to the last, a group holds
abbrev pub run_length : RuleText → List (List Family) → Group → ℕ
run_length rule pages group = fold (λ run page. if holds_on rule group page then suc run else 0) 0 pages

-- the same, as it is kept: at most as many as the rule asks for
abbrev pub kept_run : RuleText → List (List Family) → Group → ℕ
kept_run rule pages group = min rule.pages (run_length rule pages group)

-- the run that is kept for a group; there is none for one that doesn't hold
abbrev pub run_in : List (Group × ℕ) → Group → ℕ
run_in runs group = beside_or 0 runs group

-- the run of a group that holds once more
abbrev pub longer : RuleText → List (Group × ℕ) → Group → ℕ
longer rule runs group = min rule.pages (suc (run_in runs group))

-- whether these are the sums of a page on which the group holds
abbrev pub holds_in : RuleText → List (Group × ℤ) → Group → Bool
holds_in rule sums group = list_any (λ sum. same_group group sum.0 && passes rule sum.1) sums

-- what fires on a page with these sums, behind pages with these runs
abbrev pub fired_of : ℕ → RuleText → List (Group × ℕ) → List (Group × ℤ) → List FiringText
fired_of n rule runs sums =
    map (λ sum. record { rule = n; group = sum.0; value = sum.1 })
    (filter (λ sum. passes rule sum.1 && nat_le rule.pages (longer rule runs sum.0)) sums)

-- the runs behind a page with these sums
abbrev pub GoOn : RuleText → List (Group × ℕ) → List (Group × ℤ) → List (Group × ℕ) → Type 0
GoOn rule runs sums runs' = (group : Group) → run_in runs' group ≡ (if holds_in rule sums group then longer rule runs group else 0)

-- ---- the state of an evaluator

-- the runs of a rule on pages
abbrev pub Runs : Type 0
Runs = IndexMap GroupKey ℕ HashStart

-- the runs that are kept of a rule; before the first page there are none
abbrev pub runs_text : Option Runs → List (Group × ℕ)
runs_text kept = option_map_or (λ (runs : Runs). entries_text runs.entries) kept []

abbrev pub runs_at : List Runs → ℕ → List (Group × ℕ)
runs_at runs n = runs_text (slice_get runs n)

-- the sums of a rule's groups on a page
abbrev pub sums_on : RuleText → List Family → List (Group × ℤ)
sums_on rule page = sums_of rule (rows_of rule page)

-- the runs of each rule behind one more page
abbrev pub AllGoOn : List RuleText → List Runs → List Family → List Runs → Type 0
AllGoOn rules runs page runs' =
    (n : ℕ) (rule : RuleText) → slice_get rules n ≡ Some rule
    → GoOn rule (runs_at runs n) (sums_on rule page) (runs_at runs' n)

-- what fires on a page behind pages with these runs, of rules from this number on
abbrev pub fired_from : ℕ → List RuleText → List Runs → List Family → List FiringText
fired_from n [] runs page = []
fired_from n (rule ∷ rules) runs page =
    fired_of n rule (runs_at runs n) (sums_on rule page) ++ fired_from (suc n) rules runs page

-- for each rule and each group its run is kept
abbrev pub AreRuns : List RuleText → List (List Family) → List Runs → Type 0
AreRuns rules pages runs =
    (n : ℕ) (rule : RuleText) → slice_get rules n ≡ Some rule
    → (group : Group) → run_in (runs_at runs n) group ≡ kept_run rule pages group

-- the pages that an evaluator saw
abbrev pub pages_seen : List (Snapshot Page) → List (List Family)
pages_seen seen = map (λ page. families_of page.value) seen

-- what an evaluator keeps after these pages
pub record IsKept (rules : List RuleText) (pages : List (List Family)) (runs : List Runs) : Type 0 where
  pub asks : All AsksForPages rules
  pub few : length rules < 2 ^ 32
  pub runs_are : AreRuns rules pages runs
