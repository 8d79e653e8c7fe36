-- The sums of groups of rows, row by row.
use Rattle.std.proofs.Common.{◌≡◌, Bool, true, false, cond, List, [], ◌∷◌, ◌++◌, map, filter, fold, ℤ, pos, refl, sym, ap, append-nil, unwrap_or, ◌∙◌}
use Rattle.std.specs.List.{list_any}
use Rattle.std.specs.Map.{lookup}
use Rattle.std.proofs.lemmas.Bool.{or_parts}
use Rattle.std.proofs.lemmas.List.{map-append}
use Rattle.std.proofs.lemmas.List.Elements.{filter-append}
use Rattle.std.proofs.lemmas.List.Sums.{fold_push}
use Rattle.indexmap.specs.IndexMap.{insert_entry}
use Rattle.metrics_core.specs.Numbers.{add_128}
use Rattle.prom_format.specs.Pages.{Row}
use Rattle.rule_eval.specs.Rules.{RuleText}
use Rattle.rule_eval.specs.Firing.{Group, each_once, group_of, same_group}
use Rattle.rule_eval.specs.Evaluating.{GroupKey, beside_or, entries_text, group_text, same_key, sum_of, sums_of}
use Rattle.rule_eval.proofs.Grouped.{any_each_once, beside-with_each, distinct_once, each_once-push, entries_text-insert, insert-with_each, same_self, same_swap, unwrap_or-lookup, with_each}

module _ (rule : RuleText) (rows : List Row) (row : Row) where
  -- one more row
  sum_of-push : (group : Group)
      → sum_of rule (rows ++ row ∷ []) group
      ≡ (cond (same_group (group_of rule row) group) (add_128 (sum_of rule rows group) row.value) (sum_of rule rows group))
  sum_of-push group =
      ap (λ l. fold add_128 (pos 0) (map (λ (r : Row). r.value) l)) (filter-append (λ r. same_group (group_of rule r) group) rows (row ∷ []))
      ∙ by (same_group (group_of rule row) group)
    where
      by : (b : Bool)
          → fold add_128 (pos 0) (map (λ (r : Row). r.value) (filter (λ r. same_group (group_of rule r) group) rows ++ cond b (row ∷ []) []))
          ≡ (cond b (add_128 (sum_of rule rows group) row.value) (sum_of rule rows group))
      by true =
          ap (fold add_128 (pos 0)) (map-append (λ (r : Row). r.value) (filter (λ r. same_group (group_of rule r) group) rows) (row ∷ []))
          ∙ fold_push add_128 (pos 0) (map (λ (r : Row). r.value) (filter (λ r. same_group (group_of rule r) group) rows)) row.value
      by false = ap (λ l. fold add_128 (pos 0) (map (λ (r : Row). r.value) l)) (append-nil (filter (λ r. same_group (group_of rule r) group) rows))

-- a group that no row has
sum_of_none : (rule : RuleText) (group : Group) (rows : List Row) → list_any (same_group group) (map (group_of rule) rows) ≡ false → sum_of rule rows group ≡ pos 0
sum_of_none rule group rows none = ap (λ l. fold add_128 (pos 0) (map (λ (r : Row). r.value) l)) (none_kept rows none)
  where
    none_kept : (rows : List Row) → list_any (same_group group) (map (group_of rule) rows) ≡ false → filter (λ r. same_group (group_of rule r) group) rows ≡ []
    none_kept [] none = refl
    none_kept (r ∷ rows) none =
        let parts = or_parts (same_group group (group_of rule r)) (list_any (same_group group) (map (group_of rule) rows)) none in
        ap (λ b. cond b (r ∷ filter (λ r. same_group (group_of rule r) group) rows) (filter (λ r. same_group (group_of rule r) group) rows)) (same_swap group (group_of rule r) false parts.0)
        ∙ none_kept rows parts.1

-- what stands beside a group so far is its sum
sum_found : (rule : RuleText) (rows : List Row) (group : Group) → beside_or (pos 0) (sums_of rule rows) group ≡ sum_of rule rows group
sum_found rule rows group =
    beside-with_each (pos 0) (sum_of rule rows) group (each_once (map (group_of rule) rows))
    ∙ ap (λ b. cond b (sum_of rule rows group) (pos 0)) (any_each_once group (map (group_of rule) rows))
    ∙ by (list_any (same_group group) (map (group_of rule) rows)) refl
  where
    by : (b : Bool) → list_any (same_group group) (map (group_of rule) rows) ≡ b → cond b (sum_of rule rows group) (pos 0) ≡ sum_of rule rows group
    by true p = refl
    by false p = sym (sum_of_none rule group rows p)

-- the sums with one more row
pub sums_of-push : (rule : RuleText) (rows : List Row) (row : Row)
    → insert_entry same_group (sums_of rule rows) (group_of rule row) (add_128 (beside_or (pos 0) (sums_of rule rows) (group_of rule row)) row.value)
    ≡ sums_of rule (rows ++ row ∷ [])
sums_of-push rule rows row =
    let g = group_of rule row in
    let groups = map (group_of rule) rows in
    let once = each_once groups in
    ap (λ v. insert_entry same_group (sums_of rule rows) g (add_128 v row.value)) (sum_found rule rows g)
    ∙ insert-with_each (sum_of rule rows) (sum_of rule (rows ++ row ∷ [])) g (add_128 (sum_of rule rows g) row.value) here elsewhere once (distinct_once groups)
    ∙ ap (λ b. with_each (sum_of rule (rows ++ row ∷ [])) (cond b once (once ++ g ∷ []))) (any_each_once g groups)
    ∙ ap (with_each (sum_of rule (rows ++ row ∷ []))) (sym (each_once-push g groups))
    ∙ ap (λ l. with_each (sum_of rule (rows ++ row ∷ [])) (each_once l)) (sym (map-append (group_of rule) rows (row ∷ [])))
  where
    here : sum_of rule (rows ++ row ∷ []) (group_of rule row) ≡ add_128 (sum_of rule rows (group_of rule row)) row.value
    here = sum_of-push rule rows row (group_of rule row)
        ∙ ap (λ b. cond b (add_128 (sum_of rule rows (group_of rule row)) row.value) (sum_of rule rows (group_of rule row))) (same_self (group_of rule row))

    elsewhere : (h : Group) → same_group (group_of rule row) h ≡ false → sum_of rule (rows ++ row ∷ []) h ≡ sum_of rule rows h
    elsewhere h apart = sum_of-push rule rows row h
        ∙ ap (λ b. cond b (add_128 (sum_of rule rows h) row.value) (sum_of rule rows h)) apart

-- the map of the sums with one more row
pub sums_step : (rule : RuleText) (rows : List Row) (row : Row) (old new : List (GroupKey × ℤ)) (key : GroupKey) (sum : ℤ)
    → entries_text old ≡ sums_of rule rows → group_text key ≡ group_of rule row
    → sum ≡ unwrap_or (lookup (same_key key) old) (pos 0)
    → new ≡ insert_entry same_key old key (add_128 sum row.value)
    → entries_text new ≡ sums_of rule (rows ++ row ∷ [])
sums_step rule rows row old new key sum so_far group found put =
    let sum_is : sum ≡ beside_or (pos 0) (sums_of rule rows) (group_of rule row) =
    found ∙ unwrap_or-lookup (pos 0) key old ∙ (λ j. beside_or (pos 0) (so_far j) (group j)) in
    ap entries_text put
    ∙ entries_text-insert key (add_128 sum row.value) old
    ∙ (λ j. insert_entry same_group (so_far j) (group j) (add_128 (sum_is j) row.value))
    ∙ sums_of-push rule rows row
