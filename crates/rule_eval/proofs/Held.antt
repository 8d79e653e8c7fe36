-- What a rule's sums on a page make of its runs, and what fires.
use Rattle.std.proofs.Common.{◌≡◌, ℕ, suc, ◌≤◌, Bool, true, false, cond, ◌&&◌, ◌||◌, nat_le, min, List, [], ◌∷◌, ◌++◌, map, filter, ℤ, refl, sym, ap, subst, append_assoc, append-nil, ◌∙◌, arith}
use Rattle.std.specs.List.{list_any}
use Rattle.std.proofs.lemmas.List.{map-append}
use Rattle.std.proofs.lemmas.List.Elements.{filter-append}
use Rattle.std.proofs.lemmas.List.Folds.{list_any-append}
use Rattle.indexmap.specs.IndexMap.{insert_entry}
use Rattle.prom_format.specs.Pages.{Family}
use Rattle.rule_eval.specs.Rules.{RuleText}
use Rattle.rule_eval.specs.Firing.{FiringText, Group, fires, groups_on, holds_on, passes, rule_firings, same_group, value_on}
use Rattle.rule_eval.specs.Evaluating.{GoOn, GroupKey, entries_text, fired_of, group_text, holds_in, kept_run, longer, run_in, run_length, same_key, sums_on}
use Rattle.rule_eval.proofs.Grouped.{beside_or-insert, entries_text-insert, same_is, same_self, with_each}
use Rattle.rule_eval.proofs.Runs.{fires_kept, kept_longer, last_pass-is, run_of-push}

abbrev text : ℕ → Group × ℤ → FiringText
text n sum = record { rule = n; group = sum.0; value = sum.1 }

abbrev pub firing_with : ℕ → Group → ℤ → FiringText
firing_with n group value = record { rule = n; group = group; value = value }

abbrev text_of : ℕ → (Group → ℤ) → Group → FiringText
text_of n f group = record { rule = n; group = group; value = f group }

-- ---- sum by sum

module _ (rule : RuleText) (runs : List (Group × ℕ)) where
  abbrev pub Fired : Group × ℤ → Bool
  Fired sum = passes rule sum.1 && nat_le rule.pages (longer rule runs sum.0)

  -- one more sum
  pub fired_of-push : (n : ℕ) (sums : List (Group × ℤ)) (sum : Group × ℤ)
      → fired_of n rule runs (sums ++ sum ∷ [])
      ≡ fired_of n rule runs sums ++ (cond (Fired sum) (record { rule = n; group = sum.0; value = sum.1 } ∷ []) [])
  fired_of-push n sums sum =
      ap (map (text n)) (filter-append Fired sums (sum ∷ []))
      ∙ map-append (text n) (filter Fired sums) (cond (Fired sum) (sum ∷ []) [])
      ∙ ap (λ l. fired_of n rule runs sums ++ l) (by (Fired sum))
    where
      by : (b : Bool) → map (text n) (cond b (sum ∷ []) []) ≡ (cond b (text n sum ∷ []) [])
      by true = refl
      by false = refl

  holds_in-push : (sums : List (Group × ℤ)) (sum : Group × ℤ) (group : Group)
      → holds_in rule (sums ++ sum ∷ []) group ≡ (holds_in rule sums group || ((same_group group sum.0 && passes rule sum.1) || false))
  holds_in-push sums sum group = list_any-append (λ (s : Group × ℤ). same_group group s.0 && passes rule s.1) sums (sum ∷ [])

  or_false : (a b : Bool) → b ≡ false → (a || (b || false)) ≡ a
  or_false true b p = refl
  or_false false b p = ap (λ c. c || false) p

  or_true : (a b : Bool) → b ≡ true → (a || (b || false)) ≡ true
  or_true true b p = refl
  or_true false b p = ap (λ c. c || false) p

  -- a sum that doesn't pass
  pub go_on_same : (sums : List (Group × ℤ)) (sum : Group × ℤ) (runs' : List (Group × ℕ)) → passes rule sum.1 ≡ false
      → GoOn rule runs sums runs' → GoOn rule runs (sums ++ sum ∷ []) runs'
  go_on_same sums sum runs' fails so_far = λ group.
      so_far group
      ∙ ap (λ b. cond b (longer rule runs group) 0) (sym (holds_in-push sums sum group ∙ or_false (holds_in rule sums group) (same_group group sum.0 && passes rule sum.1) (away (same_group group sum.0))))
    where
      away : (a : Bool) → (a && passes rule sum.1) ≡ false
      away true = fails
      away false = refl

  -- a sum that passes
  pub go_on_longer : (sums : List (Group × ℤ)) (sum : Group × ℤ) (runs' : List (Group × ℕ)) → passes rule sum.1 ≡ true
      → GoOn rule runs sums runs' → GoOn rule runs (sums ++ sum ∷ []) (insert_entry same_group runs' sum.0 (longer rule runs sum.0))
  go_on_longer sums sum runs' holds so_far = λ group.
      beside_or-insert 0 sum.0 (longer rule runs sum.0) group runs'
      ∙ by group (same_group group sum.0) refl
      ∙ ap (λ b. cond b (longer rule runs group) 0) (sym (holds_in-push sums sum group))
    where
      by : (group : Group) (b : Bool) → same_group group sum.0 ≡ b
          → cond (same_group group sum.0) (longer rule runs sum.0) (run_in runs' group)
          ≡ (cond (holds_in rule sums group || ((same_group group sum.0 && passes rule sum.1) || false)) (longer rule runs group) 0)
      by group true p =
          ap (λ b. cond b (longer rule runs sum.0) (run_in runs' group)) p
          ∙ ap (longer rule runs) (sym (same_is group sum.0 p))
          ∙ sym (ap (λ b. cond b (longer rule runs group) 0) (or_true (holds_in rule sums group) (same_group group sum.0 && passes rule sum.1) (ap (λ b. b && passes rule sum.1) p ∙ holds)))
      by group false p =
          ap (λ b. cond b (longer rule runs sum.0) (run_in runs' group)) p
          ∙ so_far group
          ∙ sym (ap (λ b. cond b (longer rule runs group) 0) (or_false (holds_in rule sums group) (same_group group sum.0 && passes rule sum.1) (ap (λ b. b && passes rule sum.1) p)))

-- ---- over a page

module _ (rule : RuleText) (page : List Family) where
  holds_step : (f : Group → ℤ) (group h : Group) (groups : List Group) (b : Bool) → same_group group h ≡ b
      → holds_in rule (with_each f groups) group ≡ (list_any (same_group group) groups && passes rule (f group))
      → holds_in rule (with_each f (h ∷ groups)) group ≡ (list_any (same_group group) (h ∷ groups) && passes rule (f group))
  holds_step f group h groups true p rest =
      ap (λ b. (b && passes rule (f h)) || holds_in rule (with_each f groups) group) p
      ∙ ap (λ b. passes rule (f h) || b) rest
      ∙ ap (λ g. passes rule (f g) || (list_any (same_group group) groups && passes rule (f group))) (sym (same_is group h p))
      ∙ absorbs (passes rule (f group)) (list_any (same_group group) groups)
      ∙ sym (ap (λ b. (b || list_any (same_group group) groups) && passes rule (f group)) p)
    where
      absorbs : (a b : Bool) → (a || (b && a)) ≡ a
      absorbs true b = refl
      absorbs false true = refl
      absorbs false false = refl
  holds_step f group h groups false p rest =
      ap (λ b. (b && passes rule (f h)) || holds_in rule (with_each f groups) group) p
      ∙ rest
      ∙ sym (ap (λ b. (b || list_any (same_group group) groups) && passes rule (f group)) p)

  holds_in-with_each : (f : Group → ℤ) (group : Group) (groups : List Group)
      → holds_in rule (with_each f groups) group ≡ (list_any (same_group group) groups && passes rule (f group))
  holds_in-with_each f group [] = refl
  holds_in-with_each f group (h ∷ groups) = holds_step f group h groups (same_group group h) refl (holds_in-with_each f group groups)

  -- the sums tell whether a group holds
  pub holds_in-is : (group : Group) → holds_in rule (sums_on rule page) group ≡ holds_on rule group page
  holds_in-is group = holds_in-with_each (value_on rule page) group (groups_on rule page)

  -- tests that agree at the groups that are asked for
  agree_at : (p q : Group → Bool) (all : List Group) → ((g : Group) → list_any (same_group g) all ≡ true → p g ≡ q g)
      → (groups : List Group) → ((g : Group) → list_any (same_group g) groups ≡ true → list_any (same_group g) all ≡ true)
      → filter p groups ≡ filter q groups
  agree_at p q all agree [] among = refl
  agree_at p q all agree (g ∷ groups) among =
      let there : list_any (same_group g) (g ∷ groups) ≡ true = ap (λ b. b || list_any (same_group g) groups) (same_self g) in
      ap (λ b. cond b (g ∷ filter p groups) (filter p groups)) (agree g (among g there))
      ∙ ap (λ l. cond (q g) (g ∷ l) l) (agree_at p q all agree groups (λ h at. among h (or_there (same_group h g) (list_any (same_group h) groups) at)))
    where
      or_there : (a b : Bool) → b ≡ true → (a || b) ≡ true
      or_there true b p = refl
      or_there false b p = p

  fired_each : (n : ℕ) (f : Group → ℤ) (test : Group × ℤ → Bool) (groups : List Group)
      → map (text n) (filter test (with_each f groups))
      ≡ map (text_of n f) (filter (λ g. test (g, f g)) groups)
  fired_each n f test [] = refl
  fired_each n f test (g ∷ groups) = by (test (g, f g)) (fired_each n f test groups)
    where
      by : (b : Bool) → map (text n) (filter test (with_each f groups)) ≡ map (text_of n f) (filter (λ g. test (g, f g)) groups)
          → map (text n) (cond b ((g, f g) ∷ filter test (with_each f groups)) (filter test (with_each f groups)))
          ≡ map (text_of n f) (cond b (g ∷ filter (λ g. test (g, f g)) groups) (filter (λ g. test (g, f g)) groups))
      by true rest = ap (λ l. text_of n f g ∷ l) rest
      by false rest = rest

  module _ (pages : List (List Family)) (runs : List (Group × ℕ)) (kept : (group : Group) → run_in runs group ≡ kept_run rule pages group) where
    -- the runs behind the page
    pub kept_after : (runs' : List (Group × ℕ)) → GoOn rule runs (sums_on rule page) runs'
        → (group : Group) → run_in runs' group ≡ kept_run rule (pages ++ page ∷ []) group
    kept_after runs' go_on group =
        go_on group
        ∙ ap (λ b. cond b (longer rule runs group) 0) (holds_in-is group)
        ∙ ap (λ r. cond (holds_on rule group page) (min rule.pages (suc r)) 0) (kept group)
        ∙ by (holds_on rule group page)
        ∙ ap (min rule.pages) (sym (run_of-push (holds_on rule group) pages page))
      where
        none : min rule.pages 0 ≡ 0
        none = omega arith

        by : (b : Bool) → cond b (min rule.pages (suc (kept_run rule pages group))) 0 ≡ min rule.pages (cond b (suc (run_length rule pages group)) 0)
        by true = kept_longer rule.pages (run_length rule pages group)
        by false = sym none

    fires_then : 1 ≤ rule.pages → (group : Group) → list_any (same_group group) (groups_on rule page) ≡ true
        → (passes rule (value_on rule page group) && nat_le rule.pages (longer rule runs group)) ≡ fires rule (pages ++ page ∷ []) group
    fires_then some group there =
        ap (λ r. passes rule (value_on rule page group) && nat_le rule.pages (min rule.pages (suc r))) (kept group)
        ∙ fires_kept rule.pages (run_length rule pages group) (passes rule (value_on rule page group)) some
        ∙ ap (λ b. nat_le rule.pages (cond (b && passes rule (value_on rule page group)) (suc (run_length rule pages group)) 0)) (sym there)
        ∙ ap (nat_le rule.pages) (sym (run_of-push (holds_on rule group) pages page))
        ∙ sym (last_pass-is (holds_on rule group) (pages ++ page ∷ []) rule.pages)

    -- what fires on the page
    pub fired_of-is : 1 ≤ rule.pages → (n : ℕ) → fired_of n rule runs (sums_on rule page) ≡ rule_firings n rule pages page
    fired_of-is some n =
        fired_each n (value_on rule page) (λ (s : Group × ℤ). passes rule s.1 && nat_le rule.pages (longer rule runs s.0)) (groups_on rule page)
        ∙ ap (map (text_of n (value_on rule page)))
        (agree_at (λ g. passes rule (value_on rule page g) && nat_le rule.pages (longer rule runs g)) (fires rule (pages ++ page ∷ [])) (groups_on rule page) (fires_then some) (groups_on rule page) (λ g at. at))

-- ---- one turn over the sums

module _ (rule : RuleText) (runs : List (Group × ℕ)) (sums : List (GroupKey × ℤ)) (key : GroupKey) (sum : ℤ) where
  entries_text-push : entries_text (sums ++ (key, sum) ∷ []) ≡ entries_text sums ++ (group_text key, sum) ∷ []
  entries_text-push = map-append (λ (entry : GroupKey × ℤ). (group_text entry.0, entry.1)) sums ((key, sum) ∷ [])

  pub turn_without : (old : List (GroupKey × ℕ)) → passes rule sum ≡ false
      → GoOn rule runs (entries_text sums) (entries_text old) → GoOn rule runs (entries_text (sums ++ (key, sum) ∷ [])) (entries_text old)
  turn_without old fails so_far =
      subst (λ s. GoOn rule runs s (entries_text old)) (sym entries_text-push)
      (go_on_same rule runs (entries_text sums) (group_text key, sum) (entries_text old) fails so_far)

  pub turn_with : (old new : List (GroupKey × ℕ)) (run : ℕ) → passes rule sum ≡ true → run ≡ longer rule runs (group_text key)
      → new ≡ insert_entry same_key old key run
      → GoOn rule runs (entries_text sums) (entries_text old) → GoOn rule runs (entries_text (sums ++ (key, sum) ∷ [])) (entries_text new)
  turn_with old new run holds run_is put so_far =
      let new_is : insert_entry same_group (entries_text old) (group_text key) (longer rule runs (group_text key)) ≡ entries_text new =
      sym (ap entries_text put ∙ entries_text-insert key run old ∙ ap (insert_entry same_group (entries_text old) (group_text key)) run_is) in
      subst (λ s. GoOn rule runs s (entries_text new)) (sym entries_text-push)
      (subst (GoOn rule runs (entries_text sums ++ (group_text key, sum) ∷ [])) new_is
      (go_on_longer rule runs (entries_text sums) (group_text key, sum) (entries_text old) holds so_far))

  module _ (n : ℕ) (start : List FiringText) where
    fired_push : fired_of n rule runs (entries_text (sums ++ (key, sum) ∷ []))
        ≡ fired_of n rule runs (entries_text sums) ++ (cond (passes rule sum && nat_le rule.pages (longer rule runs (group_text key))) (record { rule = n; group = group_text key; value = sum } ∷ []) [])
    fired_push = ap (fired_of n rule runs) entries_text-push ∙ fired_of-push rule runs n (entries_text sums) (group_text key, sum)

    pub fired_without : (old : List FiringText) → passes rule sum ≡ false → old ≡ start ++ fired_of n rule runs (entries_text sums)
        → old ≡ start ++ fired_of n rule runs (entries_text (sums ++ (key, sum) ∷ []))
    fired_without old fails so_far =
        so_far
        ∙ ap (λ l. start ++ l) (sym (fired_push
        ∙ ap (λ b. fired_of n rule runs (entries_text sums) ++ cond (b && nat_le rule.pages (longer rule runs (group_text key))) (record { rule = n; group = group_text key; value = sum } ∷ []) []) fails
        ∙ append-nil (fired_of n rule runs (entries_text sums))))

    pub fired_with : (old new : List FiringText) (run : ℕ) → passes rule sum ≡ true → run ≡ longer rule runs (group_text key)
        → new ≡ old ++ (cond (nat_le rule.pages run) (record { rule = n; group = group_text key; value = sum } ∷ []) [])
        → old ≡ start ++ fired_of n rule runs (entries_text sums)
        → new ≡ start ++ fired_of n rule runs (entries_text (sums ++ (key, sum) ∷ []))
    fired_with old new run holds run_is put so_far =
        put
        ∙ (λ j. so_far j ++ (cond (nat_le rule.pages (run_is j)) (record { rule = n; group = group_text key; value = sum } ∷ []) []))
        ∙ append_assoc start (fired_of n rule runs (entries_text sums)) (cond (nat_le rule.pages (longer rule runs (group_text key))) (record { rule = n; group = group_text key; value = sum } ∷ []) [])
        ∙ ap (λ l. start ++ l) (sym (fired_push
        ∙ ap (λ b. fired_of n rule runs (entries_text sums) ++ cond (b && nat_le rule.pages (longer rule runs (group_text key))) (record { rule = n; group = group_text key; value = sum } ∷ []) []) holds))

-- what a loop over the sums has so far
pub record SoFar (rule : RuleText) (runs : List (Group × ℕ)) (n : ℕ) (start fired : List FiringText) (all left : List (GroupKey × ℤ)) (kept : List (GroupKey × ℕ)) : Type 0 where
  pub done : List (GroupKey × ℤ)
  pub split : done ++ left ≡ all
  pub go_on : GoOn rule runs (entries_text done) (entries_text kept)
  pub fired_are : fired ≡ start ++ fired_of n rule runs (entries_text done)

module _ (rule : RuleText) (runs : List (Group × ℕ)) (n : ℕ) (start : List FiringText) (all : List (GroupKey × ℤ)) where
  -- no sum so far
  pub so_far_none : SoFar rule runs n start start all all []
  so_far_none = record { done = []; split = refl; go_on = λ group. refl; fired_are = sym (append-nil start) }

  module _ (key : GroupKey) (sum : ℤ) (left left' : List (GroupKey × ℤ)) (next : left ≡ (key, sum) ∷ left') where
    split_next : (done : List (GroupKey × ℤ)) → done ++ left ≡ all → (done ++ (key, sum) ∷ []) ++ left' ≡ all
    split_next done split = append_assoc done ((key, sum) ∷ []) left' ∙ ap (λ l. done ++ l) (sym next) ∙ split

    pub so_far_without : (fired : List FiringText) (kept : List (GroupKey × ℕ)) → passes rule sum ≡ false
        → SoFar rule runs n start fired all left kept → SoFar rule runs n start fired all left' kept
    so_far_without fired kept fails before = record {
      done = before.done ++ (key, sum) ∷ [];
      split = split_next before.done before.split;
      go_on = turn_without rule runs before.done key sum kept fails before.go_on;
      fired_are = fired_without rule runs before.done key sum n start fired fails before.fired_are;
    }

    pub so_far_with : (fired fired' : List FiringText) (kept kept' : List (GroupKey × ℕ)) (run : ℕ) → passes rule sum ≡ true
        → run ≡ longer rule runs (group_text key)
        → kept' ≡ insert_entry same_key kept key run
        → fired' ≡ fired ++ (cond (nat_le rule.pages run) (record { rule = n; group = group_text key; value = sum } ∷ []) [])
        → SoFar rule runs n start fired all left kept → SoFar rule runs n start fired' all left' kept'
    so_far_with fired fired' kept kept' run holds run_is put added before = record {
      done = before.done ++ (key, sum) ∷ [];
      split = split_next before.done before.split;
      go_on = turn_with rule runs before.done key sum kept kept' run holds run_is put before.go_on;
      fired_are = fired_with rule runs before.done key sum n start fired fired' run holds run_is added before.fired_are;
    }

  module _ (left : List (GroupKey × ℤ)) (ended : left ≡ []) (fired : List FiringText) (kept : List (GroupKey × ℕ)) (so_far : SoFar rule runs n start fired all left kept) where
    done_all : so_far.done ≡ all
    done_all = sym (append-nil so_far.done) ∙ ap (λ l. so_far.done ++ l) (sym ended) ∙ so_far.split

    pub go_on_all : GoOn rule runs (entries_text all) (entries_text kept)
    go_on_all = subst (λ d. GoOn rule runs (entries_text d) (entries_text kept)) done_all so_far.go_on

    pub fired_all : fired ≡ start ++ fired_of n rule runs (entries_text all)
    fired_all = so_far.fired_are ∙ ap (λ d. start ++ fired_of n rule runs (entries_text d)) done_all
