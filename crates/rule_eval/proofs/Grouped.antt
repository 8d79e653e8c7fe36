-- Groups, and lists with something beside each group.
use Rattle.std.proofs.Common.{◌≡◌, Bool, true, false, cond, not, ◌&&◌, ◌||◌, List, [], ◌∷◌, ◌++◌, map, filter, Some, unwrap_or, String, Global, string_bytes, bytes_eq, string_eq, refl, sym, ap, subst, append-nil, ◌∙◌}
use Rattle.std.specs.Bool.{Decides, ⊤}
use Rattle.std.specs.Cmp.Lexicographic.{pointwise}
use Rattle.std.specs.List.{list_any}
use Rattle.std.specs.Map.{lookup}
use Rattle.std.proofs.lemmas.Bool.{false_from_ne_true, or_parts}
use Rattle.std.proofs.lemmas.List.Elements.{filter-append}
use Rattle.std.proofs.lemmas.Slice.Eq.{bytes_eq-Decides, slice_eq-Decides}
use Rattle.indexmap.specs.IndexMap.{insert_entry}
use Rattle.rule_eval.specs.Firing.{Group, each_once, same_group}
use Rattle.rule_eval.specs.Evaluating.{GroupKey, beside_or, entries_text, group_text, same_key}

-- ---- equal groups

same_decides : (a b : Group) → Decides (same_group a b) (a ≡ b)
same_decides a b = slice_eq-Decides bytes_eq-Decides a b (same_group a b) refl

pub same_is : (a b : Group) → same_group a b ≡ true → a ≡ b
same_is a b = (same_decides a b).0

pub same_self : (a : Group) → same_group a a ≡ true
same_self a = (same_decides a a).1 refl

pub same_swap : (a b : Group) (r : Bool) → same_group a b ≡ r → same_group b a ≡ r
same_swap a b true p = (same_decides b a).1 (sym (same_is a b p))
same_swap a b false p = false_from_ne_true (same_group b a) (λ q. (same_false a b p) (sym (same_is b a q)))
  where
    same_false : (a b : Group) → same_group a b ≡ false → a ≡ b → ⊥
    same_false a b p e = let q = (same_decides a b).1 e in absurd (cc)

texts_same : (a b : List (String Global)) → pointwise string_eq a b ≡ same_group (map string_bytes a) (map string_bytes b)
texts_same [] [] = refl
texts_same [] (y ∷ b) = refl
texts_same (x ∷ a) [] = refl
texts_same (x ∷ a) (y ∷ b) = ap (λ r. bytes_eq (string_bytes x) (string_bytes y) && r) (texts_same a b)

pub key_same : (a b : GroupKey) → same_key a b ≡ same_group (group_text a) (group_text b)
key_same a b = texts_same a.items b.items

-- ---- maps from groups

module _ {X : Type 0} (other : X) (key : GroupKey) where
  lookup_step : (e : GroupKey × X) (entries : List (GroupKey × X)) (b : Bool) → same_group (group_text key) (group_text e.0) ≡ b
      → unwrap_or (lookup (same_key key) entries) other ≡ beside_or other (entries_text entries) (group_text key)
      → unwrap_or (lookup (same_key key) (e ∷ entries)) other ≡ beside_or other (entries_text (e ∷ entries)) (group_text key)
  lookup_step e entries true p rest =
      ap (λ b. unwrap_or (cond b (Some e.1) (lookup (same_key key) entries)) other) (key_same key e.0 ∙ p)
      ∙ sym (ap (λ b. cond b e.1 (beside_or other (entries_text entries) (group_text key))) p)
  lookup_step e entries false p rest =
      ap (λ b. unwrap_or (cond b (Some e.1) (lookup (same_key key) entries)) other) (key_same key e.0 ∙ p)
      ∙ rest
      ∙ sym (ap (λ b. cond b e.1 (beside_or other (entries_text entries) (group_text key))) p)

  -- what a look-up finds
  pub unwrap_or-lookup : (entries : List (GroupKey × X))
      → unwrap_or (lookup (same_key key) entries) other ≡ beside_or other (entries_text entries) (group_text key)
  unwrap_or-lookup [] = refl
  unwrap_or-lookup (e ∷ entries) = lookup_step e entries (same_group (group_text key) (group_text e.0)) refl (unwrap_or-lookup entries)

module _ {X : Type 0} (key : GroupKey) (value : X) where
  insert_step : (e : GroupKey × X) (entries : List (GroupKey × X)) (b : Bool) → same_group (group_text key) (group_text e.0) ≡ b
      → entries_text (insert_entry same_key entries key value) ≡ insert_entry same_group (entries_text entries) (group_text key) value
      → entries_text (insert_entry same_key (e ∷ entries) key value) ≡ insert_entry same_group (entries_text (e ∷ entries)) (group_text key) value
  insert_step e entries true p rest =
      ap (λ b. entries_text (cond b ((e.0, value) ∷ entries) (e ∷ insert_entry same_key entries key value))) (key_same key e.0 ∙ p)
      ∙ sym (ap (λ b. cond b ((group_text e.0, value) ∷ entries_text entries) ((group_text e.0, e.1) ∷ insert_entry same_group (entries_text entries) (group_text key) value)) p)
  insert_step e entries false p rest =
      ap (λ b. entries_text (cond b ((e.0, value) ∷ entries) (e ∷ insert_entry same_key entries key value))) (key_same key e.0 ∙ p)
      ∙ ap (λ l. (group_text e.0, e.1) ∷ l) rest
      ∙ sym (ap (λ b. cond b ((group_text e.0, value) ∷ entries_text entries) ((group_text e.0, e.1) ∷ insert_entry same_group (entries_text entries) (group_text key) value)) p)

  -- what an insertion makes of the entries
  pub entries_text-insert : (entries : List (GroupKey × X))
      → entries_text (insert_entry same_key entries key value) ≡ insert_entry same_group (entries_text entries) (group_text key) value
  entries_text-insert [] = refl
  entries_text-insert (e ∷ entries) = insert_step e entries (same_group (group_text key) (group_text e.0)) refl (entries_text-insert entries)

module _ {X : Type 0} (other : X) (group : Group) (value : X) (asked : Group) where
  -- the entry is that of the group
  beside_here : (e : Group × X) (entries : List (Group × X)) → same_group group e.0 ≡ true
      → beside_or other (insert_entry same_group (e ∷ entries) group value) asked
      ≡ (cond (same_group asked group) value (beside_or other (e ∷ entries) asked))
  beside_here e entries p =
      ap (λ b. beside_or other (cond b ((e.0, value) ∷ entries) (e ∷ insert_entry same_group entries group value)) asked) p
      ∙ ap (λ g. cond (same_group asked g) value (beside_or other entries asked)) (sym (same_is group e.0 p))
      ∙ by (same_group asked group) refl
    where
      by : (b : Bool) → same_group asked group ≡ b
          → cond (same_group asked group) value (beside_or other entries asked) ≡ (cond (same_group asked group) value (beside_or other (e ∷ entries) asked))
      by true q = rw q refl
      by false q =
          let apart : same_group asked e.0 ≡ false = subst (λ g. same_group asked g ≡ false) (same_is group e.0 p) q in
          rw (q, apart) refl

  -- the entry is that of another group
  beside_there : (e : Group × X) (entries : List (Group × X)) → same_group group e.0 ≡ false
      → beside_or other (insert_entry same_group entries group value) asked ≡ (cond (same_group asked group) value (beside_or other entries asked))
      → beside_or other (insert_entry same_group (e ∷ entries) group value) asked
      ≡ (cond (same_group asked group) value (beside_or other (e ∷ entries) asked))
  beside_there e entries p rest =
      ap (λ b. beside_or other (cond b ((e.0, value) ∷ entries) (e ∷ insert_entry same_group entries group value)) asked) p
      ∙ ap (λ v. cond (same_group asked e.0) e.1 v) rest
      ∙ by (same_group asked group) refl
    where
      by : (b : Bool) → same_group asked group ≡ b
          → cond (same_group asked e.0) e.1 (cond (same_group asked group) value (beside_or other entries asked))
          ≡ (cond (same_group asked group) value (beside_or other (e ∷ entries) asked))
      by true q =
          let apart : same_group asked e.0 ≡ false = subst (λ g. same_group g e.0 ≡ false) (sym (same_is asked group q)) p in
          rw (q, apart) refl
      by false q = rw q refl

  -- what stands beside a group after an insertion
  pub beside_or-insert : (entries : List (Group × X))
      → beside_or other (insert_entry same_group entries group value) asked
      ≡ (cond (same_group asked group) value (beside_or other entries asked))
  beside_or-insert [] = refl
  beside_or-insert (e ∷ entries) = by (same_group group e.0) refl (beside_or-insert entries)
    where
      by : (b : Bool) → same_group group e.0 ≡ b
          → beside_or other (insert_entry same_group entries group value) asked ≡ (cond (same_group asked group) value (beside_or other entries asked))
          → beside_or other (insert_entry same_group (e ∷ entries) group value) asked
          ≡ (cond (same_group asked group) value (beside_or other (e ∷ entries) asked))
      by true p rest = beside_here e entries p
      by false p rest = beside_there e entries p rest

-- ---- each group once

-- no two of them are one
abbrev pub Distinct : List Group → Type 0
Distinct [] = ⊤
Distinct (group ∷ groups) = (list_any (same_group group) groups ≡ false) × Distinct groups

-- the others than a group
abbrev pub others : Group → List Group → List Group
others group groups = filter (λ other. not (same_group group other)) groups

any_others_step : (asked group g : Group) (groups : List Group) (b : Bool) → same_group group g ≡ b → same_group asked group ≡ false
    → list_any (same_group asked) (others group groups) ≡ list_any (same_group asked) groups
    → list_any (same_group asked) (others group (g ∷ groups)) ≡ list_any (same_group asked) (g ∷ groups)
any_others_step asked group g groups true p apart rest =
    let away : same_group asked g ≡ false = subst (λ x. same_group asked x ≡ false) (same_is group g p) apart in
    ap (λ b. list_any (same_group asked) (cond (not b) (g ∷ others group groups) (others group groups))) p
    ∙ rest ∙ sym (ap (λ b. b || list_any (same_group asked) groups) away)
any_others_step asked group g groups false p apart rest =
    ap (λ b. list_any (same_group asked) (cond (not b) (g ∷ others group groups) (others group groups))) p
    ∙ ap (λ b. same_group asked g || b) rest

any_others : (asked group : Group) (groups : List Group) → same_group asked group ≡ false
    → list_any (same_group asked) (others group groups) ≡ list_any (same_group asked) groups
any_others asked group [] apart = refl
any_others asked group (g ∷ groups) apart =
    any_others_step asked group g groups (same_group group g) refl apart (any_others asked group groups apart)

any_once_step : (asked group : Group) (groups : List Group) (b : Bool) → same_group asked group ≡ b
    → list_any (same_group asked) (each_once groups) ≡ list_any (same_group asked) groups
    → list_any (same_group asked) (each_once (group ∷ groups)) ≡ list_any (same_group asked) (group ∷ groups)
any_once_step asked group groups true p rest =
    ap (λ b. b || list_any (same_group asked) (others group (each_once groups))) p
    ∙ sym (ap (λ b. b || list_any (same_group asked) groups) p)
any_once_step asked group groups false p rest =
    ap (λ l. same_group asked group || l) (any_others asked group (each_once groups) p ∙ rest)

-- a group is among them as often
pub any_each_once : (asked : Group) (groups : List Group) → list_any (same_group asked) (each_once groups) ≡ list_any (same_group asked) groups
any_each_once asked [] = refl
any_each_once asked (group ∷ groups) =
    any_once_step asked group groups (same_group asked group) refl (any_each_once asked groups)

push_step : (g group : Group) (groups once : List Group) (b a : Bool) → same_group g group ≡ b → list_any (same_group g) groups ≡ a
    → group ∷ others group (cond a once (once ++ g ∷ []))
    ≡ (cond (same_group g group || list_any (same_group g) groups) (group ∷ others group once) ((group ∷ others group once) ++ g ∷ []))
push_step g group groups once true true p q = rw (p) refl
push_step g group groups once false true p q = rw (p, q) refl
push_step g group groups once true false p q =
    ap (λ l. group ∷ l) (filter-append (λ other. not (same_group group other)) once (g ∷ [])
    ∙ ap (λ b. others group once ++ cond (not b) (g ∷ []) []) (same_swap g group true p)
    ∙ append-nil (others group once))
    ∙ sym (ap (λ b. cond (b || list_any (same_group g) groups) (group ∷ others group once) ((group ∷ others group once) ++ g ∷ [])) p)
push_step g group groups once false false p q =
    ap (λ l. group ∷ l) (filter-append (λ other. not (same_group group other)) once (g ∷ [])
    ∙ ap (λ b. others group once ++ cond (not b) (g ∷ []) []) (same_swap g group false p))
    ∙ sym (ap (λ b. cond b (group ∷ others group once) ((group ∷ others group once) ++ g ∷ [])) (ap (λ b. b || list_any (same_group g) groups) p ∙ q))

-- one more group, last
pub each_once-push : (g : Group) (groups : List Group)
    → each_once (groups ++ g ∷ []) ≡ (cond (list_any (same_group g) groups) (each_once groups) (each_once groups ++ g ∷ []))
each_once-push g [] = refl
each_once-push g (group ∷ groups) =
    ap (λ l. group ∷ others group l) (each_once-push g groups)
    ∙ push_step g group groups (each_once groups) (same_group g group) (list_any (same_group g) groups) refl refl

none_kept_step : (p : Group → Bool) (asked g : Group) (groups : List Group) (b : Bool) → p g ≡ b → same_group asked g ≡ false
    → list_any (same_group asked) (filter p groups) ≡ false → list_any (same_group asked) (filter p (g ∷ groups)) ≡ false
none_kept_step p asked g groups true q away rest =
    ap (λ b. list_any (same_group asked) (cond b (g ∷ filter p groups) (filter p groups))) q
    ∙ ap (λ b. b || list_any (same_group asked) (filter p groups)) away ∙ rest
none_kept_step p asked g groups false q away rest =
    ap (λ b. list_any (same_group asked) (cond b (g ∷ filter p groups) (filter p groups))) q ∙ rest

none_kept : (p : Group → Bool) (asked : Group) (groups : List Group) → list_any (same_group asked) groups ≡ false
    → list_any (same_group asked) (filter p groups) ≡ false
none_kept p asked [] none = refl
none_kept p asked (g ∷ groups) none =
    let parts = or_parts (same_group asked g) (list_any (same_group asked) groups) none in
    none_kept_step p asked g groups (p g) refl parts.0 (none_kept p asked groups parts.1)

none_among_step : (group g : Group) (groups : List Group) (b : Bool) → same_group group g ≡ b
    → list_any (same_group group) (others group groups) ≡ false → list_any (same_group group) (others group (g ∷ groups)) ≡ false
none_among_step group g groups true q rest =
    ap (λ b. list_any (same_group group) (cond (not b) (g ∷ others group groups) (others group groups))) q ∙ rest
none_among_step group g groups false q rest =
    ap (λ b. list_any (same_group group) (cond (not b) (g ∷ others group groups) (others group groups))) q
    ∙ ap (λ b. b || list_any (same_group group) (others group groups)) q ∙ rest

none_among_others : (group : Group) (groups : List Group) → list_any (same_group group) (others group groups) ≡ false
none_among_others group [] = refl
none_among_others group (g ∷ groups) = none_among_step group g groups (same_group group g) refl (none_among_others group groups)

distinct_kept_step : (p : Group → Bool) (g : Group) (groups : List Group) (b : Bool) → p g ≡ b → list_any (same_group g) groups ≡ false
    → Distinct (filter p groups) → Distinct (filter p (g ∷ groups))
distinct_kept_step p g groups true q none rest =
    subst (λ b. Distinct (cond b (g ∷ filter p groups) (filter p groups))) (sym q) (none_kept p g groups none, rest)
distinct_kept_step p g groups false q none rest =
    subst (λ b. Distinct (cond b (g ∷ filter p groups) (filter p groups))) (sym q) rest

distinct_kept : (p : Group → Bool) (groups : List Group) → Distinct groups → Distinct (filter p groups)
distinct_kept p [] d = tt
distinct_kept p (g ∷ groups) d = distinct_kept_step p g groups (p g) refl d.0 (distinct_kept p groups d.1)

pub distinct_once : (groups : List Group) → Distinct (each_once groups)
distinct_once [] = tt
distinct_once (group ∷ groups) =
    (none_among_others group (each_once groups), distinct_kept (λ other. not (same_group group other)) (each_once groups) (distinct_once groups))

-- ---- something beside each group

abbrev pub with_each : {X : Type 0} → (Group → X) → List Group → List (Group × X)
with_each f groups = map (λ group. (group, f group)) groups

module _ {X : Type 0} (f f' : Group → X) (g : Group) (value : X) (here : f' g ≡ value) (elsewhere : (h : Group) → same_group g h ≡ false → f' h ≡ f h) where
  each_agrees : (groups : List Group) → list_any (same_group g) groups ≡ false → with_each f groups ≡ with_each f' groups
  each_agrees [] none = refl
  each_agrees (h ∷ groups) none =
      let parts = or_parts (same_group g h) (list_any (same_group g) groups) none in
      ap (λ x. (h, x) ∷ with_each f groups) (sym (elsewhere h parts.0)) ∙ ap (λ l. (h, f' h) ∷ l) (each_agrees groups parts.1)

  first_step : (h : Group) (groups : List Group) → same_group g h ≡ true → list_any (same_group h) groups ≡ false
      → insert_entry same_group (with_each f (h ∷ groups)) g value
      ≡ with_each f' (cond (same_group g h || list_any (same_group g) groups) (h ∷ groups) ((h ∷ groups) ++ g ∷ []))
  first_step h groups p none =
      let none_g = subst (λ x. list_any (same_group x) groups ≡ false) (sym (same_is g h p)) none in
      let here_h = subst (λ x. f' x ≡ value) (same_is g h p) here in
      ap (λ b. cond b ((h, value) ∷ with_each f groups) ((h, f h) ∷ insert_entry same_group (with_each f groups) g value)) p
      ∙ ap (λ x. (h, x) ∷ with_each f groups) (sym here_h) ∙ ap (λ l. (h, f' h) ∷ l) (each_agrees groups none_g)
      ∙ sym (ap (λ b. with_each f' (cond (b || list_any (same_group g) groups) (h ∷ groups) ((h ∷ groups) ++ g ∷ []))) p)

  next_step : (h : Group) (groups : List Group) (a : Bool) → same_group g h ≡ false → list_any (same_group g) groups ≡ a
      → insert_entry same_group (with_each f groups) g value ≡ with_each f' (cond (list_any (same_group g) groups) groups (groups ++ g ∷ []))
      → insert_entry same_group (with_each f (h ∷ groups)) g value
      ≡ with_each f' (cond (same_group g h || list_any (same_group g) groups) (h ∷ groups) ((h ∷ groups) ++ g ∷ []))
  next_step h groups a p q rest =
      ap (λ b. cond b ((h, value) ∷ with_each f groups) ((h, f h) ∷ insert_entry same_group (with_each f groups) g value)) p
      ∙ ap (λ x. (h, x) ∷ insert_entry same_group (with_each f groups) g value) (sym (elsewhere h p))
      ∙ ap (λ l. (h, f' h) ∷ l) (rest ∙ ap (λ b. with_each f' (cond b groups (groups ++ g ∷ []))) q)
      ∙ both a
      ∙ sym (ap (λ b. with_each f' (cond b (h ∷ groups) ((h ∷ groups) ++ g ∷ []))) (ap (λ b. b || list_any (same_group g) groups) p ∙ q))
    where
      both : (b : Bool) → (h, f' h) ∷ with_each f' (cond b groups (groups ++ g ∷ [])) ≡ with_each f' (cond b (h ∷ groups) ((h ∷ groups) ++ g ∷ []))
      both true = refl
      both false = refl

  -- what stands beside one group changes, and the group goes last where it is new
  pub insert-with_each : (groups : List Group) → Distinct groups
      → insert_entry same_group (with_each f groups) g value ≡ with_each f' (cond (list_any (same_group g) groups) groups (groups ++ g ∷ []))
  insert-with_each [] d = ap (λ x. (g, x) ∷ []) (sym here)
  insert-with_each (h ∷ groups) d = by (same_group g h) refl (insert-with_each groups d.1)
    where
      by : (b : Bool) → same_group g h ≡ b
          → insert_entry same_group (with_each f groups) g value ≡ with_each f' (cond (list_any (same_group g) groups) groups (groups ++ g ∷ []))
          → insert_entry same_group (with_each f (h ∷ groups)) g value
          ≡ with_each f' (cond (same_group g h || list_any (same_group g) groups) (h ∷ groups) ((h ∷ groups) ++ g ∷ []))
      by true p rest = first_step h groups p d.0
      by false p rest = next_step h groups (list_any (same_group g) groups) p refl rest

pub beside-with_each : {X : Type 0} (other : X) (f : Group → X) (g : Group) (groups : List Group)
    → beside_or other (with_each f groups) g ≡ (cond (list_any (same_group g) groups) (f g) other)
beside-with_each other f g [] = refl
beside-with_each other f g (h ∷ groups) = by (same_group g h) refl (beside-with_each other f g groups)
  where
    by : (b : Bool) → same_group g h ≡ b
        → beside_or other (with_each f groups) g ≡ (cond (list_any (same_group g) groups) (f g) other)
        → beside_or other (with_each f (h ∷ groups)) g ≡ (cond (same_group g h || list_any (same_group g) groups) (f g) other)
    by true p rest =
        ap (λ b. cond b (f h) (beside_or other (with_each f groups) g)) p ∙ ap f (sym (same_is g h p))
        ∙ sym (ap (λ b. cond (b || list_any (same_group g) groups) (f g) other) p)
    by false p rest =
        ap (λ b. cond b (f h) (beside_or other (with_each f groups) g)) p ∙ rest
        ∙ sym (ap (λ b. cond (b || list_any (same_group g) groups) (f g) other) p)
