-- Rules that are kept under texts by the forms of their matchers: which of them is the rule for a name.
use Rattle.std.proofs.Common.{◌≡◌, ℕ, ◌≤◌, ◌-◌, Bool, true, false, cond, List, [], ◌∷◌, ◌++◌, length, Option, Some, None, refl, sym, ap, ◌∙◌, subst, true≢false, arith, ◌⊎◌, inl, inr}
use Rattle.std.specs.Prelude.{fold, ◌<◌, option_map, is_some, bytes_eq, nat_le, ◌||◌, ◌&&◌, ⊤}
use Rattle.std.specs.List.{list_all, list_any, AllByRecursion}
use Rattle.std.specs.List.Sorted.{IsStrictlySortedBy}
use Rattle.std.specs.Map.{keys_of}
use Rattle.std.specs.BTreeMap.{BTreeMap, insert_entry, is_at}
use Rattle.std.specs.BTreeSet.{BTreeSet, contains, UpdatesBy}
use Rattle.std.specs.Cmp.Lexicographic.{slice_cmp}
use Rattle.std.specs.Ordering.{is_eq, is_gt, nat_cmp, match_ordering, ordering_reverse}
use Rattle.std.specs.declared.cmp.Ordering.{Ordering}
use Rattle.std.specs.declared.cmp.Ordering.TheVariants.{Less, Equal, Greater}
use Rattle.std.proofs.lemmas.Bool.{and_from, and_parts, leb-true, le-leb, lt-leb}
use Rattle.std.proofs.lemmas.Bool.Decides.{leb_tells}
use Rattle.std.specs.Cmp.{nat_cmp_is}
use Rattle.std.proofs.lemmas.List.{length-take, length-take-le, length-drop}
use Rattle.std.proofs.lemmas.Cmp.{nat_list_cmp_total}
use Rattle.std.proofs.lemmas.List.Sums.{fold-append}
use Rattle.std.proofs.lemmas.List.Folds.{list_all-append}
use Rattle.std.proofs.lemmas.Map.Lookups.{exact_bytes, exact_unsigned}
use Rattle.std.proofs.lemmas.Slice.Eq.{bytes_eq-Decides}
use Rattle.prom_format.specs.Matchers.{MatcherText, Full, Prefix, Suffix, matcher_cmp, fits, preferred, rule_for}
use Rattle.distributions.specs.Rules.{Text, text_cmp, under, all_rules, rule_behind, stands_under, IsMeasured, form, part_at, lesser, tried}
use Rattle.distributions.specs.declared.rules.Side.{Side}
use Rattle.distributions.specs.declared.rules.Side.TheVariants.{Beginning, End}
use Rattle.distributions.proofs.Fitting.{first_fit, insert-first_fit, rule_for-sorted, stays}

-- what a form of matchers keeps of the order of texts
abbrev pub Keeps : (List ℕ → MatcherText) → Type 0
Keeps F = (a b : List ℕ) → slice_cmp nat_cmp a b ≡ matcher_cmp (F a) (F b)

module _ {X : Type 0} (F : List ℕ → MatcherText) (is : Keeps F) where
  at_order : (m : Text) (x : X) (es : List (Text × X)) (k : Text) (v : X) → under F (insert_entry text_cmp es k v) ≡ insert_entry matcher_cmp (under F es) (F k.items) v
      → (o : Ordering) → under F (match_ordering o ((k, v) ∷ (m, x) ∷ es) ((m, v) ∷ es) ((m, x) ∷ insert_entry text_cmp es k v))
      ≡ match_ordering o ((F k.items, v) ∷ under F ((m, x) ∷ es)) ((F m.items, v) ∷ under F es) ((F m.items, x) ∷ insert_entry matcher_cmp (under F es) (F k.items) v)
  at_order m x es k v rest Less = refl
  at_order m x es k v rest Equal = refl
  at_order m x es k v rest Greater = ap (λ others. (F m.items, x) ∷ others) rest

  -- inserting by texts is inserting by matchers
  under-insert : (es : List (Text × X)) (k : Text) (v : X) → under F (insert_entry text_cmp es k v) ≡ insert_entry matcher_cmp (under F es) (F k.items) v
  under-insert [] k v = refl
  under-insert ((m, x) ∷ es) k v =
      at_order m x es k v (under-insert es k v) (text_cmp k m)
      ∙ ap (λ o. match_ordering o ((F k.items, v) ∷ under F ((m, x) ∷ es)) ((F m.items, v) ∷ under F es) ((F m.items, x) ∷ insert_entry matcher_cmp (under F es) (F k.items) v)) (is k.items m.items)

  all_above : (k : Text) (es : List (Text × X)) → AllByRecursion (λ y. text_cmp k y ≡ Less) (keys_of es) → AllByRecursion (λ y. matcher_cmp (F k.items) y ≡ Less) (keys_of (under F es))
  all_above k [] all = tt
  all_above k ((m, x) ∷ es) all = (sym (is k.items m.items) ∙ all.0, all_above k es all.1)

  -- what stands in order by texts stands in order by matchers
  pub under-sorted : (es : List (Text × X)) → IsStrictlySortedBy text_cmp (keys_of es) → IsStrictlySortedBy matcher_cmp (keys_of (under F es))
  unfolding IsStrictlySortedBy
  under-sorted [] sorted = tt
  under-sorted ((m, x) ∷ es) sorted = (all_above m es sorted.0, under-sorted es sorted.1)

  -- the rule for a name, where one more stands under a text
  pub more_under : (name : List ℕ) (es es' : List (Text × X)) (k : Text) (v : X) → IsStrictlySortedBy text_cmp (keys_of es) → IsStrictlySortedBy text_cmp (keys_of es') → es' ≡ insert_entry text_cmp es k v
      → rule_for (under F es') name ≡ rule_behind name (rule_for (under F es) name) (F k.items, v)
  more_under name es es' k v sorted sorted' is' =
      rule_for-sorted name (under F es') (under-sorted es' sorted')
      ∙ ap (λ l. first_fit name (under F l)) is'
      ∙ ap (first_fit name) (under-insert es k v)
      ∙ insert-first_fit name (under F es) (F k.items) v (under-sorted es sorted)
      ∙ ap (λ best. rule_behind name best (F k.items, v)) (sym (rule_for-sorted name (under F es) (under-sorted es sorted)))

-- ---- rules of several forms

-- the first of two that is there
abbrev pub either : {X : Type 0} → Option X → Option X → Option X
either (Some x) other = Some x
either None other = other

pub either_some : {X : Type 0} (best others : Option (MatcherText × X)) (x : X) → Some x ≡ option_map (λ rule. rule.1) best → Some x ≡ option_map (λ rule. rule.1) (either best others)
either_some None others x e = cc
either_some (Some best) others x e = e

pub either_none : {X : Type 0} (best others : Option (MatcherText × X)) → None ≡ option_map (λ rule. rule.1) best → option_map (λ rule. rule.1) others ≡ option_map (λ rule. rule.1) (either best others)
either_none None others e = refl
either_none (Some best) others e = cc

module _ {X : Type 0} (name : List ℕ) where
  -- what a rule for a name says of a matcher
  abbrev pub Among : (MatcherText → Type 0) → Option (MatcherText × X) → Type 0
  Among P None = ⊤
  Among P (Some rule) = P rule.0

  among_kept : (P : MatcherText → Type 0) (best : Option (MatcherText × X)) (rule : MatcherText × X) → Among P best → P rule.0 → Among P (rule_behind name best rule)
  among_kept P best rule there new =
      elim (fits rule.0 name) as (λ b. Among P (cond b (preferred best rule) best)) [
        | true ↦ kept best there
        | false ↦ there
      ]
    where
      kept : (best : Option (MatcherText × X)) → Among P best → Among P (preferred best rule)
      kept None there = new
      kept (Some best) there =
          elim (is_gt (matcher_cmp rule.0 best.0)) as (λ b. Among P (cond b (Some best) (Some rule))) [
            | true ↦ there
            | false ↦ new
          ]

  -- what all matchers pass the matcher of the rule passes
  among_fold : (P : MatcherText → Type 0) (rules : List (MatcherText × X)) (best : Option (MatcherText × X)) → Among P best → AllByRecursion P (keys_of rules) → Among P (fold (rule_behind name) best rules)
  among_fold P [] best there all = there
  among_fold P (rule ∷ rules) best there all = among_fold P rules (rule_behind name best rule) (among_kept P best rule there all.0) all.1

  -- behind rules whose matchers are all before the others the others count only where none of those fits
  pub in_parts : (rules others : List (MatcherText × X)) → Among (λ m. AllByRecursion (λ y. matcher_cmp m y ≡ Less) (keys_of others)) (rule_for rules name)
      → rule_for (rules ++ others) name ≡ either (rule_for rules name) (rule_for others name)
  in_parts rules others before = fold-append (rule_behind name) None rules others ∙ by (rule_for rules name) before
    where
      by : (best : Option (MatcherText × X)) → Among (λ m. AllByRecursion (λ y. matcher_cmp m y ≡ Less) (keys_of others)) best → fold (rule_behind name) best others ≡ either best (rule_for others name)
      by None before = refl
      by (Some rule) before = stays name rule.0 rule.1 others before

  -- one more rule before all the others
  pub behind_first : (best others : Option (MatcherText × X)) (rule : MatcherText × X) → Among (λ m. matcher_cmp rule.0 m ≡ Less) others
      → either (rule_behind name best rule) others ≡ rule_behind name (either best others) rule
  behind_first best others rule before =
      elim (fits rule.0 name) as (λ b. either (cond b (preferred best rule) best) others ≡ cond b (preferred (either best others) rule) (either best others)) [
        | true ↦ by best others before
        | false ↦ refl
      ]
    where
      by : (best others : Option (MatcherText × X)) → Among (λ m. matcher_cmp rule.0 m ≡ Less) others → either (preferred best rule) others ≡ preferred (either best others) rule
      by None None before = refl
      by None (Some other) before = ap (λ o. cond (is_gt o) (Some other) (Some rule)) (sym before)
      by (Some best) others before =
          elim (is_gt (matcher_cmp rule.0 best.0)) as (λ b. either (cond b (Some best) (Some rule)) others ≡ cond b (Some best) (Some rule)) [
            | true ↦ refl
            | false ↦ refl
          ]

  -- one more rule behind all those before it
  pub behind_second : (best others : Option (MatcherText × X)) (rule : MatcherText × X) → Among (λ m. matcher_cmp rule.0 m ≡ Greater) best
      → either best (rule_behind name others rule) ≡ rule_behind name (either best others) rule
  behind_second None others rule after = refl
  behind_second (Some best) others rule after =
      elim (fits rule.0 name) as (λ b. Some best ≡ cond b (preferred (Some best) rule) (Some best)) [
        | true ↦ ap (λ o. cond (is_gt o) (Some best) (Some rule)) (sym after)
        | false ↦ refl
      ]

  all_of : (F : List ℕ → MatcherText) (P : MatcherText → Type 0) → ((t : List ℕ) → P (F t)) → (es : List (Text × X)) → AllByRecursion P (keys_of (under F es))
  all_of F P h [] = tt
  all_of F P h (e ∷ es) = (h e.0.items, all_of F P h es)

  all_of_two : (P : MatcherText → Type 0) (xs ys : List (MatcherText × X)) → AllByRecursion P (keys_of xs) → AllByRecursion P (keys_of ys) → AllByRecursion P (keys_of (xs ++ ys))
  all_of_two P [] ys hx hy = hy
  all_of_two P (x ∷ xs) ys hx hy = (hx.0, all_of_two P xs ys hx.1 hy)

  -- the rule under matchers of one form is of that form
  pub of_form : (F : List ℕ → MatcherText) (P : MatcherText → Type 0) → ((t : List ℕ) → P (F t)) → (es : List (Text × X)) → Among P (rule_for (under F es) name)
  of_form F P h es = among_fold P (under F es) None tt (all_of F P h es)

  -- the rule for a name among those of all forms
  pub by_forms : (ws bs es : List (Text × X)) → rule_for (all_rules ws bs es) name
      ≡ either (rule_for (under Full ws) name) (either (rule_for (under Prefix bs) name) (rule_for (under Suffix es) name))
  by_forms ws bs es =
      in_parts (under Full ws) (under Prefix bs ++ under Suffix es)
      (of_form Full (λ m. AllByRecursion (λ y. matcher_cmp m y ≡ Less) (keys_of (under Prefix bs ++ under Suffix es)))
      (λ t. all_of_two (λ y. matcher_cmp (Full t) y ≡ Less) (under Prefix bs) (under Suffix es) (all_of Prefix (λ y. matcher_cmp (Full t) y ≡ Less) (λ b. refl) bs) (all_of Suffix (λ y. matcher_cmp (Full t) y ≡ Less) (λ b. refl) es)) ws)
      ∙ ap (either (rule_for (under Full ws) name))
      (in_parts (under Prefix bs) (under Suffix es) (of_form Prefix (λ m. AllByRecursion (λ y. matcher_cmp m y ≡ Less) (keys_of (under Suffix es))) (λ t. all_of Suffix (λ y. matcher_cmp (Prefix t) y ≡ Less) (λ b. refl) es) bs))

  among_either : (P : MatcherText → Type 0) (best others : Option (MatcherText × X)) → Among P best → Among P others → Among P (either best others)
  among_either P None others b o = o
  among_either P (Some best) others b o = b

  -- ---- one more rule

  pub put_whole : (ws ws' bs es : List (Text × X)) (k : Text) (v : X) → IsStrictlySortedBy text_cmp (keys_of ws) → IsStrictlySortedBy text_cmp (keys_of ws') → ws' ≡ insert_entry text_cmp ws k v
      → rule_for (all_rules ws' bs es) name ≡ rule_behind name (rule_for (all_rules ws bs es) name) (Full k.items, v)
  put_whole ws ws' bs es k v sorted sorted' is =
      by_forms ws' bs es
      ∙ ap (λ w. either w (either (rule_for (under Prefix bs) name) (rule_for (under Suffix es) name))) (more_under Full (λ a b. refl) name ws ws' k v sorted sorted' is)
      ∙ behind_first (rule_for (under Full ws) name) (either (rule_for (under Prefix bs) name) (rule_for (under Suffix es) name)) (Full k.items, v)
      (among_either (λ m. matcher_cmp (Full k.items) m ≡ Less) (rule_for (under Prefix bs) name) (rule_for (under Suffix es) name)
      (of_form Prefix (λ m. matcher_cmp (Full k.items) m ≡ Less) (λ t. refl) bs) (of_form Suffix (λ m. matcher_cmp (Full k.items) m ≡ Less) (λ t. refl) es))
      ∙ ap (λ best. rule_behind name best (Full k.items, v)) (sym (by_forms ws bs es))

  pub put_beginning : (ws bs bs' es : List (Text × X)) (k : Text) (v : X) → IsStrictlySortedBy text_cmp (keys_of bs) → IsStrictlySortedBy text_cmp (keys_of bs') → bs' ≡ insert_entry text_cmp bs k v
      → rule_for (all_rules ws bs' es) name ≡ rule_behind name (rule_for (all_rules ws bs es) name) (Prefix k.items, v)
  put_beginning ws bs bs' es k v sorted sorted' is =
      by_forms ws bs' es
      ∙ ap (λ b. either (rule_for (under Full ws) name) (either b (rule_for (under Suffix es) name))) (more_under Prefix (λ a b. refl) name bs bs' k v sorted sorted' is)
      ∙ ap (either (rule_for (under Full ws) name)) (behind_first (rule_for (under Prefix bs) name) (rule_for (under Suffix es) name) (Prefix k.items, v) (of_form Suffix (λ m. matcher_cmp (Prefix k.items) m ≡ Less) (λ t. refl) es))
      ∙ behind_second (rule_for (under Full ws) name) (either (rule_for (under Prefix bs) name) (rule_for (under Suffix es) name)) (Prefix k.items, v) (of_form Full (λ m. matcher_cmp (Prefix k.items) m ≡ Greater) (λ t. refl) ws)
      ∙ ap (λ best. rule_behind name best (Prefix k.items, v)) (sym (by_forms ws bs es))

  pub put_end : (ws bs es es' : List (Text × X)) (k : Text) (v : X) → IsStrictlySortedBy text_cmp (keys_of es) → IsStrictlySortedBy text_cmp (keys_of es') → es' ≡ insert_entry text_cmp es k v
      → rule_for (all_rules ws bs es') name ≡ rule_behind name (rule_for (all_rules ws bs es) name) (Suffix k.items, v)
  put_end ws bs es es' k v sorted sorted' is =
      by_forms ws bs es'
      ∙ ap (λ e. either (rule_for (under Full ws) name) (either (rule_for (under Prefix bs) name) e)) (more_under Suffix (λ a b. refl) name es es' k v sorted sorted' is)
      ∙ ap (either (rule_for (under Full ws) name)) (behind_second (rule_for (under Prefix bs) name) (rule_for (under Suffix es) name) (Suffix k.items, v) (of_form Prefix (λ m. matcher_cmp (Suffix k.items) m ≡ Greater) (λ t. refl) bs))
      ∙ behind_second (rule_for (under Full ws) name) (either (rule_for (under Prefix bs) name) (rule_for (under Suffix es) name)) (Suffix k.items, v) (of_form Full (λ m. matcher_cmp (Suffix k.items) m ≡ Greater) (λ t. refl) ws)
      ∙ ap (λ best. rule_behind name best (Suffix k.items, v)) (sym (by_forms ws bs es))

-- ---- what all rules say

module _ {X : Type 0} (test : X → Bool) where
  placed_tests : (F : List ℕ → MatcherText) (m : Text) (x : X) (es : List (Text × X)) (k : Text) (v : X) (o : Ordering)
      → (test x && list_all (λ rule. test rule.1) (under F es)) ≡ true → test v ≡ true → list_all (λ rule. test rule.1) (under F (insert_entry text_cmp es k v)) ≡ true
      → list_all (λ rule. test rule.1) (under F (match_ordering o ((k, v) ∷ (m, x) ∷ es) ((m, v) ∷ es) ((m, x) ∷ insert_entry text_cmp es k v))) ≡ true
  placed_tests F m x es k v Less all passes rest = and_from _ _ passes all
  placed_tests F m x es k v Equal all passes rest = and_from _ _ passes (and_parts _ _ all).1
  placed_tests F m x es k v Greater all passes rest = and_from _ _ (and_parts _ _ all).0 rest

  pub inserted_tests : (F : List ℕ → MatcherText) (es : List (Text × X)) (k : Text) (v : X)
      → list_all (λ rule. test rule.1) (under F es) ≡ true → test v ≡ true → list_all (λ rule. test rule.1) (under F (insert_entry text_cmp es k v)) ≡ true
  inserted_tests F [] k v all passes = and_from _ _ passes refl
  inserted_tests F ((m, x) ∷ es) k v all passes =
      placed_tests F m x es k v (text_cmp k m) all passes (inserted_tests F es k v (and_parts _ _ all).1 passes)

  pub tests_of_all : (ws bs es : List (Text × X)) → list_all (λ rule. test rule.1) (all_rules ws bs es) ≡ true
      → (list_all (λ rule. test rule.1) (under Full ws) ≡ true) × (list_all (λ rule. test rule.1) (under Prefix bs) ≡ true) × (list_all (λ rule. test rule.1) (under Suffix es) ≡ true)
  tests_of_all ws bs es all =
      let one = and_parts _ _ (sym (list_all-append (λ (rule : MatcherText × X). test rule.1) (under Full ws) (under Prefix bs ++ under Suffix es)) ∙ all) in
      let two = and_parts _ _ (sym (list_all-append (λ (rule : MatcherText × X). test rule.1) (under Prefix bs) (under Suffix es)) ∙ one.1) in
      (one.0, two.0, two.1)

  pub all_tests : (ws bs es : List (Text × X)) → list_all (λ rule. test rule.1) (under Full ws) ≡ true → list_all (λ rule. test rule.1) (under Prefix bs) ≡ true → list_all (λ rule. test rule.1) (under Suffix es) ≡ true
      → list_all (λ rule. test rule.1) (all_rules ws bs es) ≡ true
  all_tests ws bs es w b e =
      list_all-append (λ (rule : MatcherText × X). test rule.1) (under Full ws) (under Prefix bs ++ under Suffix es)
      ∙ and_from _ _ w (list_all-append (λ (rule : MatcherText × X). test rule.1) (under Prefix bs) (under Suffix es) ∙ and_from _ _ b e)

-- ---- the rule under a text

-- a text ties with itself
itself : (a : List ℕ) → slice_cmp nat_cmp a a ≡ Equal
itself a = by (slice_cmp nat_cmp a a) (nat_list_cmp_total.antisymm a a)
  where
    by : (o : Ordering) → o ≡ ordering_reverse o → o ≡ Equal
    by Less e = cc
    by Equal e = refl
    by Greater e = cc

-- a text is equal to another where it ties with it
ties : (a b : List ℕ) → bytes_eq a b ≡ is_eq (slice_cmp nat_cmp b a)
ties a b = by (slice_cmp nat_cmp b a) refl
  where
    other : (o : Ordering) → slice_cmp nat_cmp b a ≡ o → is_eq o ≡ false → bytes_eq a b ≡ false
    other o e differ = one (bytes_eq a b) refl
      where
        one : (t : Bool) → bytes_eq a b ≡ t → bytes_eq a b ≡ false
        one false h = h
        one true h =
            let same : a ≡ b = (bytes_eq-Decides a b).0 h in
            absurd (true≢false (sym (ap is_eq (subst (λ c. slice_cmp nat_cmp c a ≡ Equal) same (itself a))) ∙ ap is_eq e ∙ differ))

    by : (o : Ordering) → slice_cmp nat_cmp b a ≡ o → bytes_eq a b ≡ is_eq (slice_cmp nat_cmp b a)
    by Less e = other Less e refl ∙ sym (ap is_eq e)
    by Greater e = other Greater e refl ∙ sym (ap is_eq e)
    by Equal e = (bytes_eq-Decides a b).1 (sym (exact_bytes b a e)) ∙ sym (ap is_eq e)

-- the rule of the matcher by a whole name is what stands under the name
first_whole : {X : Type 0} (name : List ℕ) (ws : List (Text × X)) → option_map (λ rule. rule.1) (first_fit name (under Full ws)) ≡ stands_under name ws
first_whole name [] = refl
first_whole name ((k, x) ∷ ws) =
    sym (ap (λ b. option_map (λ rule. rule.1) (cond b (Some (Full k.items, x)) (first_fit name (under Full ws)))) (sym (ties k.items name)))
    ∙ (elim (is_eq (slice_cmp nat_cmp name k.items)) as (λ b. option_map (λ rule. rule.1) (cond b (Some (Full k.items, x)) (first_fit name (under Full ws))) ≡ cond b (Some x) (stands_under name ws)) [
      | true ↦ refl
      | false ↦ first_whole name ws
    ])

pub whole : {X : Type 0} (name : List ℕ) (ws : List (Text × X)) → IsStrictlySortedBy text_cmp (keys_of ws) → option_map (λ rule. rule.1) (rule_for (under Full ws) name) ≡ stands_under name ws
whole name ws sorted = ap (option_map (λ rule. rule.1)) (rule_for-sorted name (under Full ws) (under-sorted Full (λ a b. refl) ws sorted)) ∙ first_whole name ws

keeps : (s : Side) → Keeps (form s)
keeps Beginning a b = refl
keeps End a b = refl

-- a text fits where it is the part that is as long
fits_part : (name : List ℕ) (s : Side) (t : List ℕ) → fits (form s t) name ≡ bytes_eq t (part_at s name (length t))
fits_part name Beginning t = refl
fits_part name End t = refl

-- what holds of all numbers of a set holds of one that it contains
listed : (P : ℕ → Type 0) (n : ℕ) (ns : List ℕ) → list_any (λ k. is_eq (nat_cmp n k)) ns ≡ true → AllByRecursion P ns → P n
listed P n [] h all = absurd (true≢false (sym h))
listed P n (k ∷ ns) h all = by (listed P n ns) (nat_cmp n k) refl h
  where
    by : (list_any (λ k. is_eq (nat_cmp n k)) ns ≡ true → AllByRecursion P ns → P n) → (o : Ordering) → nat_cmp n k ≡ o → (is_eq o || list_any (λ k. is_eq (nat_cmp n k)) ns) ≡ true → P n
    by rest Equal e h = subst P (sym (exact_unsigned n k e)) all.0
    by rest Less e h = rest h all.1
    by rest Greater e h = rest h all.1

below : (a b : ℕ) → nat_cmp a b ≡ Less → a < b
below a b e = by (leb_tells b a)
  where
    by : ((nat_le b a ≡ true) × (b ≤ a)) ⊎ ((nat_le b a ≡ false) × (a < b)) → a < b
    by (inr h) = h.1
    by (inl h) = other (leb_tells a b)
      where
        no_equal : Equal ≡ Less → a < b
        no_equal d = cc

        no_greater : Greater ≡ Less → a < b
        no_greater d = cc

        other : ((nat_le a b ≡ true) × (a ≤ b)) ⊎ ((nat_le a b ≡ false) × (b < a)) → a < b
        other (inl both) = no_equal (nat_cmp_is a b Equal (omega (arith, h.1, both.1)) ∙ e)
        other (inr more) = no_greater (nat_cmp_is a b Greater more.1 ∙ e)

all_below : (a n : ℕ) (ns : List ℕ) → a < n → AllByRecursion (λ m. nat_cmp n m ≡ Less) ns → AllByRecursion (λ m. a < m) ns
all_below a n [] less all = tt
all_below a n (m ∷ ns) less all = (omega (arith, less, below n m all.0), all_below a n ns less all.1)

-- ---- the least text on a side of a name

module _ {X : Type 0} (side : Side) (name : List ℕ) where
  -- where no text that fits has a rule none fits
  none_least : (es : List (Text × X)) → ((t : List ℕ) → fits (form side t) name ≡ true → stands_under t es ≡ None) → first_fit name (under (form side) es) ≡ None
  none_least [] none = refl
  none_least ((k, x) ∷ es) none = by (none_least es) (fits (form side k.items) name) refl
    where
      later : (t : List ℕ) → fits (form side t) name ≡ true → stands_under t es ≡ None
      later t fit = one (is_eq (slice_cmp nat_cmp t k.items)) (none t fit)
        where
          one : (b : Bool) → cond b (Some x) (stands_under t es) ≡ None → stands_under t es ≡ None
          one true e = cc
          one false e = e

      by : (((t : List ℕ) → fits (form side t) name ≡ true → stands_under t es ≡ None) → first_fit name (under (form side) es) ≡ None)
          → (b : Bool) → fits (form side k.items) name ≡ b → cond b (Some (form side k.items, x)) (first_fit name (under (form side) es)) ≡ None
      by rest true fit =
          let here : cond (is_eq (slice_cmp nat_cmp k.items k.items)) (Some x) (stands_under k.items es) ≡ None = none k.items fit in
          absurd (some_is (stands_under k.items es) (sym (ap (λ o. cond (is_eq o) (Some x) (stands_under k.items es)) (itself k.items)) ∙ here))
        where
          some_is : (o : Option X) → Some x ≡ None → ⊥
          some_is o e = cc
      by rest false misses = rest later

  -- what stands under a text stands behind all texts that are less
  found_behind : (t : List ℕ) (k : Text) (es : List (Text × X)) (x : X) → AllByRecursion (λ y. text_cmp k y ≡ Less) (keys_of es) → stands_under t es ≡ Some x → slice_cmp nat_cmp k.items t ≡ Less
  found_behind t k [] x above e = cc
  found_behind t k ((m, y) ∷ es) x above e = by (found_behind t k es x above.1) (slice_cmp nat_cmp t m.items) refl e
    where
      by : (stands_under t es ≡ Some x → slice_cmp nat_cmp k.items t ≡ Less) → (o : Ordering) → slice_cmp nat_cmp t m.items ≡ o → cond (is_eq o) (Some y) (stands_under t es) ≡ Some x → slice_cmp nat_cmp k.items t ≡ Less
      by rest Less e' h = rest h
      by rest Greater e' h = rest h
      by rest Equal e' h = subst (λ u. slice_cmp nat_cmp k.items u ≡ Less) (sym (exact_bytes t m.items e')) above.0

  -- the least text that fits and has a rule is the first that fits
  least_first : (es : List (Text × X)) (t : List ℕ) (x : X) → IsStrictlySortedBy text_cmp (keys_of es) → stands_under t es ≡ Some x → fits (form side t) name ≡ true
      → ((u : List ℕ) → slice_cmp nat_cmp u t ≡ Less → fits (form side u) name ≡ true → stands_under u es ≡ None) → first_fit name (under (form side) es) ≡ Some (form side t, x)
  unfolding IsStrictlySortedBy
  least_first [] t x sorted there fit less = cc
  least_first ((k, y) ∷ es) t x sorted there fit less = by (λ there' later. least_first es t x sorted.1 there' fit later) (slice_cmp nat_cmp t k.items) refl there
    where
      passes : (stands_under t es ≡ Some x → ((u : List ℕ) → slice_cmp nat_cmp u t ≡ Less → fits (form side u) name ≡ true → stands_under u es ≡ None) → first_fit name (under (form side) es) ≡ Some (form side t, x))
          → (b : Bool) → fits (form side k.items) name ≡ b → slice_cmp nat_cmp k.items t ≡ Less → stands_under t es ≡ Some x
          → cond b (Some (form side k.items, y)) (first_fit name (under (form side) es)) ≡ Some (form side t, x)
      passes rest true fit' below there' =
          let here : cond (is_eq (slice_cmp nat_cmp k.items k.items)) (Some y) (stands_under k.items es) ≡ None = less k.items below fit' in
          absurd (no_some y (sym (ap (λ o. cond (is_eq o) (Some y) (stands_under k.items es)) (itself k.items)) ∙ here))
        where
          no_some : (y : X) → Some y ≡ None → ⊥
          no_some y e = cc
      passes rest false misses below there' = rest there' later
        where
          later : (u : List ℕ) → slice_cmp nat_cmp u t ≡ Less → fits (form side u) name ≡ true → stands_under u es ≡ None
          later u below' fit' = one (is_eq (slice_cmp nat_cmp u k.items)) (less u below' fit')
            where
              one : (b : Bool) → cond b (Some y) (stands_under u es) ≡ None → stands_under u es ≡ None
              one true e = cc
              one false e = e

      by : (stands_under t es ≡ Some x → ((u : List ℕ) → slice_cmp nat_cmp u t ≡ Less → fits (form side u) name ≡ true → stands_under u es ≡ None) → first_fit name (under (form side) es) ≡ Some (form side t, x))
          → (o : Ordering) → slice_cmp nat_cmp t k.items ≡ o → cond (is_eq o) (Some y) (stands_under t es) ≡ Some x → first_fit name (under (form side) ((k, y) ∷ es)) ≡ Some (form side t, x)
      by rest Equal e h =
          let same : t ≡ k.items = exact_bytes t k.items e in
          let is : y ≡ x = some_same y x h in
          sym (ap (λ b. cond b (Some (form side k.items, y)) (first_fit name (under (form side) es))) (sym (subst (λ u. fits (form side u) name ≡ true) same fit)))
          ∙ (λ j. Some (form side (sym same j), is j))
        where
          some_same : (y x : X) → Some y ≡ Some x → y ≡ x
          some_same y x e = cc
      by rest Less e h = passes rest (fits (form side k.items) name) refl (found_behind t k es x sorted.0 h) h
      by rest Greater e h = passes rest (fits (form side k.items) name) refl (found_behind t k es x sorted.0 h) h

  -- ---- the search over the lengths

  module _ (es : List (Text × X)) where
    -- the least text so far is no greater than the part that is so long, where that has a rule
    abbrev pub Tried : Option (List ℕ × X) → ℕ → Type 0
    Tried None n = nat_le n (length name) ≡ true → stands_under (part_at side name n) es ≡ None
    Tried (Some best) n = nat_le n (length name) ≡ true → (stands_under (part_at side name n) es ≡ None) ⊎ (slice_cmp nat_cmp (part_at side name n) best.0 ≡ Less → ⊥)

    -- the least text so far fits and has a rule
    abbrev pub IsBest : Option (List ℕ × X) → Type 0
    IsBest None = ⊤
    IsBest (Some best) = (stands_under best.0 es ≡ Some best.1) × (fits (form side best.0) name ≡ true)

    length_part : (s : Side) (n : ℕ) → n ≤ length name → length (part_at s name n) ≡ n
    length_part Beginning n within = length-take-le n name within
    length_part End n within = length-drop (length name - n) name ∙ omega (arith, within)

    part_fits : (n : ℕ) → nat_le n (length name) ≡ true → fits (form side (part_at side name n)) name ≡ true
    part_fits n within =
        fits_part name side (part_at side name n)
        ∙ (bytes_eq-Decides (part_at side name n) (part_at side name (length (part_at side name n)))).1 (ap (part_at side name) (sym (length_part side n (leb-true n (length name) within))))

    -- what one more look-up makes of the least text so far
    abbrev After : Option (List ℕ × X) → ℕ → Option (List ℕ × X) → Type 0
    After best n now = IsBest now × Tried now n × ((m : ℕ) → Tried best m → Tried now m)

    too_long : (best : Option (List ℕ × X)) (n : ℕ) → nat_le n (length name) ≡ false → Tried best n
    too_long None n e = λ h. absurd (true≢false (sym h ∙ e))
    too_long (Some best) n e = λ h. absurd (true≢false (sym h ∙ e))

    without_rule : (best : Option (List ℕ × X)) (n : ℕ) → stands_under (part_at side name n) es ≡ None → Tried best n
    without_rule None n none = λ h. none
    without_rule (Some best) n none = λ h. inl none

    not_less : (t : List ℕ) → slice_cmp nat_cmp t t ≡ Less → ⊥
    not_less t less = no (sym (itself t) ∙ less)
      where
        no : Equal ≡ Less → ⊥
        no e = cc

    lesser_text : (t b : List ℕ) (x y : X) (n : ℕ) (o : Ordering) → slice_cmp nat_cmp t b ≡ o → t ≡ part_at side name n → stands_under t es ≡ Some x → fits (form side t) name ≡ true
        → IsBest (Some (b, y)) → After (Some (b, y)) n (cond (is_gt o) (Some (b, y)) (Some (t, x)))
    lesser_text t b x y n Greater e is has fit best =
        (best, λ h. inr (λ less. no (sym e ∙ ap (λ u. slice_cmp nat_cmp u b) is ∙ less)), λ m tried. tried)
      where
        no : Greater ≡ Less → ⊥
        no e = cc
    lesser_text t b x y n Equal e is has fit best =
        ((has, fit), λ h. inr (λ less. not_less t (ap (λ u. slice_cmp nat_cmp u t) is ∙ less)), λ m tried. subst (λ u. Tried (Some (u, x)) m) (sym (exact_bytes t b e)) tried)
    lesser_text t b x y n Less e is has fit best =
        ((has, fit), λ h. inr (λ less. not_less t (ap (λ u. slice_cmp nat_cmp u t) is ∙ less)), λ m tried h. by m (tried h))
      where
        by : (m : ℕ) → (stands_under (part_at side name m) es ≡ None) ⊎ (slice_cmp nat_cmp (part_at side name m) b ≡ Less → ⊥) → (stands_under (part_at side name m) es ≡ None) ⊎ (slice_cmp nat_cmp (part_at side name m) t ≡ Less → ⊥)
        by m (inl none) = inl none
        by m (inr above) = inr (λ less. above (nat_list_cmp_total.trans (part_at side name m) t b less e))

    after_found : (best : Option (List ℕ × X)) (n : ℕ) (x : X) → nat_le n (length name) ≡ true → stands_under (part_at side name n) es ≡ Some x → IsBest best
        → After best n (lesser best (part_at side name n) (Some x))
    after_found None n x within has best =
        ((has, part_fits n within), λ h. inr (not_less (part_at side name n)), λ m tried h. inl (tried h))
    after_found (Some (b, y)) n x within has best =
        lesser_text (part_at side name n) b x y n (slice_cmp nat_cmp (part_at side name n) b) refl refl has (part_fits n within) best

    after_look : (best : Option (List ℕ × X)) (n : ℕ) (o : Option X) → nat_le n (length name) ≡ true → stands_under (part_at side name n) es ≡ o → IsBest best → After best n (lesser best (part_at side name n) o)
    after_look best n None within none is = (is, without_rule best n none, λ m tried. tried)
    after_look best n (Some x) within has is = after_found best n x within has is

    after_try : (best : Option (List ℕ × X)) (n : ℕ) → IsBest best → After best n (tried side name es best n)
    after_try best n is = by (nat_le n (length name)) refl
      where
        by : (b : Bool) → nat_le n (length name) ≡ b → After best n (cond b (lesser best (part_at side name n) (stands_under (part_at side name n) es)) best)
        by false e = (is, too_long best n e, λ m tried. tried)
        by true e = after_look best n (stands_under (part_at side name n) es) e refl is

    all_still : (P Q : ℕ → Type 0) (ns : List ℕ) → ((n : ℕ) → P n → Q n) → AllByRecursion P ns → AllByRecursion Q ns
    all_still P Q [] h all = tt
    all_still P Q (n ∷ ns) h all = (h n all.0, all_still P Q ns h all.1)

    -- after all look-ups the least text is no greater than any of the parts
    after_all : (ns seen : List ℕ) (best : Option (List ℕ × X)) → IsBest best → AllByRecursion (Tried best) seen
        → IsBest (fold (tried side name es) best ns) × AllByRecursion (Tried (fold (tried side name es) best ns)) seen × AllByRecursion (Tried (fold (tried side name es) best ns)) ns
    after_all [] seen best is all = (is, all, tt)
    after_all (n ∷ ns) seen best is all =
        let step = after_try best n is in
        let rest = after_all ns (n ∷ seen) (tried side name es best n) step.0 (step.1, all_still (Tried best) (Tried (tried side name es best n)) seen step.2 all) in
        (rest.0, rest.1.1, (rest.1.0, rest.2))

  -- lengths beyond that of the name change nothing
  beyond : (es : List (Text × X)) (best : Option (List ℕ × X)) (ns : List ℕ) → AllByRecursion (λ n. length name < n) ns → fold (tried side name es) best ns ≡ best
  beyond es best [] all = refl
  beyond es best (n ∷ ns) all =
      ap (λ b. fold (tried side name es) (cond b (lesser best (part_at side name n) (stands_under (part_at side name n) es)) best) ns) (lt-leb n (length name) all.0)
      ∙ beyond es best ns all.1

  -- the search may stop at the first of them
  pub stopped : (es : List (Text × X)) (ns rest : List ℕ) (n : ℕ) (best : Option (List ℕ × X)) → IsStrictlySortedBy nat_cmp (ns ++ n ∷ rest) → length name < n
      → fold (tried side name es) best ns ≡ fold (tried side name es) best (ns ++ n ∷ rest)
  unfolding IsStrictlySortedBy
  stopped es [] rest n best sorted long = sym (beyond es best (n ∷ rest) (long, all_below (length name) n rest long sorted.0))
  stopped es (m ∷ ns) rest n best sorted long = stopped es ns rest n (tried side name es best m) sorted.1 long

  module _ (lengths : BTreeSet ℕ) (texts : BTreeMap Text X) (measured : IsMeasured lengths texts) where
    within : (s : Side) (t : List ℕ) → t ≡ part_at s name (length t) → nat_le (length t) (length name) ≡ true
    within Beginning t is = le-leb (length t) (length name) (omega (arith, ap length is ∙ length-take (length t) name))
    within End t is = le-leb (length t) (length name) (omega (arith, ap length is ∙ length-drop (length name - length t) name))

    -- each text that fits and has a rule was looked up
    looked_up : (b : Option (List ℕ × X)) → AllByRecursion (Tried texts.entries b) lengths.keys → (t : List ℕ) → fits (form side t) name ≡ true → is_some (stands_under t texts.entries) ≡ true
        → (t ≡ part_at side name (length t)) × Tried texts.entries b (length t) × (nat_le (length t) (length name) ≡ true)
    looked_up b all t fit has =
        let is : t ≡ part_at side name (length t) = (bytes_eq-Decides t (part_at side name (length t))).0 (sym (fits_part name side t) ∙ fit) in
        (is, listed (Tried texts.entries b) (length t) lengths.keys (measured.measured t has) all, within side t is)

    by_best : (b : Option (List ℕ × X)) → IsBest texts.entries b → AllByRecursion (Tried texts.entries b) lengths.keys
        → option_map (λ rule. rule.1) b ≡ option_map (λ rule. rule.1) (first_fit name (under (form side) texts.entries))
    by_best None is all = sym (ap (option_map (λ rule. rule.1)) (none_least texts.entries (λ t fit. none t fit (stands_under t texts.entries) refl)))
      where
        none : (t : List ℕ) → fits (form side t) name ≡ true → (o : Option X) → stands_under t texts.entries ≡ o → stands_under t texts.entries ≡ None
        none t fit None e = e
        none t fit (Some x) e =
            let up = looked_up None all t fit (ap is_some e) in
            ap (λ u. stands_under u texts.entries) up.0 ∙ up.1 up.2
    by_best (Some (b, y)) is all =
        sym (ap (option_map (λ rule. rule.1)) (least_first texts.entries b y measured.ordered is.0 is.1 (λ u less fit. none u less fit (stands_under u texts.entries) refl)))
      where
        none : (u : List ℕ) → slice_cmp nat_cmp u b ≡ Less → fits (form side u) name ≡ true → (o : Option X) → stands_under u texts.entries ≡ o → stands_under u texts.entries ≡ None
        none u less fit None e = e
        none u less fit (Some x) e = let up = looked_up (Some (b, y)) all u fit (ap is_some e) in by up.0 (up.1 up.2)
          where
            by : u ≡ part_at side name (length u) → (stands_under (part_at side name (length u)) texts.entries ≡ None) ⊎ (slice_cmp nat_cmp (part_at side name (length u)) b ≡ Less → ⊥) → stands_under u texts.entries ≡ None
            by is (inl none) = ap (λ t. stands_under t texts.entries) is ∙ none
            by is (inr above) = absurd (above (sym (ap (λ t. slice_cmp nat_cmp t b) is) ∙ less))

    -- the rule for a name among those of a side
    pub least_rule : option_map (λ rule. rule.1) (fold (tried side name texts.entries) None lengths.keys) ≡ option_map (λ rule. rule.1) (rule_for (under (form side) texts.entries) name)
    least_rule =
        let all = after_all texts.entries lengths.keys [] None tt tt in
        by_best (fold (tried side name texts.entries) None lengths.keys) all.0 all.2
        ∙ ap (option_map (λ rule. rule.1)) (sym (rule_for-sorted name (under (form side) texts.entries) (under-sorted (form side) (keeps side) texts.entries measured.ordered)))

-- ---- one more text

-- a text that has a rule once one more stands there had one, or is that one
had_rule : {X : Type 0} (es : List (Text × X)) (k : Text) (x : X) (t : List ℕ) → is_some (stands_under t (insert_entry text_cmp es k x)) ≡ true → (t ≡ k.items) ⊎ (is_some (stands_under t es) ≡ true)
had_rule {X} [] k x t has = by (slice_cmp nat_cmp t k.items) refl has
  where
    by : (o : Ordering) → slice_cmp nat_cmp t k.items ≡ o → is_some (cond {A = Option X} (is_eq o) (Some x) None) ≡ true → (t ≡ k.items) ⊎ (false ≡ true)
    by Equal e h = inl (exact_bytes t k.items e)
    by Less e h = inr h
    by Greater e h = inr h
had_rule {X} ((m, y) ∷ es) k x t has = by (had_rule es k x t) (text_cmp k m) refl has
  where
    at_new : (o : Ordering) → slice_cmp nat_cmp t k.items ≡ o → is_some (cond (is_eq o) (Some x) (stands_under t ((m, y) ∷ es))) ≡ true → (t ≡ k.items) ⊎ (is_some (stands_under t ((m, y) ∷ es)) ≡ true)
    at_new Equal e h = inl (exact_bytes t k.items e)
    at_new Less e h = inr h
    at_new Greater e h = inr h

    same_there : (b : Bool) → is_some (cond b (Some x) (stands_under t es)) ≡ is_some (cond b (Some y) (stands_under t es))
    same_there true = refl
    same_there false = refl

    at_old : (b : Bool) → (is_some (stands_under t (insert_entry text_cmp es k x)) ≡ true → (t ≡ k.items) ⊎ (is_some (stands_under t es) ≡ true)) → is_some (cond b (Some y) (stands_under t (insert_entry text_cmp es k x))) ≡ true
        → (t ≡ k.items) ⊎ (is_some (cond b (Some y) (stands_under t es)) ≡ true)
    at_old true rest h = inr refl
    at_old false rest h = rest h

    by : (is_some (stands_under t (insert_entry text_cmp es k x)) ≡ true → (t ≡ k.items) ⊎ (is_some (stands_under t es) ≡ true))
        → (o : Ordering) → text_cmp k m ≡ o → is_some (stands_under t (match_ordering o ((k, x) ∷ (m, y) ∷ es) ((m, x) ∷ es) ((m, y) ∷ insert_entry text_cmp es k x))) ≡ true
        → (t ≡ k.items) ⊎ (is_some (stands_under t ((m, y) ∷ es)) ≡ true)
    by rest Less e h = at_new (slice_cmp nat_cmp t k.items) refl h
    by rest Equal e h = inr (sym (same_there (is_eq (slice_cmp nat_cmp t m.items))) ∙ h)
    by rest Greater e h = at_old (is_eq (slice_cmp nat_cmp t m.items)) rest h

-- numbers are those of before and one more
abbrev pub OneMore : BTreeSet ℕ → BTreeSet ℕ → ℕ → Type 0
OneMore old new n = (contains nat_cmp new n ≡ true) × ((m : ℕ) → contains nat_cmp old m ≡ true → contains nat_cmp new m ≡ true)

pub one_more : (old new : BTreeSet ℕ) (n : ℕ) → UpdatesBy nat_cmp (nat_cmp n) old new true → OneMore old new n
one_more old new n updates = (updates.1, λ m has. updates.0 m ∙ by (is_at (nat_cmp n) m) (contains nat_cmp old m) has)
  where
    by : (b c : Bool) → c ≡ true → cond b true c ≡ true
    by true c h = refl
    by false c h = h

module _ {X : Type 0} (lengths lengths' : BTreeSet ℕ) where
  pub measured_still : (texts : BTreeMap Text X) (n : ℕ) → IsMeasured lengths texts → OneMore lengths lengths' n → IsMeasured lengths' texts
  measured_still texts n is more = record { ordered = is.ordered; measured = λ text has. more.1 (length text) (is.measured text has) }

  pub measured_more : (texts texts' : BTreeMap Text X) (k : Text) (x : X) → IsMeasured lengths texts → IsStrictlySortedBy text_cmp (keys_of texts'.entries) → OneMore lengths lengths' (length k.items)
      → texts'.entries ≡ insert_entry text_cmp texts.entries k x → IsMeasured lengths' texts'
  measured_more texts texts' k x is ordered more inserted = record {
    ordered = ordered;
    measured = λ text has. by text (had_rule texts.entries k x text (sym (ap (λ es. is_some (stands_under text es)) inserted) ∙ has));
  }
    where
      by : (t : List ℕ) → (t ≡ k.items) ⊎ (is_some (stands_under t texts.entries) ≡ true) → contains nat_cmp lengths' (length t) ≡ true
      by t (inl same) = ap (λ u. contains nat_cmp lengths' (length u)) same ∙ more.0
      by t (inr has) = more.1 (length t) (is.measured t has)
