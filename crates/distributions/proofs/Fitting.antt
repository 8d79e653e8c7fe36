-- The rule that counts for a name, in rules that stand in the order of their matchers.
use Rattle.std.proofs.Common.{◌≡◌, ℕ, Bool, true, false, cond, List, [], ◌∷◌, ◌++◌, Option, Some, None, refl, sym, ap, ◌∙◌, subst}
use Rattle.std.specs.Prelude.{fold}
use Rattle.std.specs.List.{find, AllByRecursion}
use Rattle.std.specs.List.Sorted.{IsStrictlySortedBy}
use Rattle.std.proofs.lemmas.List.{map-append}
use Rattle.std.specs.Map.{keys_of}
use Rattle.std.specs.BTreeMap.{insert_entry}
use Rattle.std.specs.Cmp.{IsTotalOrder, then_total, on_total, nat_cmp_total}
use Rattle.std.specs.Cmp.Lexicographic.{on_texts}
use Rattle.std.specs.Ordering.{is_gt, match_ordering, ordering_reverse}
use Rattle.std.specs.declared.cmp.Ordering.{Ordering}
use Rattle.std.specs.declared.cmp.Ordering.TheVariants.{Less, Equal, Greater}
use Rattle.std.proofs.lemmas.Map.Lookups.{exact_bytes}
use Rattle.prom_format.specs.declared.matchers.Matcher.{Matcher}
use Rattle.prom_format.specs.MatcherTexts.{matcher_text}
use Rattle.prom_format.specs.Matchers.{MatcherText, Full, Prefix, Suffix, matcher_cmp, matcher_rank, matcher_bytes, fits, preferred, rule_for}
use Rattle.distributions.specs.Rules.{rules_of, rule_behind}

pub matcher_cmp_total : IsTotalOrder matcher_cmp
matcher_cmp_total = then_total (on_total matcher_rank nat_cmp_total) (on_texts matcher_bytes)

-- matchers that tie are the same
pub same_from_tie : (a b : MatcherText) → matcher_cmp a b ≡ Equal → a ≡ b
same_from_tie (Full a) (Full b) e = ap Full (exact_bytes a b e)
same_from_tie (Full a) (Prefix b) e = cc
same_from_tie (Full a) (Suffix b) e = cc
same_from_tie (Prefix a) (Full b) e = cc
same_from_tie (Prefix a) (Prefix b) e = ap Prefix (exact_bytes a b e)
same_from_tie (Prefix a) (Suffix b) e = cc
same_from_tie (Suffix a) (Full b) e = cc
same_from_tie (Suffix a) (Prefix b) e = cc
same_from_tie (Suffix a) (Suffix b) e = ap Suffix (exact_bytes a b e)

-- what is before a matcher is before all that come after it
less_than_all : (k m : MatcherText) (ks : List MatcherText) → matcher_cmp k m ≡ Less → AllByRecursion (λ y. matcher_cmp m y ≡ Less) ks
    → AllByRecursion (λ y. matcher_cmp k y ≡ Less) ks
less_than_all k m [] less all = tt
less_than_all k m (y ∷ ks) less all = (matcher_cmp_total.trans k m y less all.0, less_than_all k m ks less all.1)

module _ {X : Type 0} (name : List ℕ) where
  -- the first rule in a list that fits the name
  abbrev pub first_fit : List (MatcherText × X) → Option (MatcherText × X)
  first_fit rules = find (λ rule. fits rule.0 name) rules

  same_either : (b : Bool) (x : Option (MatcherText × X)) → cond b x x ≡ x
  same_either true x = refl
  same_either false x = refl

  -- a rule before all of a list is preferred to the first that fits
  pub before_all : (k : MatcherText) (v : X) (rules : List (MatcherText × X)) → AllByRecursion (λ y. matcher_cmp k y ≡ Less) (keys_of rules)
      → preferred (first_fit rules) (k, v) ≡ Some (k, v)
  before_all k v [] below = refl
  before_all k v ((m, x) ∷ rules) below =
      elim (fits m name) as (λ b. preferred (cond b (Some (m, x)) (first_fit rules)) (k, v) ≡ Some (k, v)) [
        | true ↦ ap (λ o. cond (is_gt o) (Some (m, x)) (Some (k, v))) below.0
        | false ↦ before_all k v rules below.1
      ]

  placed : (m : MatcherText) (x : X) (rules : List (MatcherText × X)) (k : MatcherText) (v : X) → IsStrictlySortedBy matcher_cmp (keys_of ((m, x) ∷ rules))
      → first_fit (insert_entry matcher_cmp rules k v) ≡ rule_behind name (first_fit rules) (k, v) → (o : Ordering) → matcher_cmp k m ≡ o
      → first_fit (match_ordering o ((k, v) ∷ (m, x) ∷ rules) ((m, v) ∷ rules) ((m, x) ∷ insert_entry matcher_cmp rules k v)) ≡ rule_behind name (first_fit ((m, x) ∷ rules)) (k, v)
  unfolding IsStrictlySortedBy
  placed m x rules k v sorted rest Less e =
      ap (λ best. cond (fits k name) best (first_fit ((m, x) ∷ rules))) (sym (before_all k v ((m, x) ∷ rules) (e, less_than_all k m (keys_of rules) e sorted.0)))
  placed m x rules k v sorted rest Equal e =
      let same : m ≡ k = sym (same_from_tie k m e) in
      let P : MatcherText → Type 0 = λ n. matcher_cmp n m ≡ Equal → first_fit ((m, v) ∷ rules) ≡ rule_behind name (first_fit ((m, x) ∷ rules)) (n, v) in
      subst P same (λ tie.
      elim (fits m name) as (λ b. cond b (Some (m, v)) (first_fit rules) ≡ cond b (preferred (cond b (Some (m, x)) (first_fit rules)) (m, v)) (cond b (Some (m, x)) (first_fit rules))) [
        | true ↦ ap (λ o. cond (is_gt o) (Some (m, x)) (Some (m, v))) (sym tie)
        | false ↦ refl
      ]) e
  placed m x rules k v sorted rest Greater e =
      elim (fits m name) as (λ b. cond b (Some (m, x)) (first_fit (insert_entry matcher_cmp rules k v)) ≡ cond (fits k name) (preferred (cond b (Some (m, x)) (first_fit rules)) (k, v)) (cond b (Some (m, x)) (first_fit rules))) [
        | true ↦ sym (ap (λ o. cond (fits k name) (cond (is_gt o) (Some (m, x)) (Some (k, v))) (Some (m, x))) e ∙ same_either (fits k name) (Some (m, x)))
        | false ↦ rest
      ]

  -- a rule that takes its place among others, in their order
  pub insert-first_fit : (rules : List (MatcherText × X)) (k : MatcherText) (v : X) → IsStrictlySortedBy matcher_cmp (keys_of rules)
      → first_fit (insert_entry matcher_cmp rules k v) ≡ rule_behind name (first_fit rules) (k, v)
  unfolding IsStrictlySortedBy
  insert-first_fit [] k v sorted = refl
  insert-first_fit ((m, x) ∷ rules) k v sorted = placed m x rules k v sorted (insert-first_fit rules k v sorted.1) (matcher_cmp k m) refl

  -- a rule stays where all others come after it
  pub stays : (m : MatcherText) (x : X) (rules : List (MatcherText × X)) → AllByRecursion (λ y. matcher_cmp m y ≡ Less) (keys_of rules)
      → fold (rule_behind name) (Some (m, x)) rules ≡ Some (m, x)
  stays m x [] above = refl
  stays m x ((k, v) ∷ rules) above =
      let more : matcher_cmp k m ≡ Greater = matcher_cmp_total.antisymm k m ∙ ap ordering_reverse above.0 in
      ap (λ best. fold (rule_behind name) best rules) (ap (λ o. cond (fits k name) (cond (is_gt o) (Some (m, x)) (Some (k, v))) (Some (m, x))) more ∙ same_either (fits k name) (Some (m, x)))
      ∙ stays m x rules above.1

  -- in rules that stand in order, the first that fits counts
  pub rule_for-sorted : (rules : List (MatcherText × X)) → IsStrictlySortedBy matcher_cmp (keys_of rules) → rule_for rules name ≡ first_fit rules
  unfolding IsStrictlySortedBy
  rule_for-sorted [] sorted = refl
  rule_for-sorted ((m, x) ∷ rules) sorted =
      elim (fits m name) as (λ b. fold (rule_behind name) (cond b (Some (m, x)) None) rules ≡ cond b (Some (m, x)) (first_fit rules)) [
        | true ↦ stays m x rules sorted.0
        | false ↦ rule_for-sorted rules sorted.1
      ]

  fold-more : (rules : List (MatcherText × X)) (best : Option (MatcherText × X)) (rule : MatcherText × X) → fold (rule_behind name) best (rules ++ rule ∷ []) ≡ rule_behind name (fold (rule_behind name) best rules) rule
  fold-more [] best rule = refl
  fold-more (r ∷ rules) best rule = fold-more rules (rule_behind name best r) rule

  -- one more rule behind others
  pub rule_for-more : (given : List (Matcher × X)) (k : Matcher) (v : X) → rule_for (rules_of (given ++ (k, v) ∷ [])) name ≡ rule_behind name (rule_for (rules_of given) name) (matcher_text k, v)
  rule_for-more given k v = ap (λ rules. fold (rule_behind name) None rules) (map-append _ given ((k, v) ∷ [])) ∙ fold-more (rules_of given) None (matcher_text k, v)

-- the first of a rest moves to what stands before it
pub moved : {Y : Type 0} (before : List Y) (y : Y) (rest others : List Y) → rest ≡ y ∷ others → before ++ y ∷ [] ++ others ≡ before ++ rest
moved [] y rest others e = sym e
moved (x ∷ before) y rest others e = ap (λ ys. x ∷ ys) (moved before y rest others e)

pub nothing_behind : {Y : Type 0} (before rest : List Y) → rest ≡ [] → before ++ rest ≡ before
nothing_behind [] rest e = e
nothing_behind (x ∷ before) rest e = ap (λ ys. x ∷ ys) (nothing_behind before rest e)
