-- Rules for names with what they say seen through a function, and the kinds that follow from them.
use Rattle.std.proofs.Common.{◌≡◌, ℕ, Bool, true, false, cond, List, [], ◌∷◌, Option, Some, None, IfSome, map, refl, sym, ap, ◌∙◌, subst}
use Rattle.std.specs.Prelude.{fold, option_map, unwrap_or}
use Rattle.std.specs.List.{list_all}
use Rattle.std.specs.Ordering.{is_gt}
use Rattle.std.proofs.lemmas.Bool.{and_parts}
use Rattle.std.specs.declared.vec.Vec.{Vec}
use Rattle.std.specs.declared.alloc.Global.{Global}
use Rattle.std.specs.declared.num.NonZeroU32.{NonZeroU32}
use Rattle.std.specs.Int.NonZero.{non_zero_u32_get}
use Rattle.metrics_core.specs.declared.numbers.Fixed.{Fixed}
use Rattle.prom_format.specs.Matchers.{MatcherText, matcher_cmp, fits, preferred, rule_for}
use Rattle.distributions.specs.Rules.{rule_behind, saying}
use Rattle.distributions.specs.Kinds.{DistributionKind, DistributionRules, SummaryText, Histogram, native_kind, bucket_kind, general_kind, kind_for}
use Rattle.distributions.specs.Builders.{bounds_of, count_or_default, duration_or_default}

module _ {X Y : Type 0} (f : X → Y) (name : List ℕ) where
  abbrev seen : Option (MatcherText × X) → Option (MatcherText × Y)
  seen best = option_map (λ (rule : MatcherText × X). (rule.0, f rule.1)) best

  behind-seen : (best : Option (MatcherText × X)) (m : MatcherText) (x : X) → seen (rule_behind name best (m, x)) ≡ rule_behind name (seen best) (m, f x)
  behind-seen None m x = elim (fits m name) as (λ b. seen (cond b (Some (m, x)) None) ≡ cond b (Some (m, f x)) None) [ true ↦ refl | false ↦ refl ]
  behind-seen (Some (k, v)) m x =
      elim (fits m name) as (λ b. seen (cond b (preferred (Some (k, v)) (m, x)) (Some (k, v))) ≡ cond b (preferred (Some (k, f v)) (m, f x)) (Some (k, f v))) [
        | true ↦ elim (is_gt (matcher_cmp m k)) as (λ b. seen (cond b (Some (k, v)) (Some (m, x))) ≡ cond b (Some (k, f v)) (Some (m, f x))) [ true ↦ refl | false ↦ refl ]
        | false ↦ refl
      ]

  fold-seen : (rules : List (MatcherText × X)) (best : Option (MatcherText × X)) → seen (fold (rule_behind name) best rules) ≡ fold (rule_behind name) (seen best) (saying f rules)
  fold-seen [] best = refl
  fold-seen ((m, x) ∷ rules) best = fold-seen rules (rule_behind name best (m, x)) ∙ ap (λ b. fold (rule_behind name) b (saying f rules)) (behind-seen best m x)

  -- the rule for a name says what the rule that it is seen from says
  pub rule_for-saying : (rules : List (MatcherText × X)) → rule_for (saying f rules) name ≡ option_map (λ (rule : MatcherText × X). (rule.0, f rule.1)) (rule_for rules name)
  rule_for-saying rules = sym (fold-seen rules None)

module _ {X : Type 0} (test : X → Bool) (name : List ℕ) where
  abbrev Passes : Option (MatcherText × X) → Type 0
  Passes best = IfSome best (λ rule. test rule.1 ≡ true)

  behind-passes : (best : Option (MatcherText × X)) (m : MatcherText) (x : X) → Passes best → test x ≡ true → Passes (rule_behind name best (m, x))
  behind-passes None m x so_far passes = elim (fits m name) as (λ b. Passes (cond b (Some (m, x)) None)) [ true ↦ passes | false ↦ tt ]
  behind-passes (Some (k, v)) m x so_far passes =
      elim (fits m name) as (λ b. Passes (cond b (preferred (Some (k, v)) (m, x)) (Some (k, v)))) [
        | true ↦ elim (is_gt (matcher_cmp m k)) as (λ b. Passes (cond b (Some (k, v)) (Some (m, x)))) [ true ↦ so_far | false ↦ passes ]
        | false ↦ so_far
      ]

  fold-passes : (rules : List (MatcherText × X)) (best : Option (MatcherText × X)) → Passes best → list_all (λ rule. test rule.1) rules ≡ true → Passes (fold (rule_behind name) best rules)
  fold-passes [] best so_far all = so_far
  fold-passes ((m, x) ∷ rules) best so_far all =
      fold-passes rules (rule_behind name best (m, x)) (behind-passes best m x so_far (and_parts _ _ all).0) (and_parts _ _ all).1

  -- what passes of each rule passes of the one for a name
  pub rule_for-passes : (rules : List (MatcherText × X)) → list_all (λ rule. test rule.1) rules ≡ true → (x : X) → Some x ≡ option_map (λ rule. rule.1) (rule_for rules name) → test x ≡ true
  rule_for-passes rules all x is = passing (rule_for rules name) x is (fold-passes rules None tt all)
    where
      passing : (best : Option (MatcherText × X)) (y : X) → Some y ≡ option_map (λ rule. rule.1) best → Passes best → test y ≡ true
      passing None y same passes = cc
      passing (Some rule) y same passes = let e : y ≡ rule.1 = cc in subst (λ z. test z ≡ true) (sym e) passes

module _ (rules : List (MatcherText × Vec Fixed Global)) (name : List ℕ) (other : DistributionKind) where
  of_rule : (best : Option (MatcherText × Vec Fixed Global)) (bounds : Vec Fixed Global) → Some bounds ≡ option_map (λ rule. rule.1) best
      → bucket_kind (option_map (λ rule. (rule.0, bounds_of rule.1)) best) other ≡ Histogram (bounds_of bounds)
  of_rule None bounds is = cc
  of_rule (Some rule) bounds is = let e : rule.1 ≡ bounds = cc in ap (λ b. Histogram (bounds_of b)) e

  of_none : (best : Option (MatcherText × Vec Fixed Global)) → None ≡ option_map (λ rule. rule.1) best
      → bucket_kind (option_map (λ rule. (rule.0, bounds_of rule.1)) best) other ≡ other
  of_none None is = refl
  of_none (Some rule) is = cc

  -- a name that a bucket matcher fits is a histogram, and any other one is what it was
  pub kind_of_rule : (bounds : Vec Fixed Global) → Some bounds ≡ option_map (λ rule. rule.1) (rule_for rules name) → bucket_kind (rule_for (saying bounds_of rules) name) other ≡ Histogram (bounds_of bounds)
  kind_of_rule bounds is = ap (λ best. bucket_kind best other) (rule_for-saying bounds_of name rules) ∙ of_rule (rule_for rules name) bounds is

  pub kind_of_none : None ≡ option_map (λ rule. rule.1) (rule_for rules name) → bucket_kind (rule_for (saying bounds_of rules) name) other ≡ other
  kind_of_none is = ap (λ best. bucket_kind best other) (rule_for-saying bounds_of name rules) ∙ of_none (rule_for rules name) is

-- what is used where nothing is said
pub duration_is : (duration : Option ℕ) (used : ℕ) → used ≡ unwrap_or duration 20000000000 → used ≡ duration_or_default duration
duration_is duration used is = is

pub count_is : (count : Option NonZeroU32) (used default : NonZeroU32) → used ≡ unwrap_or count default → non_zero_u32_get default ≡ 3 → non_zero_u32_get used ≡ count_or_default count
count_is None used default is three = ap non_zero_u32_get is ∙ three
count_is (Some n) used default is three = ap non_zero_u32_get is

-- the general bounds in billionths, by their items
pub bounds_by_items : (buckets : Option (Vec Fixed Global)) → option_map bounds_of buckets ≡ option_map (map (λ bound. bound.0)) (option_map (λ bounds. bounds.items) buckets)
bounds_by_items None = refl
bounds_by_items (Some bounds) = refl

-- rules by which a name has the same native rule and the same bucket rule give it the same kind
pub kind_for-same : (a b : DistributionRules) (name : List ℕ) → rule_for a.native_for name ≡ rule_for b.native_for name → rule_for a.buckets_for name ≡ rule_for b.buckets_for name
    → a.buckets ≡ b.buckets → a.summary ≡ b.summary → kind_for a name ≡ kind_for b name
kind_for-same a b name natives bounds general summary =
    ap (λ rule. native_kind rule (bucket_kind (rule_for a.buckets_for name) (general_kind a.summary a.buckets))) natives
    ∙ ap (λ rule. native_kind (rule_for b.native_for name) (bucket_kind rule (general_kind a.summary a.buckets))) bounds
    ∙ ap (λ buckets. native_kind (rule_for b.native_for name) (bucket_kind (rule_for b.buckets_for name) (general_kind a.summary buckets))) general
    ∙ ap (λ s. native_kind (rule_for b.native_for name) (bucket_kind (rule_for b.buckets_for name) (general_kind s b.buckets))) summary

pub summary_same : (quantiles others : List ℕ) (count counted duration lasting : ℕ) → quantiles ≡ others → count ≡ counted → duration ≡ lasting
    → ◌≡◌ {A = SummaryText} (record { quantiles = quantiles; bucket_count = count; bucket_duration = duration }) (record { quantiles = others; bucket_count = counted; bucket_duration = lasting })
summary_same quantiles others count counted duration lasting a b c = λ i. record { quantiles = a i; bucket_count = b i; bucket_duration = c i }
