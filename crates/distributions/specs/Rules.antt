-- Rules for names, each under a matcher; and how they are kept: by the form of the matcher, each under the bytes of its text.
use Rattle.std.specs.Prelude.{◌≡◌, ℕ, ◌-◌, ◌++◌, true, cond, List, length, take, drop, map, Option, Some, None, is_some, if◌then◌else◌, nat_le}
use Rattle.std.specs.Cmp.Lexicographic.{slice_cmp}
use Rattle.std.specs.Ordering.{nat_cmp, is_eq, is_gt}
use Rattle.std.specs.declared.cmp.Ordering.{Ordering}
use Rattle.std.specs.List.Sorted.{IsStrictlySortedBy}
use Rattle.std.specs.Map.{keys_of, lookup}
use Rattle.std.specs.BTreeMap.{BTreeMap}
use Rattle.std.specs.BTreeSet.{BTreeSet, contains}
use Rattle.std.specs.declared.alloc.Global.{Global}
use Rattle.std.specs.declared.vec.Vec.{Vec}
use Rattle.prom_format.specs.declared.matchers.Matcher.{Matcher}
use Rattle.prom_format.specs.MatcherTexts.{matcher_text}
use Rattle.prom_format.specs.Matchers.{MatcherText, Full, Prefix, Suffix, fits, preferred}
use Rattle.distributions.specs.declared.rules.Side.{Side}
use Rattle.distributions.specs.declared.rules.Side.TheVariants.{Beginning, End}

-- the rules, each with what a contract sees of its matcher
abbrev pub rules_of : {X : Type 0} → List (Matcher × X) → List (MatcherText × X)
rules_of rules = map (λ rule. (matcher_text rule.0, rule.1)) rules

-- the rules, with what they say seen through f
abbrev pub saying : {X Y : Type 0} → (X → Y) → List (MatcherText × X) → List (MatcherText × Y)
saying f rules = map (λ rule. (rule.0, f rule.1)) rules

-- the rule for a name, where one more rule is given behind others
abbrev pub rule_behind : {X : Type 0} → List ℕ → Option (MatcherText × X) → MatcherText × X → Option (MatcherText × X)
rule_behind name best rule = cond (fits rule.0 name) (preferred best rule) best

-- ---- rules under texts

abbrev pub Text : Type 0
Text = Vec ℕ Global

abbrev pub text_cmp : Text → Text → Ordering
text_cmp a b = slice_cmp nat_cmp a.items b.items

-- rules under texts, as rules under the matchers of one form
abbrev pub under : {X : Type 0} → (List ℕ → MatcherText) → List (Text × X) → List (MatcherText × X)
under form rules = map (λ rule. (form rule.0.items, rule.1)) rules

-- the rules of three forms, in the order of their matchers
abbrev pub all_rules : {X : Type 0} → List (Text × X) → List (Text × X) → List (Text × X) → List (MatcherText × X)
all_rules wholes beginnings ends = under Full wholes ++ (under Prefix beginnings ++ under Suffix ends)

-- what stands under a text
abbrev pub stands_under : {X : Type 0} → List ℕ → List (Text × X) → Option X
stands_under text rules = lookup (λ t. is_eq (slice_cmp nat_cmp text t.items)) rules

-- rules stand in the order of their texts, and how long each text is stands among the lengths
pub record IsMeasured {X : Type 0} (lengths : BTreeSet ℕ) (rules : BTreeMap Text X) : Type 0 where
  pub ordered : IsStrictlySortedBy text_cmp (keys_of rules.entries)
  pub measured : (text : List ℕ) → is_some (stands_under text rules.entries) ≡ true → contains nat_cmp lengths (length text) ≡ true

-- ---- the texts that stand on a side of a name

abbrev pub form : Side → List ℕ → MatcherText
form Beginning = Prefix
form End = Suffix

-- the part of a name on a side that is so long
abbrev pub part_at : Side → List ℕ → ℕ → List ℕ
part_at Beginning name n = take n name
part_at End name n = drop (length name - n) name

-- the lesser text of two, of which the second one may have no rule
abbrev pub lesser : {X : Type 0} → Option (List ℕ × X) → List ℕ → Option X → Option (List ℕ × X)
lesser best text None = best
lesser None text (Some rule) = Some (text, rule)
lesser (Some best) text (Some rule) = if is_gt (slice_cmp nat_cmp text best.0) then Some best else Some (text, rule)

-- the least text so far, where the part that is so long is looked up too
abbrev pub tried : {X : Type 0} → Side → List ℕ → List (Text × X) → Option (List ℕ × X) → ℕ → Option (List ℕ × X)
tried side name rules best n =
    if nat_le n (length name) then lesser best (part_at side name n) (stands_under (part_at side name n) rules) else best
