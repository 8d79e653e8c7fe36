-- Rules that were copied: they say the same, and each has a bound where each had.
use Rattle.std.proofs.Common.{◌≡◌, Bool, true, ◌&&◌, List, [], ◌∷◌, map, length, refl, sym, ap, ◌∙◌}
use Rattle.std.specs.Prelude.{ℤ, nat_lt}
use Rattle.std.specs.List.{list_all}
use Rattle.std.specs.declared.vec.Vec.{Vec}
use Rattle.std.specs.declared.alloc.Global.{Global}
use Rattle.metrics_core.specs.declared.numbers.Fixed.{Fixed}
use Rattle.prom_format.specs.declared.matchers.Matcher.{Matcher}
use Rattle.prom_format.specs.Matchers.{MatcherText}
use Rattle.distributions.specs.Builders.{bounds_of, has_bound, all_have_bounds}
use Rattle.distributions.specs.Rules.{rules_of, saying}
use Rattle.prom_exporter.specs.Builder.{rule_text}

abbrev Rule : Type 0
Rule = Matcher × Vec Fixed Global

abbrev text_has_bound : MatcherText × List Fixed → Bool
text_has_bound rule = nat_lt 0 (length rule.1)

abbrev text_said : MatcherText × List Fixed → MatcherText × List ℤ
text_said rule = (rule.0, map (λ bound. bound.0) rule.1)

bounds_of_texts : (rules : List Rule) → all_have_bounds rules ≡ list_all text_has_bound (map rule_text rules)
bounds_of_texts [] = refl
bounds_of_texts (rule ∷ rules) = ap (λ b. has_bound rule.1 && b) (bounds_of_texts rules)

said_of_texts : (rules : List Rule) → saying bounds_of (rules_of rules) ≡ map text_said (map rule_text rules)
said_of_texts [] = refl
said_of_texts (rule ∷ rules) = ap (λ l. text_said (rule_text rule) ∷ l) (said_of_texts rules)

pub copied_bounds : (rules copied : List Rule) → map rule_text copied ≡ map rule_text rules → all_have_bounds rules ≡ true → all_have_bounds copied ≡ true
copied_bounds rules copied same all = bounds_of_texts copied ∙ ap (list_all text_has_bound) same ∙ sym (bounds_of_texts rules) ∙ all

pub copied_said : (rules copied : List Rule) → map rule_text copied ≡ map rule_text rules → saying bounds_of (rules_of copied) ≡ saying bounds_of (rules_of rules)
copied_said rules copied same = said_of_texts copied ∙ ap (map text_said) same ∙ sym (said_of_texts rules)
