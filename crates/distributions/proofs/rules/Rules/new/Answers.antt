use Rattle.std.proofs.Common.{ap, sym, ◌∙◌, [], ◌∷◌, true}
use Rattle.std.proofs.lemmas.Bool.{and_parts}
use Rattle.std.proofs.lemmas.List.{nil_from_length}
use Rattle.std.proofs.lemmas.List.Folds.{list_all-append}
use Rattle.std.specs.Prelude.{◌&&◌}
use Rattle.std.specs.List.{list_all}
use Rattle.prom_format.specs.Matchers.{rule_for}
use Rattle.prom_format.specs.MatcherTexts.{matcher_text}
use Rattle.distributions.specs.Rules.{rules_of, rule_behind, all_rules}
use Rattle.distributions.proofs.Fitting.{rule_for-more, moved, nothing_behind}
use Rattle.distributions.proofs.rules.Rules.new.Goals as goal

pub loop-matcher-init : goal.loop-matcher-init
loop-matcher-init g c = (
  λ name. λ j. rule_for (all_rules (c.new.ensures.empty j) (c.new-2.ensures.empty j) (c.new-3.ensures.empty j)) name,
  λ test all. λ j. list_all (λ rule. test rule.1) (all_rules (c.new.ensures.empty j) (c.new-2.ensures.empty j) (c.new-3.ensures.empty j)),
  c.into_iter-matcher-iterator.ensures.into_iter_gives.0,
)

pub loop-matcher-preserved : goal.loop-matcher-preserved
loop-matcher-preserved g c = (
  λ name.
      c.in_ok-put.ensures.put name
      ∙ ap (λ best. rule_behind name best (matcher_text c.in-Some.matcher, c.in-Some.rule)) (c.loop-matcher.invariant.0 name)
      ∙ sym (rule_for-more name c.loop-matcher.yielded c.in-Some.matcher c.in-Some.rule),
  λ test all.
      let parts = and_parts (list_all (λ rule. test rule.1) c.loop-matcher.yielded) (test c.in-Some.rule && true) (sym (list_all-append (λ rule. test rule.1) c.loop-matcher.yielded ((c.in-Some.matcher, c.in-Some.rule) ∷ [])) ∙ all) in
      c.in_ok-put.ensures.among test (c.loop-matcher.invariant.1 test parts.0) (and_parts (test c.in-Some.rule) true parts.1).0,
  moved c.loop-matcher.yielded (c.in-Some.matcher, c.in-Some.rule) _ _ c.in-Some.ensures.steps.0 ∙ c.loop-matcher.invariant.2,
)

pub returns : goal.returns
returns g c =
    let none_left = nil_from_length c.loop-matcher.matcher-iterator.rest.items (sym c.loop-matcher.matcher-iterator.rest.ok.0 ∙ c.in-None.ensures.steps.0) in
    let all = sym (nothing_behind c.loop-matcher.yielded _ none_left) ∙ c.loop-matcher.invariant.2 in
    record {
      among = λ test passes. c.loop-matcher.invariant.1 test (ap (λ given. list_all (λ rule. test rule.1) given) all ∙ passes);
      same = λ name. c.loop-matcher.invariant.0 name ∙ ap (λ given. rule_for (rules_of given) name) all;
    }
