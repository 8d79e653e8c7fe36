use Rattle.std.proofs.Common.{◌∙◌, ap, sym}
use Rattle.std.specs.Prelude.{option_map}
use Rattle.std.specs.Option.{option_copied}
use Rattle.prom_format.specs.Matchers.{rule_for, Full, Prefix, Suffix}
use Rattle.distributions.specs.Rules.{under}
use Rattle.distributions.proofs.Sides.{whole, by_forms, either, either_some, either_none}
use Rattle.distributions.proofs.rules.Rules.get.Goals as goal

pub returns-in-Some : goal.returns-in-Some
returns-in-Some g c =
    let name = c.as_bytes-name.result.now in
    let ws = c.self.inside.wholes.entries in
    let bs = c.self.inside.beginnings.entries in
    let es = c.self.inside.ends.entries in
    record {
      rule =
          either_some (rule_for (under Full ws) name) (either (rule_for (under Prefix bs) name) (rule_for (under Suffix es) name)) c.in-Some.rule.now
          (ap option_copied (sym c.in-Some.is) ∙ c.get.ensures.value ∙ sym (whole name ws c.self.invariant.0))
          ∙ ap (option_map (λ rule. rule.1)) (sym (by_forms name ws bs es) ∙ ap (λ rules. rule_for rules name) c.self.view_is)
          ∙ ap (λ n. option_map (λ rule. rule.1) (rule_for c.args.self.now n)) c.as_bytes-name.ensures.value;
    }

pub returns-in-Some-least : goal.returns-in-Some-least
returns-in-Some-least g c =
    let name = c.as_bytes-name.result.now in
    let ws = c.self.inside.wholes.entries in
    let bs = c.self.inside.beginnings.entries in
    let es = c.self.inside.ends.entries in
    record {
      rule =
          either_some (rule_for (under Prefix bs) name) (rule_for (under Suffix es) name) c.in-Some-least.rule.now (ap option_copied (sym c.in-Some-least.is) ∙ c.least.ensures)
          ∙ either_none (rule_for (under Full ws) name) (either (rule_for (under Prefix bs) name) (rule_for (under Suffix es) name))
          (ap option_copied (sym c.in_default.is) ∙ c.get.ensures.value ∙ sym (whole name ws c.self.invariant.0))
          ∙ ap (option_map (λ rule. rule.1)) (sym (by_forms name ws bs es) ∙ ap (λ rules. rule_for rules name) c.self.view_is)
          ∙ ap (λ n. option_map (λ rule. rule.1) (rule_for c.args.self.now n)) c.as_bytes-name.ensures.value;
    }

pub returns : goal.returns
returns g c =
    let name = c.as_bytes-name.result.now in
    let ws = c.self.inside.wholes.entries in
    let bs = c.self.inside.beginnings.entries in
    let es = c.self.inside.ends.entries in
    record {
      rule =
          c.least-2.ensures
          ∙ either_none (rule_for (under Prefix bs) name) (rule_for (under Suffix es) name) (ap option_copied (sym c.in_default-least.is) ∙ c.least.ensures)
          ∙ either_none (rule_for (under Full ws) name) (either (rule_for (under Prefix bs) name) (rule_for (under Suffix es) name))
          (ap option_copied (sym c.in_default.is) ∙ c.get.ensures.value ∙ sym (whole name ws c.self.invariant.0))
          ∙ ap (option_map (λ rule. rule.1)) (sym (by_forms name ws bs es) ∙ ap (λ rules. rule_for rules name) c.self.view_is)
          ∙ ap (λ n. option_map (λ rule. rule.1) (rule_for c.args.self.now n)) c.as_bytes-name.ensures.value;
    }
