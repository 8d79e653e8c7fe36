use Rattle.std.proofs.Common.{ap, sym, ◌∙◌, nat_eq}
use Rattle.std.specs.List.{starts_with, ends_with}
use Rattle.std.proofs.lemmas.Str.Pattern.{starts_text, ends_text}
use Rattle.prom_format.specs.Matchers.{fits}
use Rattle.prom_format.specs.MatcherTexts.{matcher_text}
use Rattle.prom_format.proofs.matchers.Matcher.matches.Goals as goal

pub returns-in-Prefix : goal.returns-in-Prefix
returns-in-Prefix c =
    starts_text _ _ _ c.starts_with.ensures.cases
    ∙ ap (λ text. starts_with nat_eq c.args.key.now text) c.as_str-in-Prefix.ensures.value
    ∙ sym (ap (λ matcher. fits (matcher_text matcher) c.args.key.now) c.in-Prefix.is)

pub returns-in-Suffix : goal.returns-in-Suffix
returns-in-Suffix c =
    ends_text _ _ _ c.ends_with.ensures.cases
    ∙ ap (λ text. ends_with nat_eq c.args.key.now text) c.as_str-in-Suffix.ensures.value
    ∙ sym (ap (λ matcher. fits (matcher_text matcher) c.args.key.now) c.in-Suffix.is)
