use Rattle.std.proofs.Common.{unwrap_or, option_copied, sym, ap, ◌∙◌}
use Rattle.rule_eval.specs.Evaluating.{group_text, run_in, runs_text}
use Rattle.rule_eval.proofs.Grouped.{unwrap_or-lookup}
use Rattle.rule_eval.proofs.evaluator.run_of.Goals as goal

pub returns-in-Some : goal.returns-in-Some
returns-in-Some c =
    let runs = c.in-Some.runs.now in
    let group = c.args.group.now in
    c.unwrap_or.ensures
    ∙ ap (λ o. unwrap_or o 0) (c.copied.ensures ∙ c.get.ensures.value)
    ∙ unwrap_or-lookup 0 group runs.entries
    ∙ ap (λ o. run_in (runs_text (option_copied o)) (group_text group)) (sym c.in-Some.is)
