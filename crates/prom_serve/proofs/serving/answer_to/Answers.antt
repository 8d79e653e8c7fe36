use Rattle.std.proofs.Common.{ap, ◌∙◌, inl}
use Rattle.std.proofs.lemmas.Result.{IfOk-weaker}
use Rattle.page_answers.specs.Asked.{asked_text}
use Rattle.prom_serve.proofs.serving.answer_to.Goals as goal

pub returns-in_ok-page-in-Page-clause-answer : goal.returns-in_ok-page-in-Page-clause-answer
returns-in_ok-page-in-Page-clause-answer g c =
    IfOk-weaker c.answer_of.result _ _ (λ answer is. inl (c.in_ok-page-in-Page.page.written, c.in_ok-page-in-Page.ensures.page, is ∙ ap (asked_text c.args.asked.now) c.written.ensures)) c.answer_of.ensures
