use Rattle.std.proofs.Common.{◌≡◌, Result, Ok, Err}
use Rattle.std.specs.Prelude.{IfOk}
use Rattle.page_answers.specs.Answers.{IsAnswer}
use Rattle.page_answers.specs.Asked.{asked_text}
use Rattle.page_answers.proofs.answers.respond.Goals as goal

on_ok : {A E : Type 0} (P Q : A → Type 0) (r : Result A E) → ((a : A) → P a → Q a) → IfOk r P → IfOk r Q
on_ok P Q (Ok a) f h = f a h
on_ok P Q (Err e) f h = tt

pub returns : goal.returns
returns c =
    on_ok (λ answer. answer.items ≡ asked_text c.asked_by.result c.as_bytes.result.now) (λ answer. IsAnswer c.args.allowed c.args.head.now c.args.page.now answer.items) c.answer_of.result
    (λ answer is. rw (is, c.as_bytes.ensures.value) (c.asked_by.ensures.answer c.args.page.now)) c.answer_of.ensures
