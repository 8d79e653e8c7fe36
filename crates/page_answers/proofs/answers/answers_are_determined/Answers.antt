use Rattle.std.proofs.Common.{◌≡◌, Bool, List, ℕ, ap, sym, ◌∙◌, inl, inr}
use Rattle.httparse.specs.Grammar.{RequestHead}
use Rattle.httparse.proofs.GrammarLemmas.{request_unique}
use Rattle.page_answers.specs.Answers.{IsAnswer, answer_text}
use Rattle.page_answers.proofs.answers.answers_are_determined.Goals as goal

determined : (allowed : Bool) (bytes page one other : List ℕ) → IsAnswer allowed bytes page one → IsAnswer allowed bytes page other → one ≡ other
determined allowed bytes page one other (inl h) (inl k) = h.1 ∙ sym k.1
determined allowed bytes page one other (inl h) (inr (head, begins, e)) = absurd (h.0 head begins)
determined allowed bytes page one other (inr (head, begins, e)) (inl k) = absurd (k.0 head begins)
determined allowed bytes page one other (inr (head, begins, e)) (inr (head', begins', e')) =
    let same : head ≡ head' = (request_unique bytes head head' begins.rest begins'.rest begins.reads begins'.reads).0 in
    e ∙ (ap (λ (h : RequestHead). answer_text allowed h.method h.target page) same ∙ sym e')

pub returns : goal.returns
returns c = determined
