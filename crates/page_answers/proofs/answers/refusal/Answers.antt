use Rattle.page_answers.proofs.answers.refusal.Goals as goal

pub returns : goal.returns
returns c = rw c.into_bytes.ensures.value (rw (c.as_u16-code.ensures.value, c.phrase_of-phrase.ensures) at c.in_ok-text.ensures.ok)
