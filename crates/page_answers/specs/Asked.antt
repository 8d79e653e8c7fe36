-- What a request is answered with.
use Rattle.std.specs.Prelude.{ℕ, Bool, true, false, List, codes}
use Rattle.page_answers.specs.Answers.{refusal_text, granted_text}
use Rattle.page_answers.specs.declared.answers.Asked.{Asked}
use Rattle.page_answers.specs.declared.answers.Asked.TheVariants.{Refused, Health, Page}

-- the bytes of the answer
abbrev pub asked_text : Asked → List ℕ → List ℕ
asked_text (Refused status) page = refusal_text status
asked_text (Health only_head) page = granted_text only_head (codes "OK")
asked_text (Page only_head) page = granted_text only_head page

-- whether the page is asked for
abbrev pub asks_page : Asked → Bool
asks_page (Refused status) = false
asks_page (Health only_head) = false
asks_page (Page only_head) = true
