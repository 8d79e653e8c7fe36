use Rattle.std.proofs.Common.{◌≡◌, ◌∙◌, ℕ, Bool, List, ◌++◌, length, codes, decimal, ap, refl, append_assoc}
use Rattle.page_answers.specs.Answers.{phrase, granted_text, shown_body, line, line_end, head_end}
use Rattle.page_answers.proofs.answers.granted.Goals as goal

-- a text behind seven others, which stand to the right of each other
behind_all : (a b c d e f g h : List ℕ) → (a ++ (b ++ (c ++ (d ++ (e ++ (f ++ g)))))) ++ h ≡ a ++ (b ++ (c ++ (d ++ (e ++ (f ++ (g ++ h))))))
behind_all a b c d e f g h = simp append_assoc

-- the head as it was written, each piece equal to what it is to show, and the body behind it
joined : (answer head : List ℕ) (only_head : Bool) (body : List ℕ) (status count : ℕ) (said shown : List ℕ) → status ≡ 200 → said ≡ phrase 200 → count ≡ length body → shown ≡ shown_body only_head body
    → head ≡ codes "HTTP/1.1 " ++ (decimal status ++ (codes " " ++ (said ++ ((line_end ++ line (codes "content-type: text/plain") ++ codes "content-length: ") ++ (decimal count ++ head_end)))))
    → answer ≡ head ++ shown
    → answer ≡ granted_text only_head body
joined answer head only_head body status count said shown is_status is_said is_count is_shown is_head is_answer =
    let whole = rw (is_status, is_said, is_count) at is_head in
    is_answer ∙ (ap (λ (text : List ℕ). text ++ shown) whole
    ∙ (behind_all (codes "HTTP/1.1 ") (decimal 200) (codes " ") (phrase 200) (line_end ++ line (codes "content-type: text/plain") ++ codes "content-length: ") (decimal (length body)) head_end shown
    ∙ ap (λ (text : List ℕ). codes "HTTP/1.1 " ++ (decimal 200 ++ (codes " " ++ (phrase 200 ++ ((line_end ++ line (codes "content-type: text/plain") ++ codes "content-length: ") ++ (decimal (length body) ++ (head_end ++ text))))))) is_shown))

pub returns : goal.returns
returns c =
    joined _ _ c.args.only_head c.args.body.now _ _ _ _ c.as_u16-code.ensures.value c.phrase_of-phrase.ensures refl c.shown.ensures c.in_ok-head.ensures.ok
    (rw c.into_bytes-answer.ensures.value at c.in_ok-extend_from_slice.ensures.items)
