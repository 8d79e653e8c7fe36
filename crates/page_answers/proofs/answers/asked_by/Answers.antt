use Rattle.std.proofs.Common.{◌≡◌, Bool, true, List, ℕ, codes, refl, sym, inr}
use Rattle.std.specs.Prelude.{bytes_eq}
use Rattle.page_answers.specs.Answers.{IsAnswer, granted_text}
use Rattle.page_answers.specs.Heads.{HasHead}
use Rattle.page_answers.specs.Paths.{path_of}
use Rattle.page_answers.proofs.answers.asked_by.Goals as goal

healthy : (allowed only_head : Bool) (bytes method target page : List ℕ) → HasHead bytes method target → allowed ≡ true → only_head ≡ bytes_eq method (codes "HEAD")
    → bytes_eq (path_of target) (codes "/health") ≡ true → IsAnswer allowed bytes page (granted_text only_head (codes "OK"))
healthy allowed only_head bytes method target page (head, begins, is_method, is_target) is_allowed is_only is_health = inr (head, begins, rw (is_allowed, is_method, is_target, is_only, is_health) refl)

pub returns-then-is_same-clause-answer : goal.returns-then-is_same-clause-answer
returns-then-is_same-clause-answer c page =
    healthy c.args.allowed c.is_same-only_head.result c.args.head.now c.in-Some.method.now c.in-Some.target.now page c.in-Some.ensures c.if-not-allowed.false c.is_same-only_head.ensures
    (rw c.path.ensures at (sym c.if-is_same.ensures))
