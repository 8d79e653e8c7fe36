use Rattle.std.proofs.Common.{◌≡◌, ◌≢◌, ℕ, List, length, get_or, subst, sym, ◌∙◌, arith, rules, true, false}
use Rattle.std.specs.Prelude.{IsTrue}
use Rattle.program_words.proofs.ServingWords.{parsed, decimal_begins}
use Rattle.program_words.proofs.serving_words.read_count.Goals as goal

abbrev Begins : List ℕ → Type 0
Begins bs = (get_or bs 0 0 ≢ 43) × (get_or bs 0 0 ≡ 48 → length bs ≡ 1)

pub returns-then-not-begins_as_number : goal.returns-then-not-begins_as_number
returns-then-not-begins_as_number c = λ n h.
    let begins = decimal_begins n (omega (arith, h.0)) in
    let false_is : ¬ (IsTrue false) = search rules in
    false_is (c.if-not-begins_as_number.ensures.1 (subst Begins (sym (c.as_bytes.ensures.value ∙ h.1)) begins))

pub returns-in-Ok : goal.returns-in-Ok
returns-in-Ok c =
    let yes : IsTrue true = search rules in
    let begins = subst Begins c.as_bytes.ensures.value (c.if-not-begins_as_number.ensures.0 yes) in
    let number = rw c.in-Ok.is at (parsed c.args.text.now c.parse.result begins.0 begins.1 c.parse.ensures.value.0) in
    (number.1, number.0)

pub returns-in-Err : goal.returns-in-Err
returns-in-Err c = λ n h.
    let yes : IsTrue true = search rules in
    let begins = subst Begins c.as_bytes.ensures.value (c.if-not-begins_as_number.ensures.0 yes) in
    let none = rw c.in-Err.is at (parsed c.args.text.now c.parse.result begins.0 begins.1 c.parse.ensures.value.0) in
    none n h.0 h.1
