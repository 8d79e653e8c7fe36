use Rattle.std.proofs.Common.{◌≡◌, ◌≤◌, ℕ, false, rules, subst}
use Rattle.std.specs.Prelude.{IsTrue}
use Rattle.program_words.proofs.CommandSteps.{rounds_of_count}
use Rattle.program_words.proofs.bench_words.read_rounds.Goals as goal

pub returns-then-not-may_be_rounds : goal.returns-then-not-may_be_rounds
returns-then-not-may_be_rounds c = λ value is.
    let same : value ≡ c.in_ok-count.count = rounds_of_count c.args.text.now c.in_ok-count.count value c.in_ok-count.ensures is in
    let false_is : ¬ (IsTrue false) = search rules in
    let P : ℕ → Type 0 = λ n. (1 ≤ n) × (n ≤ 10000) in
    false_is (c.if-not-may_be_rounds.ensures.1 (subst P same (is.0, is.1)))
