use Rattle.std.proofs.Common.{◌≡◌, ℕ, ◌-◌, ◌<◌, Bool, true, false, ◌==◌, get_or, refl, sym, ap, ◌∙◌, inl, inr, arith, rules}
use Rattle.std.specs.Prelude.{MatchBool, vec_len}
use Rattle.std.proofs.lemmas.Bool.{cases_eq, eqb-true}
use Rattle.std.proofs.lemmas.List.{nil_from_length}
use Rattle.drive_script.specs.Texts.{settings_of}
use Rattle.drive_script.proofs.Steps.{calls_stand}
use Rattle.drive_script.proofs.progress.ScriptSoFar.may_set_up.Goals as goal

by_test : (P Q : Type 0) (b : Bool) → (b ≡ true → P) → (b ≡ false → Q) → MatchBool b P Q
by_test P Q true is other = is refl
by_test P Q false is other = other refl

not_zero : (n : ℕ) → (n == 0) ≡ false → 0 < n
not_zero n other =
    elim (cases_eq n 0) [
      | inl e ↦ let zero : (n == 0) ≡ true = ap (λ m. m == 0) e in absurd cc
      | inr not ↦ omega (arith, not)
    ]

pub returns : goal.returns
returns c =
    let old = c.args.self.now in
    let round = c.in-Some.round.now in
    let calls = round.calls in
    let some : 0 < vec_len old.rounds = search rules in
    let last : round ≡ get_or old.rounds.items (vec_len old.rounds - 1) round = search rules in
    by_test _ _ c.is_empty.result
    (λ empty. let none = eqb-true (vec_len calls) 0 (sym c.is_empty.ensures ∙ empty) in record { round = round; in_round = some; last = last; no_call = nil_from_length calls.items (omega (arith, calls.ok.0, none)) })
    (λ other setup new h. calls_stand (settings_of old.settings) old.rounds.items (vec_len old.rounds) old.rounds.ok.0 some round last setup new (omega (arith, calls.ok.0, not_zero (vec_len calls) (sym c.is_empty.ensures ∙ other))) h)
