use Rattle.std.proofs.Common.{ℕ, ◌<◌, ◌≤◌, length, inl, inr, ap, arith}
use Rattle.std.specs.Prelude.{MatchBool, nat_lt}
use Rattle.std.proofs.lemmas.Bool.{cases_lt, lt-ltb, le-ltb}
use Rattle.std.proofs.lemmas.List.{length-map}
use Rattle.drive_script.specs.Script.{Register}
use Rattle.drive_script.specs.Taking.{MaySetUp}
use Rattle.drive_script.specs.Texts.{script_so_far}
use Rattle.drive_script.specs.Valid.{Registration, registered}
use Rattle.drive_script.proofs.Steps.{register_full}
use Rattle.drive_script.proofs.progress.ScriptSoFar.may_register.Goals as goal

by_order : (P Q : Type 0) (m n : ℕ) → (m < n → P) → (n ≤ m → Q) → MatchBool (nat_lt m n) P Q
by_order P Q m n below above =
    elim (cases_lt m n) [
      | inl lt ↦ rw (lt-ltb m n lt) (below lt)
      | inr le ↦ rw (le-ltb m n le) (above le)
    ]

pub returns-then-may_set_up : goal.returns-then-may_set_up
returns-then-may_set_up c = λ said known.
    let old = c.args.self.now in
    let count = length-map (registered (script_so_far old)) (λ (r : Registration). r.kind) in
    let may : MaySetUp old = rw c.if-may_set_up.true at c.may_set_up.ensures in
    by_order _ _ c.len.result 1000000
    (λ below. record { set_up = may; room = omega (arith, below, c.len.ensures, old.kinds.ok.0, ap length known.kinds, count) })
    (λ full kind key new h. register_full (script_so_far old) new kind key (omega (arith, full, c.len.ensures, old.kinds.ok.0, ap length known.kinds, count)) h)

pub returns-else-may_set_up : goal.returns-else-may_set_up
returns-else-may_set_up c = λ said known.
    let refused = rw c.if-may_set_up.false at c.may_set_up.ensures in
    rw c.if-may_set_up.false (λ kind key new h. refused (Register kind key) new h)
