-- What a fault that is handed on says, and what is known of either outcome.
use Rattle.std.proofs.Common.{◌≡◌, sym, subst}
use Rattle.std.specs.Prelude.{Result, Ok, Err, IfOk, IfErr, OnOk, OnErr, IsErrAnd}
use Rattle.std.proofs.lemmas.Result.{err_from_is_err_and}

pub if_handed_on : {T E : Type 0} (r : Result T E) (e : E) (P : E → Type 0) → IsErrAnd r (λ y. y ≡ e) → P e → IfErr r P
if_handed_on r e P is h =
    let refusal = err_from_is_err_and r is in
    subst (λ x. IfErr x P) (sym refusal.1) (subst P (sym refusal.2) h)

pub on_handed_on : {T E : Type 0} (r : Result T E) (P : Type 0) → P → OnErr r P
on_handed_on (Ok x) P h = tt
on_handed_on (Err e) P h = h

-- what follows from both outcomes holds in any case
pub either_way : {T E : Type 0} {P : T → Type 0} {Q C : Type 0} (r : Result T E) → IfOk r P → OnErr r Q → ((x : T) → P x → C) → (Q → C) → C
either_way (Ok x) p q good bad = good x p
either_way (Err e) p q good bad = bad q

-- what follows from what was answered
pub when_returned : {T E : Type 0} {P : T → Type 0} {C : Type 0} (r : Result T E) → IfOk r P → ((x : T) → P x → C) → OnOk r C
when_returned (Ok x) p good = good x p
when_returned (Err e) p good = tt
