use Rattle.std.proofs.Common.{◌∷◌, length, subst, zero-add}
use Rattle.legal_history.specs.History.{numbers}
use Rattle.legal_history.specs.Places.{places, Ascend}
use Rattle.legal_history.proofs.Placed.{ascend}
use Rattle.legal_history.proofs.laws.places_ascend.Goals as goal

pub returns : goal.returns
returns g c = λ v. subst (λ n. Ascend 0 n (places v)) (zero-add (length v.seen)) (ascend (v.number ∷ numbers v.joined) 0 v.seen)
