use Rattle.std.proofs.Common.{◌≡◌, false, sym, subst, ap}
use Rattle.std.specs.Prelude.{is_some, OnErr, Result, Ok, Err}
use Rattle.std.specs.List.{list_any}
use Rattle.metrics_core.specs.Keys.{key_eq}
use Rattle.metrics_registry.proofs.NumberedKeys.{no_place, none_under}
use Rattle.metrics_registry.proofs.numbered_keys.NumberedKeys.enter.Goals as goal
use Rattle.metrics_registry.proofs.numbered_keys.NumberedKeys.enter.Goals.{After-number_of-number, In_default}

known : {T E P : Type 0} (r : Result T E) → P → OnErr r P
known (Ok x) p = tt
known (Err e) p = p

-- no key stands under the number, so none is equal
absent : (c : In_default) → list_any (key_eq c.args.key) c.args.self.now.keys ≡ false
absent c =
    subst (λ list. list_any (key_eq c.args.key) list.keys ≡ false) c.self.view_is
    (none_under c.self.inside.start c.self.inside.numbers c.args.key c.self.inside.keys.entries c.self.invariant.numbered c.number_of-number.result c.number_of-number.ensures (ap is_some (rw c.in_default.is at c.in_ok-key.ensures.free)))

pub returns-in_err-key-clause-absent : goal.returns-in_err-key-clause-absent
returns-in_err-key-clause-absent c =
    known c.from_residual.result
    (subst (λ list. list_any (key_eq c.args.key) list.keys ≡ false) c.self.view_is
    (none_under c.self.inside.start c.self.inside.numbers c.args.key c.self.inside.keys.entries c.self.invariant.numbered c.number_of-number.result c.number_of-number.ensures (ap is_some c.in_err-key.ensures.absent)))

pub returns-in_default-clause-index : goal.returns-in_default-clause-index
returns-in_default-clause-index c = sym (no_place (key_eq c.args.key) c.args.self.now.keys (absent c))

pub returns-in_default-clause-found : goal.returns-in_default-clause-found
returns-in_default-clause-found c = sym (absent c)
