use Rattle.std.proofs.Common.{◌≡◌, ℕ, ◌<◌, false, Some, length, sym, subst, ap, refl, ◌∙◌, arith}
use Rattle.std.specs.Prelude.{is_some, slice_get, position}
use Rattle.std.specs.List.{list_any}
use Rattle.std.specs.Map.{values_of}
use Rattle.std.proofs.lemmas.List.{length-map}
use Rattle.std.proofs.lemmas.Option.{slice_get_read}
use Rattle.hash_starts.specs.declared.start.HashStart.{HashStart}
use Rattle.metrics_core.specs.Keys.{KeyText, key_eq}
use Rattle.metrics_core.specs.KeyLaws.{key_eq_laws}
use Rattle.metrics_registry.specs.NumberedKeys.{AreNumbered, NumbersText, number_of}
use Rattle.metrics_registry.proofs.NumberedKeys.{none_under, none_but, found_under, no_place, is_some-position}
use Rattle.metrics_registry.proofs.numbered_keys.place_under.Goals as goal
use Rattle.metrics_registry.proofs.numbered_keys.place_under.Goals.{After-from_residual, Then-eq, Else-eq}

module _ (start : HashStart) (numbers : NumbersText) where
  -- no key stands under the number
  none_there : (c : After-from_residual) → c.args.number ≡ number_of start numbers c.args.key.now → AreNumbered start numbers c.args.keys.now.entries
      → list_any (key_eq c.args.key.now) (values_of c.args.keys.now.entries) ≡ false
  none_there c is numbered = none_under start numbers c.args.key.now c.args.keys.now.entries numbered c.args.number is (sym c.in_err-place.ensures.found)

  -- the key that stands there is equal
  found_there : (c : Then-eq) → c.args.number ≡ number_of start numbers c.args.key.now → AreNumbered start numbers c.args.keys.now.entries
      → Some c.in_ok-place.place ≡ position (key_eq c.args.key.now) (values_of c.args.keys.now.entries)
  found_there c is numbered =
      let es = c.args.keys.now.entries in
      let within : c.in_ok-place.place < length (values_of es) = omega (arith, c.in_ok-place.ensures.within, length-map es (λ (e : ℕ × KeyText). e.1)) in
      let k = c.index-in_order-place.result in
      let at = subst (λ l. slice_get l c.in_ok-place.place ≡ Some k) c.in_order.ensures
      (slice_get_read c.in_order.result.now (length c.in_order.result.now) c.in_ok-place.place k refl (subst (λ l. c.in_ok-place.place < length l) (sym c.in_order.ensures) within) c.index-in_order-place.is) in
      found_under start numbers c.args.key.now es numbered c.args.number c.in_ok-place.place k is c.in_ok-place.ensures.index within at
      (key_eq_laws.symm c.args.key.now k ∙ sym c.eq.ensures.value ∙ c.if-eq.true)

  -- the key that stands there isn't, and no other has its number
  none_else_there : (c : Else-eq) → c.args.number ≡ number_of start numbers c.args.key.now → AreNumbered start numbers c.args.keys.now.entries
      → list_any (key_eq c.args.key.now) (values_of c.args.keys.now.entries) ≡ false
  none_else_there c is numbered =
      let es = c.args.keys.now.entries in
      let within : c.in_ok-place.place < length (values_of es) = omega (arith, c.in_ok-place.ensures.within, length-map es (λ (e : ℕ × KeyText). e.1)) in
      let k = c.index-in_order-place.result in
      let at = subst (λ l. slice_get l c.in_ok-place.place ≡ Some k) c.in_order.ensures
      (slice_get_read c.in_order.result.now (length c.in_order.result.now) c.in_ok-place.place k refl (subst (λ l. c.in_ok-place.place < length l) (sym c.in_order.ensures) within) c.index-in_order-place.is) in
      none_but start numbers c.args.key.now es numbered c.args.number c.in_ok-place.place k is c.in_ok-place.ensures.unique
      c.in_ok-place.ensures.index at (key_eq_laws.symm c.args.key.now k ∙ sym c.eq.ensures.value ∙ c.if-eq.false)

pub returns-in_err-place-clause-index : goal.returns-in_err-place-clause-index
returns-in_err-place-clause-index c start numbers is numbered =
    c.from_residual.ensures ∙ sym (no_place (key_eq c.args.key.now) (values_of c.args.keys.now.entries) (none_there start numbers c is numbered))

pub returns-in_err-place-clause-found : goal.returns-in_err-place-clause-found
returns-in_err-place-clause-found c start numbers is numbered = ap is_some c.from_residual.ensures ∙ sym (none_there start numbers c is numbered)

pub returns-then-eq-clause-index : goal.returns-then-eq-clause-index
returns-then-eq-clause-index c start numbers is numbered = found_there start numbers c is numbered

pub returns-then-eq-clause-found : goal.returns-then-eq-clause-found
returns-then-eq-clause-found c start numbers is numbered =
    ap is_some (found_there start numbers c is numbered) ∙ is_some-position (key_eq c.args.key.now) (values_of c.args.keys.now.entries)

pub returns-else-eq-clause-index : goal.returns-else-eq-clause-index
returns-else-eq-clause-index c start numbers is numbered =
    sym (no_place (key_eq c.args.key.now) (values_of c.args.keys.now.entries) (none_else_there start numbers c is numbered))

pub returns-else-eq-clause-found : goal.returns-else-eq-clause-found
returns-else-eq-clause-found c start numbers is numbered = sym (none_else_there start numbers c is numbered)
