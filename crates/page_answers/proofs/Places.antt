-- What stands before and behind the first place that passes a test.
use Rattle.std.proofs.Common.{◌≡◌, ℕ, ◌-◌, ◌<◌, ◌==◌, Bool, true, false, cond, Some, None, List, [], ◌∷◌, length, take, drop, sym, ap, ◌∙◌, refl, arith, length-drop}
use Rattle.std.specs.Prelude.{position}
use Rattle.std.specs.List.{before_first}
use Rattle.std.proofs.lemmas.Bool.{ltb-false, ltb-true}
use Rattle.std.proofs.lemmas.Option.{none-some, same_Some}
use Rattle.std.proofs.lemmas.List.{take_all, drop_all}
use Rattle.page_answers.specs.Paths.{or_slash, from_slash}

found : {A : Type 0} (b : Bool) (x y : A) → cond b (Some x) None ≡ Some y → (b ≡ true) × (x ≡ y)
found true x y e = (refl, same_Some x y e)
found false x y e = absurd (none-some y e)

absent : {A : Type 0} (b : Bool) (x : A) → cond b (Some x) None ≡ None → b ≡ false
absent true x e = absurd (none-some x (sym e))
absent false x e = refl

pub take_at : (p : ℕ → Bool) (xs : List ℕ) (n : ℕ) → position p xs ≡ Some n → take n xs ≡ before_first p xs
take_at p xs n e = ap (λ (k : ℕ). take k xs) (sym (found _ _ _ e).1)

pub take_none : (p : ℕ → Bool) (xs : List ℕ) → position p xs ≡ None → xs ≡ before_first p xs
take_none p xs e = sym (take_all _ xs (ltb-false _ _ (absent _ _ e)))

or_slash_full : (xs : List ℕ) → 0 < length xs → or_slash xs ≡ xs
or_slash_full [] h = absurd (omega (arith, h))
or_slash_full (x ∷ xs) h = refl

pub slash_at : (xs : List ℕ) (n : ℕ) → position (λ c. c == 47) xs ≡ Some n → take (length xs - n) (drop n xs) ≡ from_slash xs
slash_at xs n e =
    let at = found _ _ _ e in
    let inside : n < length xs = let below = ltb-true _ _ at.0 in omega (arith, below, at.1) in
    let all : take (length xs - n) (drop n xs) ≡ drop n xs = take_all _ (drop n xs) (omega (arith, length-drop n xs)) in
    let full : or_slash (drop n xs) ≡ drop n xs = or_slash_full (drop n xs) (omega (arith, length-drop n xs)) in
    all ∙ (sym full ∙ ap (λ (k : ℕ). or_slash (drop k xs)) (sym at.1))

pub slash_none : (xs : List ℕ) → position (λ c. c == 47) xs ≡ None → 47 ∷ [] ≡ from_slash xs
slash_none xs e = sym (ap or_slash (drop_all _ xs (ltb-false _ _ (absent _ _ e))))
