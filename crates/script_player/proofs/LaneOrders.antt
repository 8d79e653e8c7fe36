-- Orders of a round: what is taken lane by lane is an order of each lane's calls.
use Rattle.std.proofs.Common.{◌≡◌, ℕ, ◌+◌, Bool, true, false, cond, List, [], ◌∷◌, ◌++◌, length, map, refl, sym, ap, ◌∙◌, arith}
use Rattle.std.specs.Prelude.{◌==◌}
use Rattle.std.proofs.lemmas.Bool.{eq-eqb, ne_eqb, eqb-true}
use Rattle.std.proofs.lemmas.List.{map-append}
use Rattle.std.proofs.lemmas.List.Elements.{filter-append}
use mathlib.Core.Logic.{dite}
use native.Mathlib.Decide.{ℕ_discrete}
use Rattle.legal_history.specs.Order.{flag, times, first_of, rest_of, rest_if, without_first, taken, IsOrder}
use Rattle.drive_script.specs.Script.{CallLine}
use Rattle.script_player.specs.Play.{of_lane}

module _ {A B : Type 0} (f : A → B) where
  first_map : (xs : List A) → map f (first_of xs) ≡ first_of (map f xs)
  first_map [] = refl
  first_map (x ∷ xs) = refl

  rest_map : (b : Bool) (xs : List A) → map f (rest_if b xs) ≡ rest_if b (map f xs)
  rest_map false xs = refl
  rest_map true [] = refl
  rest_map true (x ∷ xs) = refl

  -- what is taken of lists of images is the image of what is taken
  pub taken_map : (order : List ℕ) (xs : ℕ → List A) → map f (taken order xs) ≡ taken order (λ l. map f (xs l))
  taken_map [] xs = refl
  taken_map (l ∷ ls) xs =
      map-append f (first_of (xs l)) (taken ls (without_first l xs))
      ∙ (λ i. first_map (xs l) i ++ (taken_map ls (without_first l xs) ∙ ap (taken ls) (λ j k. rest_map (k == l) (xs k) j)) i)

-- all these calls are of lane l
abbrev pub OwnBy : ℕ → List CallLine → Type 0
OwnBy l [] = Unit {0}
OwnBy l (c ∷ cs) = ((c.lane == l) ≡ true) × OwnBy l cs

none_left : (ys : List CallLine) → 0 ≡ length ys → [] ≡ ys
none_left [] e = refl
none_left (y ∷ ys) e = absurd (omega (arith, e))

own_rest : (b : Bool) (l : ℕ) (ys : List CallLine) → OwnBy l ys → OwnBy l (rest_if b ys)
own_rest false l ys own = own
own_rest true l [] own = tt
own_rest true l (y ∷ ys) own = own.1

rest_count : (ys : List CallLine) (n : ℕ) → 1 + n ≡ length ys → n ≡ length (rest_of ys)
rest_count [] n e = absurd (omega (arith, e))
rest_count (y ∷ ys) n e = omega (arith, e)

own_first : (ys : List CallLine) (l n : ℕ) → OwnBy l ys → 1 + n ≡ length ys → of_lane l (first_of ys) ++ rest_of ys ≡ ys
own_first [] l n own e = absurd (omega (arith, e))
own_first (y ∷ ys) l n own e = ap (λ b. cond b (y ∷ []) [] ++ ys) own.0

other_first : (ys : List CallLine) (l lane : ℕ) → OwnBy l ys → ¬ (lane ≡ l) → of_lane lane (first_of ys) ≡ []
other_first [] l lane own ne = refl
other_first (y ∷ ys) l lane own ne = ap (λ b. cond b (y ∷ []) []) (ne_eqb y.lane lane (λ e. ne (sym e ∙ eqb-true y.lane l own.0)))

counts_rest : (l k : ℕ) (ls : List ℕ) (ys : List CallLine) → times k (l ∷ ls) ≡ length ys → times k ls ≡ length (rest_if (k == l) ys)
counts_rest l k ls ys e = dite (ℕ_discrete k l)
    (λ (same : k ≡ l). rest_count ys (times k ls) (sym (ap (λ b. flag b + times k ls) (eq-eqb l k (sym same))) ∙ e) ∙ ap (λ b. length (rest_if b ys)) (sym (eq-eqb k l same)))
    (λ (ne : ¬ (k ≡ l)). let none : times k ls ≡ 0 + times k ls = omega arith in none ∙ sym (ap (λ b. flag b + times k ls) (ne_eqb l k (λ q. ne (sym q)))) ∙ e ∙ ap (λ b. length (rest_if b ys)) (sym (ne_eqb k l ne)))

-- the calls of a lane in what is taken are those of the lane
pub taken_lane : (order : List ℕ) (xs : ℕ → List CallLine) → ((l : ℕ) → OwnBy l (xs l)) → IsOrder order xs → (lane : ℕ) → of_lane lane (taken order xs) ≡ xs lane
taken_lane [] xs own is lane = none_left (xs lane) (is lane)
taken_lane (l ∷ ls) xs own is lane =
    filter-append (λ (c : CallLine). c.lane == lane) (first_of (xs l)) (taken ls (without_first l xs))
    ∙ ap (λ r. of_lane lane (first_of (xs l)) ++ r) (taken_lane ls (without_first l xs) (λ k. own_rest (k == l) k (xs k) (own k)) (λ k. counts_rest l k ls (xs k) (is k)) lane)
    ∙ dite (ℕ_discrete lane l)
    (λ (same : lane ≡ l).
    ap (λ b. of_lane lane (first_of (xs l)) ++ rest_if b (xs lane)) (eq-eqb lane l same)
    ∙ ap (λ n. of_lane n (first_of (xs l)) ++ rest_of (xs n)) same
    ∙ own_first (xs l) l (times l ls) (own l) (sym (ap (λ b. flag b + times l ls) (eq-eqb l l refl)) ∙ is l) ∙ ap xs (sym same))
    (λ (ne : ¬ (lane ≡ l)).
    ap (λ b. of_lane lane (first_of (xs l)) ++ rest_if b (xs lane)) (ne_eqb lane l ne) ∙ ap (λ h. h ++ xs lane) (other_first (xs l) l lane (own l) ne))
