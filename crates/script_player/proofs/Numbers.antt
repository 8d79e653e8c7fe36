-- Lanes by their numbers: an order of lanes as an order of their numbers.
use Rattle.std.proofs.Common.{◌≡◌, ℕ, zero, suc, ◌+◌, ◌<◌, ◌≤◌, ◌⊎◌, Bool, true, false, List, [], ◌∷◌, ◌++◌, length, map, refl, sym, ap, subst, ◌∙◌, inl, inr, ⊎_elim, arith, lt_of_not-le}
use Rattle.std.specs.Prelude.{◌==◌, if◌then◌else◌, flat_map}
use Rattle.std.proofs.lemmas.Bool.{eq-eqb, ne_eqb}
use mathlib.Core.Logic.{dite}
use native.Mathlib.Decide.{ℕ_discrete, dec_le}
use Rattle.legal_history.specs.History.{Distinct, In}
use Rattle.legal_history.specs.Order.{flag, times, first_of, rest_of, rest_if, without_first, taken, IsOrder}
use Rattle.cell_lanes.specs.Lines.{LaneText}
use Rattle.cell_lanes.specs.Lanes.{all_calls_on, cell_calls}
use Rattle.script_player.specs.LaneCalls.{numbered, numbered_at}

-- ---- an order under other numbers

none_left : {A : Type 0} (ys : List A) → 0 ≡ length ys → ys ≡ []
none_left [] e = refl
none_left (y ∷ ys) e = absurd (omega (arith, e))

rest_none : {A : Type 0} (b : Bool) → rest_if {C = A} b [] ≡ []
rest_none true = refl
rest_none false = refl

rest_count : {A : Type 0} (ys : List A) (n : ℕ) → 1 + n ≡ length ys → n ≡ length (rest_of ys)
rest_count [] n e = absurd (omega (arith, e))
rest_count (y ∷ ys) n e = omega (arith, e)

-- a number is that of one of the first so many, or of none
find : (n : ℕ → ℕ) (count t m : ℕ) → m ≤ count → ((i : ℕ) × (i < count) × (n i ≡ t)) ⊎ ((i : ℕ) → i < m → n i ≡ t → ⊥)
find n count t zero le = inr (λ i less e. absurd (omega (arith, less)))
find n count t (suc m) le = dite (ℕ_discrete (n m) t)
    (λ (e : n m ≡ t). inl (m, omega (arith, le), e))
    (λ (ne : ¬ (n m ≡ t)). ⊎_elim
    (λ (h : (i : ℕ) × (i < count) × (n i ≡ t)). inl h)
    (λ (far : (i : ℕ) → i < m → n i ≡ t → ⊥). inr (λ i less e. dite (ℕ_discrete i m) (λ (q : i ≡ m). ne (ap n (sym q) ∙ e)) (λ (other : ¬ (i ≡ m)). far i (omega (arith, less, other)) e)))
    (find n count t m (omega (arith, le))))

module _ {A : Type 0} (n : ℕ → ℕ) (count : ℕ) (apart : (i k : ℕ) → i < count → k < count → n i ≡ n k → i ≡ k) where
  -- the lists xs under the numbers
  pub record Under (xs ys : ℕ → List A) : Type 0 where
    pub same : (i : ℕ) → i < count → xs i ≡ ys (n i)
    pub past : (i : ℕ) → count ≤ i → xs i ≡ []
    pub none : (t : ℕ) → ((i : ℕ) → i < count → n i ≡ t → ⊥) → ys t ≡ []

  first_below : (l : ℕ) (ls : List ℕ) (xs ys : ℕ → List A) → Under xs ys → IsOrder (l ∷ ls) xs → l < count
  first_below l ls xs ys under is = dite (dec_le (suc l) count)
      (λ (h : suc l ≤ count). h)
      (λ (h : ¬ (suc l ≤ count)).
      let past : count ≤ l = omega (arith, lt_of_not-le h) in
      let one : flag (l == l) ≡ 1 = ap flag (eq-eqb l l refl) in
      let all = is l ∙ ap length (under.past l past) in
      absurd (omega (arith, one, all)))

  under_rest : (l : ℕ) (xs ys : ℕ → List A) → l < count → Under xs ys → Under (without_first l xs) (without_first (n l) ys)
  under_rest l xs ys less under = record {
    same = λ i below. dite (ℕ_discrete i l)
        (λ (e : i ≡ l). (λ k. rest_if (eq-eqb i l e k) (under.same i below k)) ∙ ap (λ b. rest_if b (ys (n i))) (sym (eq-eqb (n i) (n l) (ap n e))))
        (λ (ne : ¬ (i ≡ l)). (λ k. rest_if (ne_eqb i l ne k) (under.same i below k)) ∙ ap (λ b. rest_if b (ys (n i))) (sym (ne_eqb (n i) (n l) (λ e. ne (apart i l below less e)))));
    past = λ i above. ap (rest_if (i == l)) (under.past i above) ∙ rest_none (i == l);
    none = λ t far. ap (rest_if (t == n l)) (under.none t far) ∙ rest_none (t == n l);
  }

  order_rest : (l : ℕ) (ls : List ℕ) (xs : ℕ → List A) → IsOrder (l ∷ ls) xs → IsOrder ls (without_first l xs)
  order_rest l ls xs is t = dite (ℕ_discrete t l)
      (λ (same : t ≡ l). rest_count (xs t) (times t ls) (sym (ap (λ b. flag b + times t ls) (eq-eqb l t (sym same))) ∙ is t) ∙ ap (λ b. length (rest_if b (xs t))) (sym (eq-eqb t l same)))
      (λ (ne : ¬ (t ≡ l)). let none : times t ls ≡ 0 + times t ls = omega arith in none ∙ sym (ap (λ b. flag b + times t ls) (ne_eqb l t (λ q. ne (sym q)))) ∙ is t ∙ ap (λ b. length (rest_if b (xs t))) (sym (ne_eqb t l ne)))

  pub taken_under : (order : List ℕ) (xs ys : ℕ → List A) → Under xs ys → IsOrder order xs → taken (map n order) ys ≡ taken order xs
  taken_under [] xs ys under is = refl
  taken_under (l ∷ ls) xs ys under is =
      let below = first_below l ls xs ys under is in
      (λ k. first_of (sym (under.same l below) k) ++ taken_under ls (without_first l xs) (without_first (n l) ys) (under_rest l xs ys below under) (order_rest l ls xs is) k)

  times_under : (order : List ℕ) (xs ys : ℕ → List A) → Under xs ys → IsOrder order xs → (i : ℕ) → i < count → times (n i) (map n order) ≡ times i order
  times_under [] xs ys under is i below = refl
  times_under (l ∷ ls) xs ys under is i below =
      let less = first_below l ls xs ys under is in
      let rest = times_under ls (without_first l xs) (without_first (n l) ys) (under_rest l xs ys less under) (order_rest l ls xs is) i below in
      dite (ℕ_discrete l i)
      (λ (e : l ≡ i). (λ k. flag (eq-eqb (n l) (n i) (ap n e) k) + rest k) ∙ ap (λ b. flag b + times i ls) (sym (eq-eqb l i e)))
      (λ (ne : ¬ (l ≡ i)). (λ k. flag (ne_eqb (n l) (n i) (λ e. ne (apart l i less below e)) k) + rest k) ∙ ap (λ b. flag b + times i ls) (sym (ne_eqb l i ne)))

  times_none : (order : List ℕ) (xs ys : ℕ → List A) → Under xs ys → IsOrder order xs → (t : ℕ) → ((i : ℕ) → i < count → n i ≡ t → ⊥) → times t (map n order) ≡ 0
  times_none [] xs ys under is t far = refl
  times_none (l ∷ ls) xs ys under is t far =
      let less = first_below l ls xs ys under is in
      (λ k. flag (ne_eqb (n l) t (far l less) k) + times_none ls (without_first l xs) (without_first (n l) ys) (under_rest l xs ys less under) (order_rest l ls xs is) t far k)

  pub order_under : (order : List ℕ) (xs ys : ℕ → List A) → Under xs ys → IsOrder order xs → IsOrder (map n order) ys
  order_under order xs ys under is t = ⊎_elim
      (λ (h : (i : ℕ) × (i < count) × (n i ≡ t)).
      ap (λ m. times m (map n order)) (sym h.2) ∙ times_under order xs ys under is h.0 h.1 ∙ is h.0 ∙ ap length (under.same h.0 h.1 ∙ ap ys h.2))
      (λ (far : (i : ℕ) → i < count → n i ≡ t → ⊥). times_none order xs ys under is t far ∙ sym (ap length (under.none t far)))
      (find n count t count (omega arith))

  -- what is so of the lists under all numbers is so of each list
  pub each_under : (xs ys : ℕ → List A) → Under xs ys → (P : List A → Type 0) → P [] → ((l : ℕ) → P (ys l)) → (i : ℕ) → P (xs i)
  each_under xs ys under P none each i = dite (dec_le (suc i) count)
      (λ (less : suc i ≤ count). subst P (sym (under.same i less)) (each (n i)))
      (λ (above : ¬ (suc i ≤ count)). subst P (sym (under.past i (omega (arith, lt_of_not-le above)))) none)

-- ---- lanes

module _ {K : Type 0} where
  abbrev pub number_at : List (LaneText K) → ℕ → ℕ
  number_at [] i = 0
  number_at (x ∷ xs) zero = x.number
  number_at (x ∷ xs) (suc i) = number_at xs i

  abbrev pub number_of : LaneText K → ℕ
  number_of lane = lane.number

  numbered_in : (lanes : List (LaneText K)) (i : ℕ) → i < length lanes → In (number_at lanes i) (map number_of lanes)
  numbered_in [] i less = absurd (omega (arith, less))
  numbered_in (x ∷ xs) zero less = inl refl
  numbered_in (x ∷ xs) (suc i) less = inr (numbered_in xs i (omega (arith, less)))

  pub numbers_differ : (lanes : List (LaneText K)) → Distinct (map number_of lanes) → (i k : ℕ) → i < length lanes → k < length lanes → number_at lanes i ≡ number_at lanes k → i ≡ k
  numbers_differ [] apart i k less below e = absurd (omega (arith, less))
  numbers_differ (x ∷ xs) apart zero zero less below e = refl
  numbers_differ (x ∷ xs) apart zero (suc k) less below e = absurd (apart.0 (subst (λ t. In t (map number_of xs)) (sym e) (numbered_in xs k (omega (arith, below)))))
  numbers_differ (x ∷ xs) apart (suc i) zero less below e = absurd (apart.0 (subst (λ t. In t (map number_of xs)) e (numbered_in xs i (omega (arith, less)))))
  numbers_differ (x ∷ xs) apart (suc i) (suc k) less below e = ap suc (numbers_differ xs apart.1 i k (omega (arith, less)) (omega (arith, below)) e)

-- of lanes that ask for calls of another kind: those among them that are for one exporter
module _ {K A : Type 0} (asks : K → List A) (j : ℕ) where
  -- what a lane asks for on cell j
  abbrev pub asked_by : LaneText K → List A
  asked_by lane = flat_map asks (cell_calls j lane.cells lane.lines)

  -- the same of the lane with this place in the list, and of the lane with this number
  abbrev pub asked_on : List (LaneText K) → ℕ → List A
  asked_on lanes i = flat_map asks (all_calls_on j lanes i)

  abbrev pub told_on : List (LaneText K) → ℕ → List A
  told_on = numbered number_of asked_by

  told_own : (lanes : List (LaneText K)) → Distinct (map number_of lanes) → (i : ℕ) → i < length lanes → asked_on lanes i ≡ told_on lanes (number_at lanes i)
  told_own [] apart i less = absurd (omega (arith, less))
  told_own (x ∷ xs) apart zero less = sym (ap (λ b. if b then asked_by x else told_on xs x.number) (eq-eqb x.number x.number refl))
  told_own (x ∷ xs) apart (suc i) less =
      let within : i < length xs = omega (arith, less) in
      told_own xs apart.1 i within
      ∙ sym (ap (λ b. if b then asked_by x else told_on xs (number_at xs i)) (ne_eqb x.number (number_at xs i) (λ e. apart.0 (subst (λ t. In t (map number_of xs)) (sym e) (numbered_in xs i within)))))

  told_past : (lanes : List (LaneText K)) (i : ℕ) → length lanes ≤ i → asked_on lanes i ≡ []
  told_past [] i past = refl
  told_past (x ∷ xs) zero past = absurd (omega (arith, past))
  told_past (x ∷ xs) (suc i) past = told_past xs i (omega (arith, past))

  told_none : (lanes : List (LaneText K)) (t : ℕ) → ((i : ℕ) → i < length lanes → number_at lanes i ≡ t → ⊥) → told_on lanes t ≡ []
  told_none [] t far = refl
  told_none (x ∷ xs) t far = ap (λ b. if b then asked_by x else told_on xs t) (ne_eqb x.number t (far 0 (omega arith))) ∙ told_none xs t (λ i less e. far (suc i) (omega (arith, less)) e)

  -- of all that the lane with this number asks for on the cell, the calls for the exporter
  pub told_calls : (lanes : List (LaneText K)) (l : ℕ) → told_on lanes l ≡ flat_map asks (numbered_at j lanes l)
  told_calls [] l = refl
  told_calls (x ∷ xs) l = by (x.number == l) (told_calls xs l)
    where
      by : (b : Bool) → told_on xs l ≡ flat_map asks (numbered_at j xs l) → (if b then asked_by x else told_on xs l) ≡ flat_map asks (if b then cell_calls j x.cells x.lines else numbered_at j xs l)
      by true rest = refl
      by false rest = rest

  -- what lanes ask for by their places, under their numbers
  pub told_under : (lanes : List (LaneText K)) (apart : Distinct (map number_of lanes)) → Under (number_at lanes) (length lanes) (numbers_differ lanes apart) (asked_on lanes) (told_on lanes)
  told_under lanes apart = record { same = told_own lanes apart; past = told_past lanes; none = told_none lanes }
