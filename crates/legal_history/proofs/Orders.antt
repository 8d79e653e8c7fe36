-- A history whose entries have lanes is got by taking each lane's calls in some order.
use Rattle.std.proofs.Common.{◌≡◌, ℕ, ◌+◌, ◌-◌, ◌<◌, ◌≤◌, ◌==◌, Bool, true, false, List, [], ◌∷◌, ◌++◌, length, refl, sym, ap, ◌∙◌, arith, eq-eqb, ne_eqb, true≢false, lt_of_not-le}
use mathlib.Core.Logic.{dite}
use native.Mathlib.Decide.{ℕ_discrete, dec_le}
use Rattle.legal_history.specs.declared.history.Entry.{Entry}
use Rattle.legal_history.specs.History.{calls, keep, calls_by}
use Rattle.legal_history.specs.Order.{flag, times, first_of, rest_of, rest_if, without_first, taken}

module _ {C : Type 0} where
  -- the calls that g gives the lane l
  abbrev pub picked : (Entry C → ℕ) → ℕ → List (Entry C) → List C
  picked g l [] = []
  picked g l (e ∷ es) = keep (g e == l) e.call (picked g l es)

  abbrev pub lanes_of : (Entry C → ℕ) → List (Entry C) → List ℕ
  lanes_of g [] = []
  lanes_of g (e ∷ es) = g e ∷ lanes_of g es

  here : (g : Entry C → ℕ) (e : Entry C) (es : List (Entry C)) → picked g (g e) (e ∷ es) ≡ e.call ∷ picked g (g e) es
  here g e es = ap (λ b. keep b e.call (picked g (g e) es)) (eq-eqb (g e) (g e) refl)

  left_over : (g : Entry C → ℕ) (e : Entry C) (es : List (Entry C)) (lists : ℕ → List C) (l : ℕ) → picked g l (e ∷ es) ≡ lists l → picked g l es ≡ without_first (g e) lists l
  left_over g e es lists l is = dite (ℕ_discrete l (g e))
      (λ (q : l ≡ g e).
      ap rest_of (sym (ap (λ b. keep b e.call (picked g l es)) (eq-eqb (g e) l (sym q))) ∙ is) ∙ sym (ap (λ b. rest_if b (lists l)) (eq-eqb l (g e) q)))
      (λ (ne : ¬ (l ≡ g e)).
      sym (ap (λ b. keep b e.call (picked g l es)) (ne_eqb (g e) l (λ q. ne (sym q)))) ∙ (is ∙ sym (ap (λ b. rest_if b (lists l)) (ne_eqb l (g e) ne))))

  pub takes_all : (g : Entry C → ℕ) (es : List (Entry C)) (lists : ℕ → List C) → ((l : ℕ) → picked g l es ≡ lists l) → taken (lanes_of g es) lists ≡ calls es
  takes_all g [] lists is = refl
  takes_all g (e ∷ es) lists is =
      ap (λ cs. first_of cs ++ taken (lanes_of g es) (without_first (g e) lists)) (sym (is (g e)) ∙ here g e es)
      ∙ ap (λ cs. e.call ∷ cs) (takes_all g es (without_first (g e) lists) (λ l. left_over g e es lists l (is l)))

  times_keep : (b : Bool) (c : C) (cs : List C) (n : ℕ) → n ≡ length cs → flag b + n ≡ length (keep b c cs)
  times_keep true c cs n e = omega arith
  times_keep false c cs n e = omega arith

  pub counts_all : (g : Entry C → ℕ) (es : List (Entry C)) (l : ℕ) → times l (lanes_of g es) ≡ length (picked g l es)
  counts_all g [] l = refl
  counts_all g (e ∷ es) l = times_keep (g e == l) e.call (picked g l es) (times l (lanes_of g es)) (counts_all g es l)

  pub keep_none : (b : Bool) (c : C) (cs : List C) → keep b c cs ≡ [] → cs ≡ []
  keep_none true c cs e = absurd (cc)
  keep_none false c cs e = e

  pub not_kept : (b : Bool) (c : C) (cs : List C) → b ≡ true → keep b c cs ≡ [] → ⊥
  not_kept true c cs q e = absurd (cc)
  not_kept false c cs q e = absurd (true≢false (sym q))

  -- where no entry is of a number below base, the calls of base + l are those of lane l
  pub picked_is : (base : ℕ) (es : List (Entry C)) → ((t : ℕ) → t < base → calls_by t es ≡ []) → (l : ℕ) → picked (λ e. e.by - base) l es ≡ calls_by (base + l) es
  picked_is base [] low l = refl
  picked_is base (e ∷ es) low l =
      let above : base ≤ e.by = dite (dec_le base e.by) (λ h. h) (λ h. absurd (not_kept (e.by == e.by) e.call (calls_by e.by es) (eq-eqb e.by e.by refl) (low e.by (lt_of_not-le h)))) in
      let rest = picked_is base es (λ t h. keep_none (e.by == t) e.call (calls_by t es) (low t h)) l in
      let test : (e.by - base == l) ≡ (e.by == base + l) = dite (ℕ_discrete e.by (base + l))
      (λ (q : e.by ≡ base + l). eq-eqb (e.by - base) l (omega arith) ∙ sym (eq-eqb e.by (base + l) q))
      (λ (ne : ¬ (e.by ≡ base + l)). ne_eqb (e.by - base) l (λ q. ne (omega arith)) ∙ sym (ne_eqb e.by (base + l) ne)) in
      ap (λ b. keep b e.call (picked (λ e. e.by - base) l es)) test ∙ ap (keep (e.by == base + l) e.call) rest
