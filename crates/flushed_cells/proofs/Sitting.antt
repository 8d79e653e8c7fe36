-- Each step of a pass keeps the passes on their seats.
use Rattle.std.proofs.Common.{◌≡◌, ◌≢◌, ℕ, ◌<◌, Bool, true, false, List, [], ◌∷◌, ◌++◌, set, length, refl, sym, ap, ◌∙◌, subst, ⊎_elim, arith, true≢false, if◌then◌else◌}
use Rattle.std.proofs.Math.ListN.{length-set}
use mathlib.Core.Option.{some, some-injective}
use lib.ListN.{get_elem?}
use Rattle.atomic_table.proofs.Lists.{at_set, set_here, set_else, set_again, at_longer, at_last}
use Rattle.legal_history.specs.declared.history.View.{View}
use Rattle.legal_history.specs.History.{first, nobody, lender, child, taker, after}
use Rattle.legal_history.specs.Object.{Told}
use Rattle.legal_history.proofs.Steps.{some_below, at_snoc_index}
use Rattle.legal_history.proofs.Objects.{turn, tells, forks, merges, opens}
use Rattle.flushed_cells.specs.Seats.{Sit, Seated, Exchanged, Looked}

module _ {C : Type 0} where
  number_is : (v w : View C) → v ≡ w → v.number ≡ w.number
  number_is v w e = ap (λ (u : View C). u.number) e

  not_nobody : (v : View C) → nobody ≡ v → v.live ≡ true → ⊥
  not_nobody v e live = true≢false (sym live ∙ sym (ap (λ (u : View C). u.live) e))

  -- the pass on one seat changes, and keeps its number
  pub sit_set : (passes seats : List (View C)) (i : ℕ) (v w : View C) → Sit passes seats → get_elem? seats i ≡ some v → v.live ≡ true → w.number ≡ v.number → Sit (set passes v.number w) (set seats i w)
  sit_set passes seats i v w s at live same = record {
    there = λ j u here alive. ⊎_elim
        (λ (q : (j ≡ i) × (w ≡ u)).
        subst (λ (z : View C). get_elem? (set passes v.number w) z.number ≡ some z) q.1
        (subst (λ (n : ℕ). get_elem? (set passes v.number w) n ≡ some w) (sym same) (set_here passes v.number w (some_below passes v.number v (s.there i v at live)))))
        (λ (q : (j ≢ i) × (get_elem? seats j ≡ some u)).
        set_else passes v.number u.number w (λ e. q.0 (s.once j i u v q.1 at alive live e)) ∙ s.there j u q.1 alive)
        (at_set seats i j w u here);
    once = λ j k u t here there alive lives e. ⊎_elim
        (λ (q : (j ≡ i) × (w ≡ u)). ⊎_elim
        (λ (r : (k ≡ i) × (w ≡ t)). q.0 ∙ sym r.0)
        (λ (r : (k ≢ i) × (get_elem? seats k ≡ some t)). absurd (r.0 (s.once k i t v r.1 at lives live (sym e ∙ (sym (number_is w u q.1) ∙ same)))))
        (at_set seats i k w t there))
        (λ (q : (j ≢ i) × (get_elem? seats j ≡ some u)). ⊎_elim
        (λ (r : (k ≡ i) × (w ≡ t)). absurd (q.0 (s.once j i u v q.1 at alive live (e ∙ (sym (number_is w t r.1) ∙ same)))))
        (λ (r : (k ≢ i) × (get_elem? seats k ≡ some t)). s.once j k u t q.1 r.1 alive lives e)
        (at_set seats i k w t there))
        (at_set seats i j w u here);
  }

  pub sit_same : (passes seats : List (View C)) (i : ℕ) (v : View C) → Sit passes seats → get_elem? seats i ≡ some v → Sit passes (set seats i v)
  sit_same passes seats i v s at = subst (λ (l : List (View C)). Sit passes l) (sym (set_again seats i v at)) s

  -- a pass takes a new seat, and has the next number
  pub sit_new : (passes seats : List (View C)) (w : View C) → Sit passes seats → w.number ≡ length passes → Sit (passes ++ w ∷ []) (seats ++ w ∷ [])
  sit_new passes seats w s same = record {
    there = λ j u here alive. ⊎_elim
        (λ (q : get_elem? seats j ≡ some u). at_longer passes (w ∷ []) u.number u (s.there j u q alive))
        (λ (q : (j ≡ length seats) × (w ≡ u)).
        subst (λ (z : View C). get_elem? (passes ++ w ∷ []) z.number ≡ some z) q.1 (at_last passes w w.number (sym same)))
        (at_snoc_index seats w u j here);
    once = λ j k u t here there alive lives e. ⊎_elim
        (λ (q : get_elem? seats j ≡ some u). ⊎_elim
        (λ (r : get_elem? seats k ≡ some t). s.once j k u t q r alive lives e)
        (λ (r : (k ≡ length seats) × (w ≡ t)).
        let n : u.number < length passes = some_below passes u.number u (s.there j u q alive) in
        let m : u.number ≡ length passes = e ∙ (sym (number_is w t r.1) ∙ same) in
        absurd (omega arith))
        (at_snoc_index seats w t k there))
        (λ (q : (j ≡ length seats) × (w ≡ u)). ⊎_elim
        (λ (r : get_elem? seats k ≡ some t).
        let n : t.number < length passes = some_below passes t.number t (s.there k t r lives) in
        let m : t.number ≡ length passes = sym e ∙ (sym (number_is w u q.1) ∙ same) in
        absurd (omega arith))
        (λ (r : (k ≡ length seats) × (w ≡ t)). q.0 ∙ sym r.0)
        (at_snoc_index seats w t k there))
        (at_snoc_index seats w u j here);
  }

  -- a pass leaves its seat
  pub sit_gone : (passes seats : List (View C)) (i : ℕ) (v : View C) → Sit passes seats → get_elem? seats i ≡ some v → v.live ≡ true → Sit (set passes v.number nobody) (set seats i nobody)
  sit_gone passes seats i v s at live = record {
    there = λ j u here alive. ⊎_elim
        (λ (q : (j ≡ i) × (nobody ≡ u)). absurd (not_nobody u q.1 alive))
        (λ (q : (j ≢ i) × (get_elem? seats j ≡ some u)).
        set_else passes v.number u.number nobody (λ e. q.0 (s.once j i u v q.1 at alive live e)) ∙ s.there j u q.1 alive)
        (at_set seats i j nobody u here);
    once = λ j k u t here there alive lives e. ⊎_elim
        (λ (q : (j ≡ i) × (nobody ≡ u)). absurd (not_nobody u q.1 alive))
        (λ (q : (j ≢ i) × (get_elem? seats j ≡ some u)). ⊎_elim
        (λ (r : (k ≡ i) × (nobody ≡ t)). absurd (not_nobody t r.1 lives))
        (λ (r : (k ≢ i) × (get_elem? seats k ≡ some t)). s.once j k u t q.1 r.1 alive lives e)
        (at_set seats i k nobody t there))
        (at_set seats i j nobody u here);
  }

  -- a pass goes from its seat to a new one
  pub sit_moved : (passes seats : List (View C)) (i : ℕ) (v : View C) → Sit passes seats → get_elem? seats i ≡ some v → v.live ≡ true → Sit passes (set seats i nobody ++ v ∷ [])
  sit_moved passes seats i v s at live = record {
    there = λ j u here alive. ⊎_elim
        (λ (q : get_elem? (set seats i nobody) j ≡ some u). (stayed j u q alive).1)
        (λ (q : (j ≡ length (set seats i nobody)) × (v ≡ u)). subst (λ (z : View C). get_elem? passes z.number ≡ some z) q.1 (s.there i v at live))
        (at_snoc_index (set seats i nobody) v u j here);
    once = λ j k u t here there alive lives e. ⊎_elim
        (λ (q : get_elem? (set seats i nobody) j ≡ some u). ⊎_elim
        (λ (r : get_elem? (set seats i nobody) k ≡ some t). s.once j k u t (stayed j u q alive).2 (stayed k t r lives).2 alive lives e)
        (λ (r : (k ≡ length (set seats i nobody)) × (v ≡ t)).
        let a = stayed j u q alive in
        absurd (a.0 (s.once j i u v a.2 at alive live (e ∙ sym (number_is v t r.1)))))
        (at_snoc_index (set seats i nobody) v t k there))
        (λ (q : (j ≡ length (set seats i nobody)) × (v ≡ u)). ⊎_elim
        (λ (r : get_elem? (set seats i nobody) k ≡ some t).
        let a = stayed k t r lives in
        absurd (a.0 (s.once k i t v a.2 at lives live (sym e ∙ sym (number_is v u q.1)))))
        (λ (r : (k ≡ length (set seats i nobody)) × (v ≡ t)). q.0 ∙ sym r.0)
        (at_snoc_index (set seats i nobody) v t k there))
        (at_snoc_index (set seats i nobody) v u j here);
  }
    where
      stayed : (j : ℕ) (u : View C) → get_elem? (set seats i nobody) j ≡ some u → u.live ≡ true → (j ≢ i) × (get_elem? passes u.number ≡ some u) × (get_elem? seats j ≡ some u)
      stayed j u here alive = ⊎_elim
          (λ (q : (j ≡ i) × (nobody ≡ u)). absurd (not_nobody u q.1 alive))
          (λ (q : (j ≢ i) × (get_elem? seats j ≡ some u)). (q.0, s.there j u q.1 alive, q.1))
          (at_set seats i j nobody u here)

module _ {S C : Type 0} (Step : C → S → S → Type 0) (start : S) where
  pub opens_seated : Seated {C = C} Step start start (first ∷ [])
  opens_seated = record {
    passes = first ∷ [];
    keeps = opens Step start;
    sit = record {
      there = λ i v at live. only i v at;
      once = λ i j v w at there live alive e. zero_at i v at ∙ sym (zero_at j w there);
    };
  }
    where
      zero_at : (i : ℕ) (v : View C) → get_elem? (first ∷ []) i ≡ some v → i ≡ 0
      zero_at i v at = let h : i < 1 = some_below (first ∷ []) i v at in omega arith

      only : (i : ℕ) (v : View C) → get_elem? (first ∷ []) i ≡ some v → get_elem? (first ∷ []) v.number ≡ some v
      only i v at =
          let here : get_elem? (first ∷ []) 0 ≡ some v = subst (λ n. get_elem? (first ∷ []) n ≡ some v) (zero_at i v at) at in
          subst (λ (z : View C). get_elem? (first ∷ []) z.number ≡ some z) (some-injective first v here) refl

  -- a call where the state is as expected, or nothing
  pub exchanges : (x old new : S) (same : Bool) → (same ≡ true → x ≡ old) → (same ≡ false → ¬ (x ≡ old)) → (seats : List (View C)) (i : ℕ) (v : View C) (c : C) → v.live ≡ true → Step c old new → Seated Step start x seats → get_elem? seats i ≡ some v
      → (w : View C) × Seated Step start (if same then new else x) (set seats i w) × Exchanged Step start c old v x w
  exchanges x old new true alike unlike seats i v c live s k at =
      let t = turn Step start x new k.passes v.number v c live (subst (λ (z : S). Step c z new) (sym (alike refl)) s) k.keeps (k.sit.there i v at live) in (
        t.0,
        record { passes = set k.passes v.number t.0; keeps = t.1; sit = sit_set k.passes seats i v t.0 k.sit at live (number_is t.0 (after v t.2.0 (c ∷ [])) t.2.6) },
        ((λ e. t.2), (λ n. absurd (n (alike refl)))),
      )
  exchanges x old new false alike unlike seats i v c live s k at = (
    v,
    record { passes = k.passes; keeps = k.keeps; sit = sit_same k.passes seats i v k.sit at },
    ((λ e. absurd (unlike refl e)), (λ n. refl)),
  )

  -- the same, for a call and a state that are given otherwise
  pub exchanges_as : (x old new : S) (same : Bool) → (same ≡ true → x ≡ old) → (same ≡ false → ¬ (x ≡ old)) → (seats : List (View C)) (i : ℕ) (v : View C) (c d : C) (expected : S) → d ≡ c → expected ≡ old → v.live ≡ true → Step c old new → Seated Step start x seats → get_elem? seats i ≡ some v
      → (w : View C) × Seated Step start (if same then new else x) (set seats i w) × Exchanged Step start d expected v x w
  exchanges_as x old new same alike unlike seats i v c d expected p q live s k at =
      subst (λ (u : C × S). (w : View C) × Seated Step start (if same then new else x) (set seats i w) × Exchanged Step start u.0 u.1 v x w)
      (λ t. (sym p t, sym q t)) (exchanges x old new same alike unlike seats i v c live s k at)

  -- a call that leaves the state as it is, where the state is still, or nothing
  pub looks : (x : S) (still : Bool) (seats : List (View C)) (i : ℕ) (v : View C) (c : C) → v.live ≡ true → (still ≡ true → Step c x x) → Seated Step start x seats → get_elem? seats i ≡ some v
      → (w : View C) × Seated Step start x (set seats i w) × Looked Step start c still v w
  looks x true seats i v c live s k at =
      let t = turn Step start x x k.passes v.number v c live (s refl) k.keeps (k.sit.there i v at live) in (
        t.0,
        record { passes = set k.passes v.number t.0; keeps = t.1; sit = sit_set k.passes seats i v t.0 k.sit at live (number_is t.0 (after v t.2.0 (c ∷ [])) t.2.6) },
        ((λ e. t.2), (λ e. absurd (true≢false e))),
      )
  looks x false seats i v c live s k at = (
    v,
    record { passes = k.passes; keeps = k.keeps; sit = sit_same k.passes seats i v k.sit at },
    ((λ e. absurd (true≢false (sym e))), (λ e. refl)),
  )

  pub peeks : (x : S) (seats : List (View C)) (i : ℕ) (v : View C) → Seated Step start x seats → get_elem? seats i ≡ some v → (w : View C) × Seated Step start x (set seats i w) × (w ≡ v)
  peeks x seats i v k at = (v, record { passes = k.passes; keeps = k.keeps; sit = sit_same k.passes seats i v k.sit at }, refl)

  pub tells_seated : (x : S) (seats : List (View C)) (i : ℕ) (v : View C) → v.live ≡ true → Seated Step start x seats → get_elem? seats i ≡ some v → (w : View C) × Seated Step start x (set seats i w) × ((w ≡ v) × Told Step start v x)
  tells_seated x seats i v live k at = (v, record { passes = k.passes; keeps = k.keeps; sit = sit_same k.passes seats i v k.sit at }, (refl, tells Step start x k.passes v.number v live k.keeps (k.sit.there i v at live)))

  pub forks_seated : (x : S) (seats : List (View C)) (i : ℕ) (v : View C) → v.live ≡ true → v.number ≡ 0 → Seated Step start x seats → get_elem? seats i ≡ some v → Seated Step start x (set seats i (lender v) ++ child v ∷ [])
  forks_seated x seats i v live root k at = record {
    passes = set k.passes v.number (lender v) ++ child v ∷ [];
    keeps = forks Step start x k.passes v.number v live root k.keeps (k.sit.there i v at live);
    sit = sit_new (set k.passes v.number (lender v)) (set seats i (lender v)) (child v) (sit_set k.passes seats i v (lender v) k.sit at live refl)
        ((k.keeps.legal.root v (subst (λ n. get_elem? k.passes n ≡ some v) root (k.sit.there i v at live))).made_is ∙ sym (length-set k.passes v.number (lender v)));
  }

  pub moves : (x : S) (seats : List (View C)) (i : ℕ) (v : View C) → v.live ≡ true → Seated Step start x seats → get_elem? seats i ≡ some v → Seated Step start x (set seats i nobody ++ v ∷ [])
  moves x seats i v live k at = record { passes = k.passes; keeps = k.keeps; sit = sit_moved k.passes seats i v k.sit at live }

  pub merges_seated : (x : S) (seats : List (View C)) (i : ℕ) (v : View C) (j : ℕ) (w : View C) → v.live ≡ true → v.number ≡ 0 → w.live ≡ true → Seated Step start x seats → get_elem? seats i ≡ some v → ¬ (j ≡ i)
      → get_elem? (set seats i (taker v w)) j ≡ some w → Seated Step start x (set (set seats i (taker v w)) j nobody)
  merges_seated x seats i v j w live root alive k at apart there =
      let here : get_elem? seats j ≡ some w = sym (set_else seats i j (taker v w) apart) ∙ there in
      let differs : ¬ (w.number ≡ v.number) = λ e. apart (k.sit.once j i w v here at alive live e) in
      let s = sit_set k.passes seats i v (taker v w) k.sit at live refl in
      record {
        passes = set (set k.passes v.number (taker v w)) w.number nobody;
        keeps = merges Step start x k.passes v.number v w.number w live root alive k.keeps (k.sit.there i v at live) differs (set_else k.passes v.number w.number (taker v w) differs ∙ k.sit.there j w here alive);
        sit = sit_gone (set k.passes v.number (taker v w)) (set seats i (taker v w)) j w s there alive;
      }
