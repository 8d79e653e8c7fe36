-- Laws of places.
use Rattle.std.proofs.Common.{◌≡◌, ℕ, ◌+◌, ◌<◌, ◌≤◌, ◌==◌, ◌⊎◌, Bool, true, false, List, [], ◌∷◌, refl, sym, ap, ◌∙◌, inl, inr, ⊎_elim, arith, eq-eqb, true≢false, ◌++◌, length, add-zero, zero-add, subst}
use Rattle.std.proofs.lemmas.Bool.{eqb-true}
use Rattle.std.proofs.lemmas.List.{append-nil}
use mathlib.Core.List.{IsPrefix}
use Rattle.legal_history.specs.declared.history.Entry.{Entry}
use Rattle.legal_history.specs.declared.history.Held.{Held}
use Rattle.legal_history.specs.declared.history.View.{View}
use Rattle.legal_history.specs.History.{In, Joined, Among, after, held, said, taker, calls_by, numbers, Settled, Sees}
use Rattle.legal_history.specs.Places.{or_if, has, place_if, places_from, places, run_of, Ascend}
use Rattle.legal_history.proofs.Prefixes.{prefix_length, prefix_trans}
use Rattle.legal_history.proofs.Lists.{none_added, between}
use Rattle.legal_history.proofs.Steps.{joined_held}
use Rattle.legal_history.proofs.Orders.{keep_none, not_kept}

or_here : (a b : Bool) → a ≡ true → or_if a b ≡ true
or_here true b e = refl
or_here false b e = absurd (true≢false (sym e))

or_cases : (a b : Bool) → or_if a b ≡ true → (a ≡ true) ⊎ (b ≡ true)
or_cases true b e = inl refl
or_cases false b e = inr e

has_in : (t : ℕ) (ns : List ℕ) → has t ns ≡ true → In t ns
has_in t [] e = absurd (true≢false (sym e))
has_in t (n ∷ ns) e = ⊎_elim (λ (h : (n == t) ≡ true). inl (sym (eqb-true n t h))) (λ (h : has t ns ≡ true). inr (has_in t ns h)) (or_cases (n == t) (has t ns) e)

or_there : (a b : Bool) → b ≡ true → or_if a b ≡ true
or_there true b e = refl
or_there false b e = e

pub in_has : (t : ℕ) (ns : List ℕ) → In t ns → has t ns ≡ true
in_has t [] q = absurd q
in_has t (n ∷ ns) q = ⊎_elim (λ (e : t ≡ n). or_here (n == t) (has t ns) (eq-eqb n t (sym e))) (λ (r : In t ns). or_there (n == t) (has t ns) (in_has t ns r)) q

ascend_if : (b : Bool) (k n m : ℕ) (ps : List ℕ) → m ≡ n → k < m → Ascend (k + 1) n ps → Ascend k m (place_if b k ps)
ascend_if true k n m ps e l h = (omega arith, l, subst (λ x. Ascend (k + 1) x ps) (sym e) h)
ascend_if false k n m [] e l h = tt
ascend_if false k n m (p ∷ ps) e l h = (let q = h.0 in omega arith, let q = h.1 in omega arith, subst (λ x. Ascend (p + 1) x ps) (sym e) h.2)

module _ {C : Type 0} where
  -- where each call is one of these passes', all places are theirs
  all_from : (ns : List ℕ) (k : ℕ) (es : List (Entry C)) → ((t : ℕ) → (calls_by t es ≡ []) ⊎ In t ns) → places_from ns k es ≡ run_of k es
  all_from ns k [] cover = refl
  all_from ns k (e ∷ es) cover =
      let mine : has e.by ns ≡ true = ⊎_elim (λ (none : calls_by e.by (e ∷ es) ≡ []). absurd (not_kept (e.by == e.by) e.call (calls_by e.by es) (eq-eqb e.by e.by refl) none)) (λ (q : In e.by ns). in_has e.by ns q) (cover e.by) in
      ap (λ b. place_if b k (places_from ns (k + 1) es)) mine
      ∙ ap (λ l. k ∷ l) (all_from ns (k + 1) es (λ t. ⊎_elim (λ (none : calls_by t (e ∷ es) ≡ []). inl (keep_none (e.by == t) e.call (calls_by t es) none)) (λ (q : In t ns). inr q) (cover t)))

  -- a root with no pass out has every place
  pub all_places : (v : View C) → v.number ≡ 0 → Settled v → places v ≡ run_of 0 v.seen
  all_places v root s = all_from (v.number ∷ numbers v.joined) 0 v.seen
      (λ t. ⊎_elim (λ (none : calls_by t v.seen ≡ []). inl none) (λ (o : (t ≡ 0) ⊎ In t (numbers v.joined)). inr (⊎_elim (λ (z : t ≡ 0). inl (z ∙ sym root)) (λ (q : In t (numbers v.joined)). inr q) o)) (s.cover t))

  -- passes with other numbers have other places
  pub same_place : (ns ms : List ℕ) (k p : ℕ) (es : List (Entry C)) → ((t : ℕ) → has t ns ≡ true → has t ms ≡ true → ⊥) → In p (places_from ns k es) → In p (places_from ms k es) → ⊥
  same_place ns ms k p [] apart a b = a
  same_place ns ms k p (e ∷ es) apart a b = go (has e.by ns) (has e.by ms) refl refl a b (same_place ns ms (k + 1) p es apart) (past ns (k + 1) es) (past ms (k + 1) es)
    where
      past : (xs : List ℕ) (j : ℕ) (fs : List (Entry C)) (q : ℕ) → In q (places_from xs j fs) → j ≤ q
      past xs j [] q i = absurd i
      past xs j (f ∷ fs) q i = step (has f.by xs) (past xs (j + 1) fs) i
        where
          step : (b : Bool) → ((r : ℕ) → In r (places_from xs (j + 1) fs) → j + 1 ≤ r) → In q (place_if b j (places_from xs (j + 1) fs)) → j ≤ q
          step true rest i = ⊎_elim (λ (e : q ≡ j). omega arith) (λ (r : In q (places_from xs (j + 1) fs)). let h = rest q r in omega arith) i
          step false rest i = let h = rest q i in omega arith

      go : (x y : Bool) → has e.by ns ≡ x → has e.by ms ≡ y → In p (place_if x k (places_from ns (k + 1) es)) → In p (place_if y k (places_from ms (k + 1) es))
          → (In p (places_from ns (k + 1) es) → In p (places_from ms (k + 1) es) → ⊥) → ((q : ℕ) → In q (places_from ns (k + 1) es) → k + 1 ≤ q) → ((q : ℕ) → In q (places_from ms (k + 1) es) → k + 1 ≤ q) → ⊥
      go true true f g i j rest l m = apart e.by f g
      go true false f g i j rest l m = ⊎_elim (λ (z : p ≡ k). let h = m p j in absurd (omega arith)) (λ (r : In p (places_from ns (k + 1) es)). rest r j) i
      go false true f g i j rest l m = ⊎_elim (λ (z : p ≡ k). let h = l p i in absurd (omega arith)) (λ (r : In p (places_from ms (k + 1) es)). rest i r) j
      go false false f g i j rest l m = rest i j

  -- a place among a longer history's entries
  places-append : (ns : List ℕ) (k : ℕ) (xs ys : List (Entry C)) → places_from ns k (xs ++ ys) ≡ places_from ns k xs ++ places_from ns (k + length xs) ys
  places-append ns k [] ys = ap (λ n. places_from ns n ys) (sym (add-zero k))
  places-append ns k (x ∷ xs) ys =
      let e : k + 1 + length xs ≡ k + length (x ∷ xs) = omega arith in
      ap (place_if (has x.by ns) k) (places-append ns (k + 1) xs ys ∙ ap (λ n. places_from ns (k + 1) xs ++ places_from ns n ys) e)
      ∙ place-append (has x.by ns) k (places_from ns (k + 1) xs) (places_from ns (k + length (x ∷ xs)) ys)
    where
      place-append : (b : Bool) (k : ℕ) (ps qs : List ℕ) → place_if b k (ps ++ qs) ≡ place_if b k ps ++ qs
      place-append true k ps qs = refl
      place-append false k ps qs = refl

  -- passes with no call in a history have no place there
  no_places : (ns : List ℕ) (k : ℕ) (es : List (Entry C)) → ((t : ℕ) → In t ns → calls_by t es ≡ []) → places_from ns k es ≡ []
  no_places ns k [] none = refl
  no_places ns k (e ∷ es) none = go (has e.by ns) refl (no_places ns (k + 1) es (λ t i. keep_none (e.by == t) e.call (calls_by t es) (none t i)))
    where
      go : (b : Bool) → has e.by ns ≡ b → places_from ns (k + 1) es ≡ [] → place_if b k (places_from ns (k + 1) es) ≡ []
      go true q rest = absurd (not_kept (e.by == e.by) e.call (calls_by e.by es) (eq-eqb e.by e.by refl) (none e.by (has_in e.by ns q)))
      go false q rest = rest

  -- what a history adds to a beginning of it has no place of these passes
  same_places : (ns : List ℕ) (xs zs : List (Entry C)) → IsPrefix xs zs → ((t : ℕ) → In t ns → calls_by t zs ≡ calls_by t xs) → places_from ns 0 zs ≡ places_from ns 0 xs
  same_places ns xs zs p same =
      ap (places_from ns 0) (sym p.1)
      ∙ (places-append ns 0 xs p.0
      ∙ (ap (λ l. places_from ns 0 xs ++ l) (no_places ns (0 + length xs) p.0 (λ t i. none_added t xs p.0 (ap (calls_by t) p.1 ∙ same t i)))
      ∙ append-nil (places_from ns 0 xs)))

  -- the passes whose calls a view knows have in a longer history the calls that they had in what it has seen
  known_calls : (v : View C) (log : List (Entry C)) → Sees v log → (t : ℕ) → In t (v.number ∷ numbers v.joined) → calls_by t log ≡ calls_by t v.seen
  known_calls v log s t i = ⊎_elim
      (λ (e : t ≡ v.number). ap (λ n. calls_by n log) e ∙ (s.own ∙ (sym s.own_seen ∙ ap (λ n. calls_by n v.seen) (sym e))))
      (λ (q : Joined t v.joined).
      let h = joined_held t v.joined q in
      let r = s.returned h.0 h.1 in
      let now = between h.0.by h.0.seen v.seen log h.0.calls r.begins s.begins r.told (s.back h.0 h.1) in
      ap (λ n. calls_by n log) h.2 ∙ (s.back h.0 h.1 ∙ (sym now ∙ ap (λ n. calls_by n v.seen) (sym h.2))))
      i

  -- a call has one new place, the last one, behind all that the pass had seen
  pub call_is_last : (v : View C) (log : List (Entry C)) (c : C) → Sees v log → (places (after v log (c ∷ [])) ≡ places v ++ length log ∷ []) × (length v.seen ≤ length log)
  call_is_last v log c s =
      let ns = v.number ∷ numbers v.joined in
      let mine : has v.number ns ≡ true = in_has v.number ns (inl refl) in (
        places-append ns 0 log (said v.number (c ∷ []))
            ∙ (ap (λ l. l ++ places_from ns (0 + length log) (said v.number (c ∷ []))) (same_places ns v.seen log s.begins (known_calls v log s))
            ∙ ap (λ l. places_from ns 0 v.seen ++ l) (ap (λ b. place_if b (0 + length log) []) mine ∙ ap (λ n. n ∷ []) (zero-add (length log)))),
        prefix_length v.seen log s.begins,
      )

  -- a pass given back keeps its places
  pub given_back : (v : View C) (log : List (Entry C)) (h : Held C) → Sees v log → Among h v.joined → places_from (h.by ∷ []) 0 log ≡ places_from (h.by ∷ []) 0 h.seen
  given_back v log h s a =
      let r = s.returned h a in
      same_places (h.by ∷ []) h.seen log (prefix_trans h.seen v.seen log r.begins s.begins)
      (λ t i. ⊎_elim (λ (e : t ≡ h.by). ap (λ n. calls_by n log) e ∙ (s.back h a ∙ (sym r.told ∙ ap (λ n. calls_by n h.seen) (sym e)))) (λ (z : ⊥). absurd z) i)

  among_last : (hs : List (Held C)) (h : Held C) → Among h (hs ++ h ∷ [])
  among_last [] h = inl refl
  among_last (x ∷ hs) h = inr (among_last hs h)

  -- what a pass had seen that was taken back
  pub came_back : (v w : View C) (log : List (Entry C)) → Sees (taker v w) log → IsPrefix w.seen (taker v w).seen
  came_back v w log s = (s.returned (held w.number w.mine w.seen) (among_last v.joined (held w.number w.mine w.seen))).begins

  pub ascend : (ns : List ℕ) (k : ℕ) (es : List (Entry C)) → Ascend k (k + length es) (places_from ns k es)
  ascend ns k [] = tt
  ascend ns k (e ∷ es) = ascend_if (has e.by ns) k (k + 1 + length es) (k + length (e ∷ es)) (places_from ns (k + 1) es) (omega arith) (omega arith) (ascend ns (k + 1) es)
