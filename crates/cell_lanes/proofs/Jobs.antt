-- What a round adds to the history of one thing.
use Rattle.std.proofs.Common.{◌≡◌, ◌≢◌, ℕ, zero, suc, ◌+◌, ◌<◌, ◌≤◌, ◌==◌, ◌⊎◌, Bool, true, false, List, [], ◌∷◌, ◌++◌, length, take, refl, sym, ap, ◌∙◌, subst, inl, inr, ⊎_elim, arith, eq-eqb, ne_eqb, length-append, lt_of_not-le}
use Rattle.std.specs.Prelude.{Option, Some, None, IfSome, slice_index}
use mathlib.Core.Option.{some, some-ne-none, some-injective}
use mathlib.Core.Logic.{dite}
use mathlib.Core.List.{IsPrefix}
use native.Mathlib.Decide.{ℕ_discrete, dec_le}
use lib.ListN.{get_elem?}
use Rattle.std.proofs.lemmas.Bool.{eqb-true}
use Rattle.std.proofs.lemmas.List.{append-nil}
use Rattle.legal_history.specs.declared.history.Held.{Held}
use Rattle.legal_history.specs.declared.history.View.{View}
use Rattle.legal_history.specs.History.{In, Distinct, calls, held, keep, Settled}
use Rattle.legal_history.specs.Order.{flag, times}
use Rattle.legal_history.specs.News.{helds, lanes, lane_calls}
use Rattle.legal_history.proofs.Steps.{some_below, one_at}
use Rattle.legal_history.proofs.Rounds.{Mem, calls_is, find_lane, grew}
use Rattle.cell_lanes.specs.declared.lane.Line.{Line}
use Rattle.cell_lanes.specs.Lines.{LaneText}
use Rattle.cell_lanes.specs.declared.lane.Slot.{Slot}
use Rattle.cell_lanes.specs.declared.lane.Job.{Job}
use Rattle.cell_lanes.specs.Calls.{StandAs}
use Rattle.cell_lanes.specs.Lanes.{Each, SettledAt, AtRest, Home, Same, Grew, AllDone, AllFit, Named, LineFit, Lends, Takes, cells_of, is_through, is_on, slot_calls, cell_calls, calls_on, all_calls_on, slot_news, given, lent_on, all_given, done_of, JobsRan}
use Rattle.cell_lanes.proofs.Lists.{at_or, or_at, below_some, take_whole}
use Rattle.cell_lanes.proofs.Resting.{settled_as}
use Rattle.cell_lanes.proofs.Running.{take_none}

pub in_at : (xs : List ℕ) (i j : ℕ) → get_elem? xs i ≡ some j → In j xs
in_at [] i j e = absurd (some-ne-none j (sym e))
in_at (x ∷ xs) zero j e = inl (sym (some-injective x j e))
in_at (x ∷ xs) (suc i) j e = inr (in_at xs i j e)

-- a number stands at one place
distinct_at : (xs : List ℕ) (a b j : ℕ) → Distinct xs → get_elem? xs a ≡ some j → get_elem? xs b ≡ some j → a ≡ b
distinct_at [] a b j d e f = absurd (some-ne-none j (sym e))
distinct_at (x ∷ xs) zero zero j d e f = refl
distinct_at (x ∷ xs) zero (suc b) j d e f = absurd (d.0 (subst (λ n. In n xs) (sym (some-injective x j e)) (in_at xs b j f)))
distinct_at (x ∷ xs) (suc a) zero j d e f = absurd (d.0 (subst (λ n. In n xs) (sym (some-injective x j f)) (in_at xs a j e)))
distinct_at (x ∷ xs) (suc a) (suc b) j d e f = ap suc (distinct_at xs a b j d.1 e f)

in_take : (t n : ℕ) (xs : List ℕ) → In t (take n xs) → In t xs
in_take t zero [] q = absurd q
in_take t zero (x ∷ xs) q = absurd q
in_take t (suc n) [] q = absurd q
in_take t (suc n) (x ∷ xs) q = ⊎_elim (λ (e : t ≡ x). inl e) (λ (r : In t (take n xs)). inr (in_take t n xs r)) q

distinct_take : (n : ℕ) (xs : List ℕ) → Distinct xs → Distinct (take n xs)
distinct_take zero [] d = tt
distinct_take zero (x ∷ xs) d = tt
distinct_take (suc n) [] d = tt
distinct_take (suc n) (x ∷ xs) d = ((λ q. d.0 (in_take x n xs q)), distinct_take n xs d.1)

take_at : {A : Type 0} (n : ℕ) (xs : List A) (k : ℕ) (x : A) → get_elem? (take n xs) k ≡ some x → get_elem? xs k ≡ some x
take_at zero [] k x e = e
take_at zero (y ∷ ys) k x e = absurd (some-ne-none x (sym e))
take_at (suc n) [] k x e = e
take_at (suc n) (y ∷ ys) zero x e = e
take_at (suc n) (y ∷ ys) (suc k) x e = take_at n ys k x e

find_at : (xs : List ℕ) (j : ℕ) → ((s : ℕ) × (get_elem? xs s ≡ some j)) ⊎ ((s : ℕ) → get_elem? xs s ≡ some j → ⊥)
find_at [] j = inr (λ s e. absurd (some-ne-none j (sym e)))
find_at (x ∷ xs) j = dite (ℕ_discrete x j)
    (λ (e : x ≡ j). inl (0, ap some e))
    (λ (ne : ¬ (x ≡ j)). ⊎_elim (λ (h : (s : ℕ) × (get_elem? xs s ≡ some j)). inl (suc h.0, h.1)) (λ (far : (s : ℕ) → get_elem? xs s ≡ some j → ⊥). inr (past ne far)) (find_at xs j))
  where
    past : ¬ (x ≡ j) → ((s : ℕ) → get_elem? xs s ≡ some j → ⊥) → (s : ℕ) → get_elem? (x ∷ xs) s ≡ some j → ⊥
    past ne far zero e = ne (some-injective x j e)
    past ne far (suc s) e = far s e

distinct_two : (xs ys : List ℕ) → Distinct xs → Distinct ys → ((t : ℕ) → In t xs → In t ys → ⊥) → Distinct (xs ++ ys)
distinct_two [] ys d e far = e
distinct_two (x ∷ xs) ys d e far =
    ((λ q. ⊎_elim (λ (a : In x xs). d.0 a) (λ (b : In x ys). far x (inl refl) b) (parts x xs ys q)), distinct_two xs ys d.1 e (λ t a b. far t (inr a) b))
  where
    parts : (t : ℕ) (xs ys : List ℕ) → In t (xs ++ ys) → In t xs ⊎ In t ys
    parts t [] ys q = inr q
    parts t (x ∷ xs) ys q = ⊎_elim (λ (e : t ≡ x). inl (inl e)) (λ (r : In t (xs ++ ys)). ⊎_elim (λ (a : In t xs). inl (inr a)) (λ (b : In t ys). inr b) (parts t xs ys r)) q

times_absent : (j : ℕ) (xs : List ℕ) → (In j xs → ⊥) → times j xs ≡ 0
times_absent j [] far = refl
times_absent j (x ∷ xs) far = let z : flag (x == j) ≡ 0 = ap flag (ne_eqb x j (λ e. far (inl (sym e)))) in let r = times_absent j xs (λ q. far (inr q)) in omega arith

times_distinct : (j : ℕ) (xs : List ℕ) → Distinct xs → times j xs ≤ 1
times_distinct j [] d = omega arith
times_distinct j (x ∷ xs) d = dite (ℕ_discrete x j)
    (λ (e : x ≡ j). let one : flag (x == j) ≡ 1 = ap flag (eq-eqb x j e) in let r = times_absent j xs (subst (λ n. In n xs → ⊥) e d.0) in omega arith)
    (λ (ne : ¬ (x ≡ j)). let z : flag (x == j) ≡ 0 = ap flag (ne_eqb x j ne) in let r = times_distinct j xs d.1 in omega arith)

module _ {A : Type 0} where
  mem_parts : (x : A) (xs ys : List A) → Mem x (xs ++ ys) → Mem x xs ⊎ Mem x ys
  mem_parts x [] ys m = inr m
  mem_parts x (z ∷ zs) ys m = ⊎_elim (λ (e : x ≡ z). inl (inl e)) (λ (r : Mem x (zs ++ ys)). ⊎_elim (λ (a : Mem x zs). inl (inr a)) (λ (b : Mem x ys). inr b) (mem_parts x zs ys r)) m

  mem_first : (x : A) (xs ys : List A) → Mem x xs → Mem x (xs ++ ys)
  mem_first x [] ys m = absurd m
  mem_first x (z ∷ zs) ys m = ⊎_elim (λ (e : x ≡ z). inl e) (λ (r : Mem x zs). inr (mem_first x zs ys r)) m

  mem_second : (x : A) (xs ys : List A) → Mem x ys → Mem x (xs ++ ys)
  mem_second x [] ys m = m
  mem_second x (z ∷ zs) ys m = inr (mem_second x zs ys m)

module _ {K : Type 0} where
  -- the calls through the slot of a cell are those on the cell
  slot_is_cell : (cs : List ℕ) (lines : List (Line K)) (s j : ℕ) → Distinct cs → get_elem? cs s ≡ some j → LineFit (length cs) lines → slot_calls s lines ≡ cell_calls j cs lines
  slot_is_cell cs [] s j d at fit = refl
  slot_is_cell cs (x ∷ xs) s j d at fit =
      ap (λ b. keep b x.call (slot_calls s xs)) (same x.slot (fit 0 x refl)) ∙ ap (keep (is_on j cs x.slot) x.call) (slot_is_cell cs xs s j d at (λ k y e. fit (suc k) y e))
    where
      same : (slot : Option ℕ) → IfSome slot (λ t. t < length cs) → is_through s slot ≡ is_on j cs slot
      same None h = refl
      same (Some t) h = dite (ℕ_discrete t s)
          (λ (q : t ≡ s). eq-eqb t s q ∙ sym (eq-eqb (slice_index cs t) j (or_at cs t 0 j (subst (λ n. get_elem? cs n ≡ some j) (sym q) at))))
          (λ (ne : ¬ (t ≡ s)). ne_eqb t s ne ∙ sym (ne_eqb (slice_index cs t) j (λ q. ne (distinct_at cs t s j d (at_or cs t 0 h ∙ ap some q) at))))

  -- a cell with no slot has no calls
  no_slot : (cs : List ℕ) (lines : List (Line K)) (j : ℕ) → ((s : ℕ) → get_elem? cs s ≡ some j → ⊥) → LineFit (length cs) lines → cell_calls j cs lines ≡ []
  no_slot cs [] j far fit = refl
  no_slot cs (x ∷ xs) j far fit =
      ap (λ b. keep b x.call (cell_calls j cs xs)) (none x.slot (fit 0 x refl)) ∙ no_slot cs xs j far (λ k y e. fit (suc k) y e)
    where
      none : (slot : Option ℕ) → IfSome slot (λ t. t < length cs) → is_on j cs slot ≡ false
      none None h = refl
      none (Some t) h = ne_eqb (slice_index cs t) j (λ q. far t (at_or cs t 0 h ∙ ap some q))

  calls_at : (j : ℕ) (ls : List (LaneText K)) (done : ℕ → ℕ) (l : ℕ) (a : LaneText K) → get_elem? ls l ≡ some a → calls_on j ls done l ≡ cell_calls j a.cells (take (done l) a.lines)
  calls_at j [] done l a e = absurd (some-ne-none a (sym e))
  calls_at j (x ∷ xs) done zero a e = ap (λ (y : LaneText K). cell_calls j y.cells (take (done 0) y.lines)) (some-injective x a e)
  calls_at j (x ∷ xs) done (suc l) a e = calls_at j xs (λ k. done (suc k)) l a e

  calls_none : (j : ℕ) (ls : List (LaneText K)) (done : ℕ → ℕ) (l : ℕ) → done l ≡ 0 → calls_on j ls done l ≡ []
  calls_none j [] done l z = refl
  calls_none j (x ∷ xs) done zero z = ap (λ n. cell_calls j x.cells (take n x.lines)) z ∙ ap (cell_calls j x.cells) (take_none x.lines)
  calls_none j (x ∷ xs) done (suc l) z = calls_none j xs (λ k. done (suc k)) l z

-- lanes that have made all their calls
pub all_calls : {K : Type 0} (j : ℕ) (ls : List (LaneText K)) (done : ℕ → ℕ) (l : ℕ) → AllDone ls done → calls_on j ls done l ≡ all_calls_on j ls l
all_calls j [] done l all = refl
all_calls j (x ∷ xs) done zero all = ap (cell_calls j x.cells) (take_whole x.lines (done 0) (let e = all 0 x refl in omega arith))
all_calls j (x ∷ xs) done (suc l) all = all_calls j xs (λ k. done (suc k)) l (λ k y e. all (suc k) y e)

-- no lane has made a call
pub grew_none : {S K M : Type 0} (root : S → View M) (stands : K → List M → Type 0) (ls : List (LaneText K)) (j : ℕ) (c : S) → Grew root stands ls (λ _. 0) j c c
grew_none root stands ls j c = ((λ l. []), (λ l. subst (λ ks. StandAs stands ks []) (sym (calls_none j ls (λ _. 0) l refl)) refl), ([], (λ l. refl), sym (append-nil (calls (root c).seen))))

module _ {L : Type 0} where
  pub done_at : (jobs : List (Job L)) (l : ℕ) (x : Job L) → get_elem? jobs l ≡ some x → done_of jobs l ≡ x.done
  done_at [] l x e = absurd (some-ne-none x (sym e))
  done_at (y ∷ ys) zero x e = ap (λ (z : Job L). z.done) (some-injective y x e)
  done_at (y ∷ ys) (suc l) x e = done_at ys l x e

  done_past : (jobs : List (Job L)) (l : ℕ) → length jobs ≤ l → done_of jobs l ≡ 0
  done_past [] l h = refl
  done_past (y ∷ ys) zero h = absurd (omega arith)
  done_past (y ∷ ys) (suc l) h = done_past ys l (omega arith)

  -- lanes of which none has made a call
  pub done_none : (jobs : List (Job L)) → ((l : ℕ) (x : Job L) → get_elem? jobs l ≡ some x → x.done ≡ 0) → (l : ℕ) → done_of jobs l ≡ 0
  done_none [] none l = refl
  done_none (y ∷ ys) none zero = none 0 y refl
  done_none (y ∷ ys) none (suc l) = done_none ys (λ k. none (suc k)) l

  cell_at : (xs : List (Slot L)) (s j : ℕ) → get_elem? (cells_of xs) s ≡ some j → (y : Slot L) × (get_elem? xs s ≡ some y) × (y.cell ≡ j)
  cell_at [] s j e = absurd (some-ne-none j (sym e))
  cell_at (x ∷ xs) zero j e = (x, refl, some-injective x.cell j e)
  cell_at (x ∷ xs) (suc s) j e = cell_at xs s j e

  at_cell : (xs : List (Slot L)) (s : ℕ) (y : Slot L) → get_elem? xs s ≡ some y → get_elem? (cells_of xs) s ≡ some y.cell
  at_cell [] s y e = absurd (some-ne-none y (sym e))
  at_cell (x ∷ xs) zero y e = ap (λ (z : Slot L). some z.cell) (some-injective x y e)
  at_cell (x ∷ xs) (suc s) y e = at_cell xs s y e

module _ {M : Type 0} where
  news_if : (b : Bool) (l : ℕ) (h : Held M) (x : ℕ × Held M) → Mem x (keep b (l, h) []) → (b ≡ true) × (x ≡ (l, h))
  news_if true l h x m = ⊎_elim (λ (e : x ≡ (l, h)). (refl, e)) (λ (f : ⊥). absurd f) m
  news_if false l h x m = absurd m

  news_count : (b : Bool) (x : ℕ × Held M) → length (keep b x []) ≡ flag b
  news_count true x = refl
  news_count false x = refl

  lanes-append : (xs ys : List (ℕ × Held M)) → lanes (xs ++ ys) ≡ lanes xs ++ lanes ys
  lanes-append [] ys = refl
  lanes-append (x ∷ xs) ys = ap (λ l. x.0 ∷ l) (lanes-append xs ys)

  in_lanes : (news : List (ℕ × Held M)) (t : ℕ) → In t (lanes news) → (x : ℕ × Held M) × Mem x news × (t ≡ x.0)
  in_lanes [] t q = absurd q
  in_lanes (y ∷ ys) t q = ⊎_elim (λ (e : t ≡ y.0). (y, inl refl, e)) (λ (r : In t (lanes ys)). let h = in_lanes ys t r in (h.0, inr h.1, h.2)) q

  few_distinct : (news : List (ℕ × Held M)) → length news ≤ 1 → Distinct (lanes news)
  few_distinct [] h = tt
  few_distinct (x ∷ []) h = ((λ q. q), tt)
  few_distinct (x ∷ y ∷ ys) h = absurd (omega arith)

module _ {L M : Type 0} (knows : L → View M) where
  abbrev came : ℕ → Slot L → ℕ × Held M
  came l y = (l, held (knows y.lent).number (knows y.lent).mine (knows y.lent).seen)

  -- whose pass it was
  abbrev Slotted : ℕ → ℕ → List (Slot L) → ℕ × Held M → Type 0
  Slotted j l xs x = (s : ℕ) × (y : Slot L) × (get_elem? xs s ≡ some y) × (y.cell ≡ j) × (x ≡ came l y)

  given_from : (j l : ℕ) (xs : List (Slot L)) (x : ℕ × Held M) → Mem x (given knows j l xs) → Slotted j l xs x
  given_from j l [] x m = absurd m
  given_from j l (y ∷ ys) x m = ⊎_elim
      (λ (r : Mem x (given knows j l ys)). let g = given_from j l ys x r in (suc g.0, g.1, g.2, g.3, g.4))
      (λ (r : Mem x (slot_news knows j l y)). let g = news_if (y.cell == j) l (held (knows y.lent).number (knows y.lent).mine (knows y.lent).seen) x r in (0, y, refl, eqb-true y.cell j g.0, g.1))
      (mem_parts x (given knows j l ys) (slot_news knows j l y) m)

  given_has : (j l : ℕ) (xs : List (Slot L)) (s : ℕ) (y : Slot L) → get_elem? xs s ≡ some y → y.cell ≡ j → Mem (came l y) (given knows j l xs)
  given_has j l [] s y e q = absurd (some-ne-none y (sym e))
  given_has j l (x ∷ xs) zero y e q = mem_second (came l y) (given knows j l xs) (slot_news knows j l x)
      (subst (λ (z : Slot L). Mem (came l y) (slot_news knows j l z)) (sym (some-injective x y e))
      (subst (λ b. Mem (came l y) (keep b (came l y) [])) (sym (eq-eqb y.cell j q)) (inl refl)))
  given_has j l (x ∷ xs) (suc s) y e q = mem_first (came l y) (given knows j l xs) (slot_news knows j l x) (given_has j l xs s y e q)

  abbrev FromJob : ℕ → ℕ → List (Job L) → ℕ × Held M → Type 0
  FromJob j k xs x = (i : ℕ) × (job : Job L) × (get_elem? xs i ≡ some job) × Slotted j (k + i) job.slots.items x

  all_from : (j k : ℕ) (xs : List (Job L)) (x : ℕ × Held M) → Mem x (all_given knows j k xs) → FromJob j k xs x
  all_from j k [] x m = absurd m
  all_from j k (y ∷ ys) x m = ⊎_elim
      (λ (r : Mem x (all_given knows j (k + 1) ys)). let g = all_from j (k + 1) ys x r in (suc g.0, g.1, g.2, subst (λ n. Slotted j n g.1.slots.items x) (omega arith) g.3))
      (λ (r : Mem x (given knows j k y.slots.items)). (0, y, refl, subst (λ n. Slotted j n y.slots.items x) (omega arith) (given_from j k y.slots.items x r)))
      (mem_parts x (all_given knows j (k + 1) ys) (given knows j k y.slots.items) m)

  all_has : (j k : ℕ) (xs : List (Job L)) (i : ℕ) (job : Job L) (s : ℕ) (y : Slot L) → get_elem? xs i ≡ some job → get_elem? job.slots.items s ≡ some y → y.cell ≡ j → Mem (came (k + i) y) (all_given knows j k xs)
  all_has j k [] i job s y e f q = absurd (some-ne-none job (sym e))
  all_has j k (x ∷ xs) zero job s y e f q =
      mem_second (came (k + 0) y) (all_given knows j (k + 1) xs) (given knows j k x.slots.items)
      (subst (λ n. Mem (came n y) (given knows j k x.slots.items)) (omega arith) (given_has j k x.slots.items s y (subst (λ (z : Job L). get_elem? z.slots.items s ≡ some y) (sym (some-injective x job e)) f) q))
  all_has j k (x ∷ xs) (suc i) job s y e f q =
      mem_first (came (k + suc i) y) (all_given knows j (k + 1) xs) (given knows j k x.slots.items)
      (subst (λ n. Mem (came n y) (all_given knows j (k + 1) xs)) (omega arith) (all_has j (k + 1) xs i job s y e f q))

  -- as many come back as are out
  given_count : (j l : ℕ) (xs : List (Slot L)) → length (given knows j l xs) ≡ times j (cells_of xs)
  given_count j l [] = refl
  given_count j l (x ∷ xs) = let h = given_count j l xs in omega (arith, length-append (given knows j l xs) (slot_news knows j l x), news_count (x.cell == j) (came l x))

  pub all_count : (j k : ℕ) (xs : List (Job L)) → length (all_given knows j k xs) ≡ lent_on j xs
  all_count j k [] = refl
  all_count j k (x ∷ xs) = let h = all_count j (k + 1) xs in omega (arith, length-append (all_given knows j (k + 1) xs) (given knows j k x.slots.items), given_count j k x.slots.items)

  all_apart : (j k : ℕ) (xs : List (Job L)) → ((i : ℕ) (job : Job L) → get_elem? xs i ≡ some job → Distinct (cells_of job.slots.items)) → Distinct (lanes (all_given knows j k xs))
  all_apart j k [] once = tt
  all_apart j k (x ∷ xs) once =
      subst Distinct (sym (lanes-append (all_given knows j (k + 1) xs) (given knows j k x.slots.items)))
      (distinct_two (lanes (all_given knows j (k + 1) xs)) (lanes (given knows j k x.slots.items)) (all_apart j (k + 1) xs (λ i. once (suc i)))
      (few_distinct (given knows j k x.slots.items) (let t = times_distinct j (cells_of x.slots.items) (once 0 x refl) in omega (arith, given_count j k x.slots.items)))
      (λ t a b.
      let p = in_lanes (all_given knows j (k + 1) xs) t a in
      let q = in_lanes (given knows j k x.slots.items) t b in
      let f = all_from j (k + 1) xs p.0 p.1 in
      let g = given_from j k x.slots.items q.0 q.1 in
      let one : t ≡ k + 1 + f.0 = p.2 ∙ ap (λ (z : ℕ × Held M). z.0) f.3.4 in
      let two : t ≡ k = q.2 ∙ ap (λ (z : ℕ × Held M). z.0) g.4 in
      absurd (omega arith)))

  module _ {K : Type 0} (stands : K → List M → Type 0) (j count : ℕ) (ls : List (LaneText K)) (jobs : List (Job L)) (fit : AllFit count ls) (few : length jobs ≤ length ls) (ran : JobsRan knows stands ls jobs) where
    once : (l : ℕ) (y : Job L) → get_elem? jobs l ≡ some y → Distinct (cells_of y.slots.items)
    once l y f =
        let b : l < length jobs = some_below jobs l y f in
        let a = below_some ls l (omega arith) in
        subst Distinct (sym (ran l a.0 y a.1 f).some_cells) (distinct_take (length y.slots.items) a.0.cells (fit l a.0 a.1).once)

    apart : Distinct (lanes (all_given knows j 0 jobs))
    apart = all_apart j 0 jobs once

    -- the calls on cell j of a lane that has a pass of it
    through : (a : LaneText K) (y : Job L) (s : ℕ) → get_elem? (cells_of y.slots.items) s ≡ some j → Distinct a.cells → LineFit (length a.cells) a.lines → (y.done ≡ 0) ⊎ (cells_of y.slots.items ≡ a.cells)
        → slot_calls s (take y.done a.lines) ≡ cell_calls j a.cells (take y.done a.lines)
    through a y s at d lines = ⊎_elim
        (λ (z : y.done ≡ 0). let none : take y.done a.lines ≡ [] = ap (λ n. take n a.lines) z ∙ take_none a.lines in ap (slot_calls s) none ∙ sym (ap (cell_calls j a.cells) none))
        (λ (q : cells_of y.slots.items ≡ a.cells). slot_is_cell a.cells (take y.done a.lines) s j d (subst (λ cs. get_elem? cs s ≡ some j) q at) (λ k x e. lines k x (take_at y.done a.lines k x e)))

    -- of a lane that has none
    no_pass : (a : LaneText K) (y : Job L) → ((s : ℕ) → get_elem? (cells_of y.slots.items) s ≡ some j → ⊥) → LineFit (length a.cells) a.lines → (y.done ≡ 0) ⊎ (cells_of y.slots.items ≡ a.cells) → cell_calls j a.cells (take y.done a.lines) ≡ []
    no_pass a y far lines = ⊎_elim
        (λ (z : y.done ≡ 0). ap (cell_calls j a.cells) (ap (λ n. take n a.lines) z ∙ take_none a.lines))
        (λ (q : cells_of y.slots.items ≡ a.cells). no_slot a.cells (take y.done a.lines) j (λ s e. far s (subst (λ cs. get_elem? cs s ≡ some j) (sym q) e)) (λ k x e. lines k x (take_at y.done a.lines k x e)))

    stand_none : (l : ℕ) → calls_on j ls (done_of jobs) l ≡ [] → ((x : ℕ × Held M) → Mem x (all_given knows j 0 jobs) → x.0 ≢ l) → StandAs stands (calls_on j ls (done_of jobs) l) (lane_calls (all_given knows j 0 jobs) l)
    stand_none l none far = subst (λ ks. StandAs stands ks (lane_calls (all_given knows j 0 jobs) l)) (sym none)
        (⊎_elim
        (λ (q : (x : ℕ × Held M) × Mem x (all_given knows j 0 jobs) × (x.0 ≡ l)). absurd (far q.0 q.1 q.2))
        (λ (q : ((x : ℕ × Held M) → Mem x (all_given knows j 0 jobs) → x.0 ≢ l) × (lane_calls (all_given knows j 0 jobs) l ≡ [])). q.1)
        (find_lane (all_given knows j 0 jobs) l))

    -- one lane and its job
    module _ (l : ℕ) (a : LaneText K) (y : Job L) (at : get_elem? ls l ≡ some a) (its : get_elem? jobs l ≡ some y) where
      calls_are : calls_on j ls (done_of jobs) l ≡ cell_calls j a.cells (take y.done a.lines)
      calls_are = calls_at j ls (done_of jobs) l a at ∙ ap (λ n. cell_calls j a.cells (take n a.lines)) (done_at jobs l y its)

      -- what the pass in slot s, a pass of cell j, came back with
      with_pass : (s : ℕ) (z : Slot L) → get_elem? y.slots.items s ≡ some z → z.cell ≡ j → StandAs stands (calls_on j ls (done_of jobs) l) (lane_calls (all_given knows j 0 jobs) l)
      with_pass s z there cell =
          let came_is : Mem {A = ℕ × Held M} (came l z) (all_given knows j 0 jobs) = subst (λ n. Mem {A = ℕ × Held M} (came n z) (all_given knows j 0 jobs)) (omega arith) (all_has j 0 jobs l y s z its there cell) in
          let its_calls : StandAs stands (slot_calls s (take y.done a.lines)) (knows z.lent).mine = (ran l a y at its).made s z there in
          let through_is : slot_calls s (take y.done a.lines) ≡ calls_on j ls (done_of jobs) l =
          through a y s (at_cell y.slots.items s z there ∙ ap some cell) (fit l a at).once (fit l a at).lines (ran l a y at its).whole ∙ sym calls_are in
          subst (StandAs stands (calls_on j ls (done_of jobs) l)) (sym (calls_is (all_given knows j 0 jobs) (came l z) apart came_is))
          (subst (λ ks. StandAs stands ks (knows z.lent).mine) through_is its_calls)

      -- a lane with no pass of cell j
      none_came : ((s : ℕ) → get_elem? (cells_of y.slots.items) s ≡ some j → ⊥) → (x : ℕ × Held M) → Mem x (all_given knows j 0 jobs) → x.0 ≢ l
      none_came far x m e =
          let g = all_from j 0 jobs x m in
          let n : x.0 ≡ 0 + g.0 = ap (λ (z : ℕ × Held M). z.0) g.3.4 in
          let same : g.0 ≡ l = omega arith in
          let job : g.1 ≡ y = one_at jobs l g.1 y (subst (λ n. get_elem? jobs n ≡ some g.1) same g.2) its in
          far g.3.0 (subst (λ (js : Job L). get_elem? (cells_of js.slots.items) g.3.0 ≡ some j) job (at_cell g.1.slots.items g.3.0 g.3.1 g.3.2 ∙ ap some g.3.3))

      without_pass : ((s : ℕ) → get_elem? (cells_of y.slots.items) s ≡ some j → ⊥) → StandAs stands (calls_on j ls (done_of jobs) l) (lane_calls (all_given knows j 0 jobs) l)
      without_pass far = stand_none l (calls_are ∙ no_pass a y far (fit l a at).lines (ran l a y at its).whole) (none_came far)

      stands_for : ((s : ℕ) × (get_elem? (cells_of y.slots.items) s ≡ some j)) ⊎ ((s : ℕ) → get_elem? (cells_of y.slots.items) s ≡ some j → ⊥) → StandAs stands (calls_on j ls (done_of jobs) l) (lane_calls (all_given knows j 0 jobs) l)
      stands_for (inl q) = let z = cell_at y.slots.items q.0 j q.1 in with_pass q.0 z.0 z.1 z.2
      stands_for (inr far) = without_pass far

    of_lane : (l : ℕ) → l < length jobs → StandAs stands (calls_on j ls (done_of jobs) l) (lane_calls (all_given knows j 0 jobs) l)
    of_lane l h =
        let a = below_some ls l (omega arith) in
        let y = below_some jobs l h in
        stands_for l a.0 y.0 a.1 y.1 (find_at (cells_of y.0.slots.items) j)

    of_none : (l : ℕ) → length jobs ≤ l → StandAs stands (calls_on j ls (done_of jobs) l) (lane_calls (all_given knows j 0 jobs) l)
    of_none l h = stand_none l (calls_none j ls (done_of jobs) l (done_past jobs l h))
        (λ x m e.
        let g = all_from j 0 jobs x m in
        let b : g.0 < length jobs = some_below jobs g.0 g.1 g.2 in
        let n : x.0 ≡ 0 + g.0 = ap (λ (z : ℕ × Held M). z.0) g.3.4 in
        absurd (omega arith))

    each_lane : (l : ℕ) → StandAs stands (calls_on j ls (done_of jobs) l) (lane_calls (all_given knows j 0 jobs) l)
    each_lane l = dite (dec_le (suc l) (length jobs)) (λ (h : suc l ≤ length jobs). of_lane l (omega arith)) (λ (h : ¬ (suc l ≤ length jobs)). of_none l (omega (arith, lt_of_not-le h)))

    -- a pass that came back is of a cell that a lane names
    came_named : (x : ℕ × Held M) → Mem x (all_given knows j 0 jobs) → Named j ls
    came_named x m =
        let g = all_from j 0 jobs x m in
        let a = below_some ls g.0 (let b = some_below jobs g.0 g.1 g.2 in omega arith) in
        let slots = g.1.slots.items in
        let cell = subst (λ cs. get_elem? cs g.3.0 ≡ some j) (ran g.0 a.0 g.1 a.1 g.2).some_cells (at_cell slots g.3.0 g.3.1 g.3.2 ∙ ap some g.3.3) in
        (g.0, a.0, a.1, (g.3.0, take_at (length slots) a.0.cells g.3.0 j cell))

    -- a root is settled after a round if it was before, once what lanes name is settled
    settled_of : {S : Type 0} (root : S → View M) (stays : S → S → Type 0) (c0 c1 c2 : S) → Settled (root c0) → Lends root stays (lent_on j jobs) c0 c1 → Takes root stays (all_given knows j 0 jobs) c1 c2 → (Named j ls → Settled (root c2)) → Settled (root c2)
    settled_of root stays c0 c1 c2 known lends takes named = by_news (all_given knows j 0 jobs) refl
      where
        by_news : (news : List (ℕ × Held M)) → news ≡ all_given knows j 0 jobs → Settled (root c2)
        by_news [] e =
            let same : root c2 ≡ root c1 = takes.still (sym e) in
            settled_as (root c0) (root c2) (ap (λ (v : View M). v.seen) same ∙ lends.seen) (ap (λ (v : View M). v.mine) same ∙ lends.mine) (ap (λ (v : View M). v.joined) same ∙ lends.joined) known
        by_news (x ∷ news) e = named (came_named x (subst (Mem x) e (inl refl)))

    -- one thing over a round
    round_of : {S : Type 0} (root : S → View M) (stays : S → S → Type 0) (c0 c1 c2 c3 : S) → Settled (root c0) → Lends root stays (lent_on j jobs) c0 c1 → Takes root stays (all_given knows j 0 jobs) c1 c2 → root c3 ≡ root c2 → Settled (root c3)
        → Grew root stands ls (done_of jobs) j c0 c3
    round_of root stays c0 c1 c2 c3 known lends takes same all = (
      lane_calls (all_given knows j 0 jobs),
      each_lane,
      grew (root c0) (root c3) (all_given knows j 0 jobs) known all
          (record {
            grows = subst (λ (x : View M). IsPrefix (root c0).seen x.seen) (sym same) (subst (λ s. IsPrefix s (root c2).seen) lends.seen takes.seen);
            mine = ap (λ (x : View M). x.mine) same ∙ (takes.mine ∙ lends.mine);
            joined = ap (λ (x : View M). x.joined) same ∙ (takes.joined ∙ ap (λ h. h ++ helds (all_given knows j 0 jobs)) lends.joined);
            apart = apart;
          })
          (lane_calls (all_given knows j 0 jobs)) (λ l. refl),
    )

  module _ {S : Type 0} (root : S → View M) (stays : S → S → Type 0) (jobs : List (Job L)) (r0 r1 r2 : List S) (rest : AtRest root r0) (len1 : length r1 ≡ length r0) (len2 : length r2 ≡ length r1)
      (lends : Each (λ j. Lends root stays (lent_on j jobs)) r0 r1) (takes : Each (λ j. Takes root stays (all_given knows j 0 jobs)) r1 r2) where
    -- all passes come home
    pub all_home : Home root r2
    all_home j p e =
        let b : j < length r2 = some_below r2 j p e in
        let q1 = below_some r1 j (omega arith) in
        let q0 = below_some r0 j (omega arith) in
        let none = (rest j q0.0 q0.1).0 in
        let a = (lends j q0.0 q1.0 q0.1 q1.1).out in
        let c = (takes j q1.0 p q1.1 e).out in
        omega (arith, all_count j 0 jobs)

    -- once what lanes name is settled, all are at rest
    pub all_rest : {K : Type 0} (stands : K → List M → Type 0) (count : ℕ) (ls : List (LaneText K)) → AllFit count ls → length jobs ≤ length ls → JobsRan knows stands ls jobs → ((j : ℕ) → Named j ls → SettledAt root r2 j) → AtRest root r2
    all_rest stands count ls fit few ran named j p e =
        let b : j < length r2 = some_below r2 j p e in
        let q1 = below_some r1 j (omega arith) in
        let q0 = below_some r0 j (omega arith) in
        (all_home j p e, settled_of stands j count ls jobs fit few ran root stays q0.0 q1.0 p (rest j q0.0 q0.1).1 (lends j q0.0 q1.0 q0.1 q1.1) (takes j q1.0 p q1.1 e) (λ n. named j n p e))

    pub all_grew : {K : Type 0} (stands : K → List M → Type 0) (count : ℕ) (ls : List (LaneText K)) (fit : AllFit count ls) (few : length jobs ≤ length ls) (ran : JobsRan knows stands ls jobs)
        (r3 : List S) → length r3 ≡ length r2 → Each (λ j. Same root stays) r2 r3 → AtRest root r3 → Each (Grew root stands ls (done_of jobs)) r0 r3
    all_grew stands count ls fit few ran r3 len3 looked rest3 j p q e g =
        let b : j < length r0 = some_below r0 j p e in
        let q1 = below_some r1 j (omega arith) in
        let q2 = below_some r2 j (omega arith) in
        round_of stands j count ls jobs fit few ran root stays p q1.0 q2.0 q (rest j p e).1 (lends j p q1.0 e q1.1) (takes j q1.0 q2.0 q1.1 q2.1) (looked j q2.0 q q2.1 g).view (rest3 j q g).1
