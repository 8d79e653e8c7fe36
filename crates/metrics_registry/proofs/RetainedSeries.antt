-- The loop that keeps the series for which a test holds: those that are kept are moved to the front, one after the other.
use Rattle.std.proofs.Common.{◌≡◌, ℕ, zero, suc, ◌<◌, ◌≤◌, Bool, true, false, cond, List, [], ◌∷◌, ◌++◌, length, take, drop, set, get_or, Some, refl, sym, ap, subst, ◌∙◌, arith, append-nil, inl, inr, ◌⊎◌}
use Rattle.std.specs.Prelude.{slice_get, swap}
use Rattle.std.specs.Borrow.{MutBor}
use Rattle.std.specs.Fn.{Mut}
use Rattle.std.proofs.lemmas.Bool.{cases_lt}
use Rattle.std.proofs.lemmas.Option.{get_or_from_slice_get, slice_get_within}
use Rattle.std.proofs.Math.ListN.{length-set}
use Rattle.metrics_core.specs.declared.kinds.MetricKind.{MetricKind}
use Rattle.metrics_core.specs.declared.kinds.SeriesId.{SeriesId}
use Rattle.metrics_core.specs.Keys.{KeyText}
use Rattle.metrics_registry.specs.Live.{LiveSeries, IsBelowAll, Rises, AreOf}
use Rattle.metrics_registry.specs.Retained.{AskedAt, Retains}
use Rattle.metrics_registry.specs.Stored.{live_of, AreStored}
use Rattle.metrics_registry.specs.declared.columns.Series.{Series}
use Rattle.metrics_registry.proofs.StoredSeries.{live_of-push}

-- ---- fronts and backs of a list with an element written

module _ {A : Type 0} where
  front-set : (xs : List A) (k : ℕ) (x : A) → k < length xs → take (suc k) (set xs k x) ≡ take k xs ++ x ∷ []
  front-set [] k x within = absurd (omega arith)
  front-set (y ∷ xs) zero x within = refl
  front-set (y ∷ xs) (suc k) x within = ap (λ l. y ∷ l) (front-set xs k x (omega arith))

  front-past : (xs : List A) (n i : ℕ) (x : A) → n ≤ i → take n (set xs i x) ≡ take n xs
  front-past [] n i x le = refl
  front-past (y ∷ xs) zero i x le = refl
  front-past (y ∷ xs) (suc n) zero x le = absurd (omega arith)
  front-past (y ∷ xs) (suc n) (suc i) x le = ap (λ l. y ∷ l) (front-past xs n i x (omega arith))

  back-set : (xs : List A) (i n : ℕ) (x : A) → i < n → drop n (set xs i x) ≡ drop n xs
  back-set [] i n x lt = refl
  back-set (y ∷ xs) i zero x lt = absurd (omega arith)
  back-set (y ∷ xs) zero (suc n) x lt = refl
  back-set (y ∷ xs) (suc i) (suc n) x lt = back-set xs i n x (omega arith)

  front-more : (xs : List A) (i : ℕ) (x : A) → slice_get xs i ≡ Some x → take (suc i) xs ≡ take i xs ++ x ∷ []
  front-more [] i x at = cc
  front-more (y ∷ xs) zero x at = let is : y ≡ x = cc in ap (λ z. z ∷ []) is
  front-more (y ∷ xs) (suc i) x at = ap (λ l. y ∷ l) (front-more xs i x at)

  get-drop : (xs : List A) (i : ℕ) → slice_get xs i ≡ slice_get (drop i xs) 0
  get-drop [] zero = refl
  get-drop [] (suc i) = refl
  get-drop (y ∷ xs) zero = refl
  get-drop (y ∷ xs) (suc i) = get-drop xs i

  back-more : (xs ys : List A) (i : ℕ) → drop i xs ≡ drop i ys → drop (suc i) xs ≡ drop (suc i) ys
  back-more xs ys i same = drop-one xs i ∙ ap (drop 1) same ∙ sym (drop-one ys i)
    where
      drop-one : (zs : List A) (n : ℕ) → drop (suc n) zs ≡ drop 1 (drop n zs)
      drop-one [] zero = refl
      drop-one [] (suc n) = refl
      drop-one (z ∷ zs) zero = refl
      drop-one (z ∷ zs) (suc n) = drop-one zs n

  get-set : (xs : List A) (i : ℕ) (x : A) → i < length xs → slice_get (set xs i x) i ≡ Some x
  get-set [] i x within = absurd (omega arith)
  get-set (y ∷ xs) zero x within = refl
  get-set (y ∷ xs) (suc i) x within = get-set xs i x (omega arith)

  take_all : (xs : List A) (n : ℕ) → length xs ≤ n → take n xs ≡ xs
  take_all [] zero le = refl
  take_all [] (suc n) le = refl
  take_all (y ∷ xs) zero le = absurd (omega arith)
  take_all (y ∷ xs) (suc n) le = ap (λ l. y ∷ l) (take_all xs n (omega arith))

  -- ---- two elements in each other's place

  length-swap : (xs : List A) (k i : ℕ) → length (swap xs k i) ≡ length xs
  length-swap [] k i = refl
  length-swap (y ∷ xs) k i = length-set (set (y ∷ xs) k (get_or (y ∷ xs) i y)) i (get_or (y ∷ xs) k y) ∙ length-set (y ∷ xs) k (get_or (y ∷ xs) i y)

  back-swap : (xs : List A) (k i : ℕ) → k ≤ i → drop (suc i) (swap xs k i) ≡ drop (suc i) xs
  back-swap [] k i le = refl
  back-swap (y ∷ xs) k i le =
      back-set (set (y ∷ xs) k (get_or (y ∷ xs) i y)) i (suc i) (get_or (y ∷ xs) k y) (omega arith)
      ∙ back-set (y ∷ xs) k (suc i) (get_or (y ∷ xs) i y) (omega arith)

  front-swap : (xs : List A) (k i : ℕ) (x : A) → k ≤ i → slice_get xs i ≡ Some x → take (suc k) (swap xs k i) ≡ take k xs ++ x ∷ []
  front-swap [] k i x le at = cc
  front-swap (y ∷ xs) k i x le at = by (cases_lt k i)
    where
      is : get_or (y ∷ xs) i y ≡ x
      is = get_or_from_slice_get (y ∷ xs) i x y at

      within : i < length (y ∷ xs)
      within = slice_get_within (y ∷ xs) i x at

      by : (k < i) ⊎ (i ≤ k) → take (suc k) (swap (y ∷ xs) k i) ≡ take k (y ∷ xs) ++ x ∷ []
      by (inl lt) =
          front-past (set (y ∷ xs) k (get_or (y ∷ xs) i y)) (suc k) i (get_or (y ∷ xs) k y) (omega (arith, lt))
          ∙ front-set (y ∷ xs) k (get_or (y ∷ xs) i y) (omega (arith, lt, within))
          ∙ ap (λ z. take k (y ∷ xs) ++ z ∷ []) is
      by (inr ge) = same (omega (arith, le, ge))
        where
          same : k ≡ i → take (suc k) (swap (y ∷ xs) k i) ≡ take k (y ∷ xs) ++ x ∷ []
          same e =
              subst (λ n. take (suc n) (swap (y ∷ xs) n i) ≡ take n (y ∷ xs) ++ x ∷ []) (sym e)
              (front-set (set (y ∷ xs) i (get_or (y ∷ xs) i y)) i (get_or (y ∷ xs) i y) (subst (λ n. i < n) (sym (length-set (y ∷ xs) i (get_or (y ∷ xs) i y))) within)
              ∙ ap (λ l. l ++ get_or (y ∷ xs) i y ∷ []) (front-past (y ∷ xs) i i (get_or (y ∷ xs) i y) (omega arith))
              ∙ ap (λ z. take i (y ∷ xs) ++ z ∷ []) is)

-- ---- the series that are kept so far

module _ {F X : Type 0} (g : Mut F (SeriesId × (MutBor X × Unit {0})) (Bool × (MutBor X × Unit {0}))) where
  retains-more : (f : F) (live kept : List (LiveSeries X)) (mid : F) (s : LiveSeries X) (b : Bool) (cell : X) (last : F)
      → Retains g f live kept mid → AskedAt g mid s.id s.cell b cell last → Retains g f (live ++ s ∷ []) (kept ++ cond b (record s { cell = cell } ∷ []) []) last
  retains-more f [] kept mid s b cell last so_far asked =
      (b, cell, last, [], subst (λ h. AskedAt g h s.id s.cell b cell last) (sym so_far.1) asked, (refl, refl), ap (λ l. l ++ cond b (record s { cell = cell } ∷ []) []) so_far.0)
  retains-more f (x ∷ live) kept mid s b cell last so_far asked =
      let more : List (LiveSeries X) = cond b (record s { cell = cell } ∷ []) [] in (
        so_far.0,
        so_far.1,
        so_far.2,
        so_far.3 ++ more,
        so_far.4,
        retains-more so_far.2 live so_far.3 mid s b cell last so_far.5 asked,
        ap (λ l. l ++ more) so_far.6
            ∙ (elim so_far.0 as (λ c. cond c (record x { cell = so_far.1 } ∷ so_far.3) so_far.3 ++ more ≡ cond c (record x { cell = so_far.1 } ∷ (so_far.3 ++ more)) (so_far.3 ++ more)) [
              | true ↦ refl
              | false ↦ refl
            ]),
      )

  below-retained : (n : ℕ) (f : F) (live kept : List (LiveSeries X)) (last : F) → IsBelowAll n live → Retains g f live kept last → IsBelowAll n kept
  below-retained n f [] kept last below done = subst (IsBelowAll n) (sym done.0) tt
  below-retained n f (x ∷ live) kept last below done =
      let rest = below-retained n done.2 live done.3 last below.1 done.5 in
      subst (IsBelowAll n) (sym done.6) (elim done.0 as (λ c. IsBelowAll n (cond c (record x { cell = done.1 } ∷ done.3) done.3)) [
        | true ↦ (below.0, rest)
        | false ↦ rest
      ])

  pub rises-retained : (f : F) (live kept : List (LiveSeries X)) (last : F) → Rises live → Retains g f live kept last → Rises kept
  rises-retained f [] kept last rises done = subst Rises (sym done.0) tt
  rises-retained f (x ∷ live) kept last rises done =
      let rest = rises-retained done.2 live done.3 last rises.1 done.5 in
      let below = below-retained x.id.number done.2 live done.3 last rises.0 done.5 in
      subst Rises (sym done.6) (elim done.0 as (λ c. Rises (cond c (record x { cell = done.1 } ∷ done.3) done.3)) [
        | true ↦ (below, rest)
        | false ↦ rest
      ])

  pub are_of-retained : (kind : MetricKind) (n : ℕ) (f : F) (live kept : List (LiveSeries X)) (last : F) → AreOf kind n live → Retains g f live kept last → AreOf kind n kept
  are_of-retained kind n f [] kept last of done = subst (AreOf kind n) (sym done.0) tt
  are_of-retained kind n f (x ∷ live) kept last of done =
      let rest = are_of-retained kind n done.2 live done.3 last of.2 done.5 in
      subst (AreOf kind n) (sym done.6) (elim done.0 as (λ c. AreOf kind n (cond c (record x { cell = done.1 } ∷ done.3) done.3)) [
        | true ↦ (of.0, of.1, rest)
        | false ↦ rest
      ])

  -- what the loop has made of the keys ks0 and the series ss0 before a place i: the first k that it holds are kept
  pub record IsKept (f : F) (ks0 : List KeyText) (ss0 : List (Series X)) (ks : List KeyText) (ss : List (Series X)) (k i : ℕ) (now : F) : Type 0 where
    pub keys_long : length ks ≡ length ks0
    pub long : length ss ≡ length ss0
    pub within : k ≤ i
    pub keys_behind : drop i ks ≡ drop i ks0
    pub behind : drop i ss ≡ drop i ss0
    pub retained : Retains g f (live_of (take i ks0) (take i ss0)) (live_of (take k ks) (take k ss)) now

  pub kept-start : (f : F) (ks : List KeyText) (ss : List (Series X)) → IsKept f ks ss ks ss 0 0 f
  kept-start f ks ss = record { keys_long = refl; long = refl; within = omega arith; keys_behind = refl; behind = refl; retained = (refl, refl) }

  pub kept-same : (f : F) (ks0 : List KeyText) (ss0 : List (Series X)) (ks ks' : List KeyText) (ss ss' : List (Series X)) (k k' i i' : ℕ) (now : F)
      → ks' ≡ ks → ss' ≡ ss → k' ≡ k → i' ≡ i → IsKept f ks0 ss0 ks ss k i now → IsKept f ks0 ss0 ks' ss' k' i' now
  kept-same f ks0 ss0 ks ks' ss ss' k k' i i' now e1 e2 e3 e4 so_far = rw (e1, e2, e3, e4) so_far

  length-take-same : (ks : List KeyText) (ss : List (Series X)) (n : ℕ) → length ks ≡ length ss → length (take n ks) ≡ length (take n ss)
  length-take-same [] [] zero same = refl
  length-take-same [] [] (suc n) same = refl
  length-take-same [] (s ∷ ss) n same = cc
  length-take-same (k ∷ ks) [] n same = cc
  length-take-same (k ∷ ks) (s ∷ ss) zero same = refl
  length-take-same (k ∷ ks) (s ∷ ss) (suc n) same = ap suc (length-take-same ks ss n (omega arith))

  -- the live series before the next place
  live-more : (ks : List KeyText) (ss : List (Series X)) (i : ℕ) (x : KeyText) (s : Series X) → length ks ≡ length ss → slice_get ks i ≡ Some x → slice_get ss i ≡ Some s
      → live_of (take (suc i) ks) (take (suc i) ss) ≡ live_of (take i ks) (take i ss) ++ record { id = s.id; key = x; cell = s.cell } ∷ []
  live-more ks ss i x s beside key_at at =
      (λ j. live_of (front-more ks i x key_at j) (front-more ss i s at j))
      ∙ live_of-push (take i ks) (take i ss) x s (length-take-same ks ss i beside)

  module _ (f : F) (ks0 : List KeyText) (ss0 : List (Series X)) (ks : List KeyText) (ss : List (Series X)) (k i : ℕ) (now : F) (beside : length ks0 ≡ length ss0) (so_far : IsKept f ks0 ss0 ks ss k i now)
      (x : KeyText) (s t : Series X) (key_at : slice_get ks i ≡ Some x) (at : slice_get ss i ≡ Some s) (same : t.id ≡ s.id) (next : F) where
    key_at0 : slice_get ks0 i ≡ Some x
    key_at0 = get-drop ks0 i ∙ ap (λ l. slice_get l 0) (sym so_far.keys_behind) ∙ sym (get-drop ks i) ∙ key_at

    at0 : slice_get ss0 i ≡ Some s
    at0 = get-drop ss0 i ∙ ap (λ l. slice_get l 0) (sym so_far.behind) ∙ sym (get-drop ss i) ∙ at

    within : i < length ss
    within = slice_get_within ss i s at

    -- where the test answered false
    pub kept-false : AskedAt g now s.id s.cell false t.cell next → IsKept f ks0 ss0 ks (set ss i t) k (suc i) next
    kept-false asked = record {
      keys_long = so_far.keys_long;
      long = length-set ss i t ∙ so_far.long;
      within = omega (arith, so_far.within);
      keys_behind = back-more ks ks0 i so_far.keys_behind;
      behind = back-set ss i (suc i) t (omega arith) ∙ back-more ss ss0 i so_far.behind;
      retained =
          subst (λ l. Retains g f l (live_of (take k ks) (take k (set ss i t))) next) (sym (live-more ks0 ss0 i x s beside key_at0 at0))
          (subst (λ l. Retains g f (live_of (take i ks0) (take i ss0) ++ record { id = s.id; key = x; cell = s.cell } ∷ []) l next)
          (append-nil (live_of (take k ks) (take k ss)) ∙ ap (live_of (take k ks)) (sym (front-past ss k i t so_far.within)))
          (retains-more f (live_of (take i ks0) (take i ss0)) (live_of (take k ks) (take k ss)) now (record { id = s.id; key = x; cell = s.cell }) false t.cell next so_far.retained asked));
    }

    -- where it answered true, and the series goes to place k
    pub kept-true : AskedAt g now s.id s.cell true t.cell next → IsKept f ks0 ss0 (swap ks k i) (swap (set ss i t) k i) (suc k) (suc i) next
    kept-true asked = record {
      keys_long = length-swap ks k i ∙ so_far.keys_long;
      long = length-swap (set ss i t) k i ∙ length-set ss i t ∙ so_far.long;
      within = omega (arith, so_far.within);
      keys_behind = back-swap ks k i so_far.within ∙ back-more ks ks0 i so_far.keys_behind;
      behind = back-swap (set ss i t) k i so_far.within ∙ back-set ss i (suc i) t (omega arith) ∙ back-more ss ss0 i so_far.behind;
      retained =
          subst (λ l. Retains g f l (live_of (take (suc k) (swap ks k i)) (take (suc k) (swap (set ss i t) k i))) next) (sym (live-more ks0 ss0 i x s beside key_at0 at0))
          (subst (λ l. Retains g f (live_of (take i ks0) (take i ss0) ++ record { id = s.id; key = x; cell = s.cell } ∷ []) l next) (sym kept_now)
          (retains-more f (live_of (take i ks0) (take i ss0)) (live_of (take k ks) (take k ss)) now (record { id = s.id; key = x; cell = s.cell }) true t.cell next so_far.retained asked));
    }
      where
        kept_now : live_of (take (suc k) (swap ks k i)) (take (suc k) (swap (set ss i t) k i)) ≡ live_of (take k ks) (take k ss) ++ record { id = s.id; key = x; cell = t.cell } ∷ []
        kept_now =
            (λ j. live_of (front-swap ks k i x so_far.within key_at j) ((front-swap (set ss i t) k i t so_far.within (get-set ss i t within) ∙ ap (λ l. l ++ t ∷ []) (front-past ss k i t so_far.within)) j))
            ∙ live_of-push (take k ks) (take k ss) x t (length-take-same ks ss k (so_far.keys_long ∙ beside ∙ sym so_far.long))
            ∙ ap (λ id. live_of (take k ks) (take k ss) ++ record { id = id; key = x; cell = t.cell } ∷ []) same

  -- at the end the series that are kept are all that were
  pub kept-end : (f : F) (ks0 : List KeyText) (ss0 : List (Series X)) (ks : List KeyText) (ss : List (Series X)) (k i : ℕ) (now : F) → length ks0 ≡ length ss0 → length ss0 ≤ i → IsKept f ks0 ss0 ks ss k i now
      → Retains g f (live_of ks0 ss0) (live_of (take k ks) (take k ss)) now
  kept-end f ks0 ss0 ks ss k i now beside past so_far =
      subst (λ l. Retains g f l (live_of (take k ks) (take k ss)) now) (λ j. live_of (take_all ks0 i (omega (arith, beside)) j) (take_all ss0 i past j)) so_far.retained

  pub stored-end : (f : F) (ks0 : List KeyText) (ss0 : List (Series X)) (ks : List KeyText) (ss : List (Series X)) (k i : ℕ) (now : F) → AreStored ks0 ss0 → length ss0 ≤ i → IsKept f ks0 ss0 ks ss k i now
      → AreStored (take k ks) (take k ss)
  stored-end f ks0 ss0 ks ss k i now stored past so_far = record {
    beside = length-take-same ks ss k (so_far.keys_long ∙ stored.beside ∙ sym so_far.long);
    rises = rises-retained f (live_of ks0 ss0) (live_of (take k ks) (take k ss)) now stored.rises (kept-end f ks0 ss0 ks ss k i now stored.beside past so_far);
  }
