-- Each step of a cell of two words keeps its rule, whatever its value means.
use Rattle.std.proofs.Common.{◌≡◌, ◌≢◌, ℕ, zero, suc, ◌+◌, ◌%◌, ◌^◌, ◌<◌, ◌≤◌, ◌==◌, ◌⊎◌, Bool, true, false, List, [], ◌∷◌, ◌++◌, map, fold, length, set, refl, sym, ap, ◌∙◌, subst, inl, inr, ⊎_elim, arith, eq-eqb, length-append, true≢false, le_refl}
use Rattle.std.specs.Prelude.{slice_index}
use Rattle.std.proofs.Math.ListN.{length-set}
use mathlib.Core.Option.{some, some-ne-none, some-injective}
use native.Mathlib.Decide.{ℕ_discrete}
use lib.ListN.{get_elem?}
use Rattle.atomic_table.specs.Table.{State, keeps, Allows, Splits, Joins}
use Rattle.atomic_table.proofs.Lists.{at_set, at_snoc, at_map, set_again}
use Rattle.legal_history.specs.History.{In, without, keep_unless, calls, said, after, looked, child, taker, nobody, Legal}
use Rattle.legal_history.specs.Order.{flag}
use Rattle.legal_history.specs.Object.{Runs}
use Rattle.legal_history.proofs.Lists.{calls-append}
use Rattle.legal_history.proofs.Steps.{step as step_legal, look, lend, take_back, begins, sees, one_at, in_without}
use Rattle.legal_history.proofs.Objects.{runs_more}
use Rattle.metrics_core.specs.declared.calls.SeriesCall.{SeriesCall}
use Rattle.series_cells.specs.declared.views.CellView.{CellView}
use Rattle.series_cells.specs.Cell.{history_of, waiting, total, object, Kept, cell_view, opening_view, cell_nobody, cell_lender, cell_child, cell_taker, Seen, Made, Looked, Counted, CountRead, Told}

map_set : {A B : Type 0} (f : A → B) (l : List A) (i : ℕ) (a : A) → map f (set l i a) ≡ set (map f l) i (f a)
map_set f [] i a = refl
map_set f (x ∷ xs) zero a = refl
map_set f (x ∷ xs) (suc i) a = ap (λ l. f x ∷ l) (map_set f xs i a)

map_snoc : {A B : Type 0} (f : A → B) (l : List A) (a : A) → map f (l ++ a ∷ []) ≡ map f l ++ f a ∷ []
map_snoc f [] a = refl
map_snoc f (x ∷ xs) a = ap (λ l. f x ∷ l) (map_snoc f xs a)

pub total_set : {A : Type 0} (f : A → ℕ) (l : List A) (i : ℕ) (v w : A) → get_elem? l i ≡ some v → total f (set l i w) + f v ≡ total f l + f w
total_set f [] i v w e = absurd (some-ne-none v (sym e))
total_set f (x ∷ xs) zero v w e = let same : f x ≡ f v = ap f (some-injective x v e) in omega arith
total_set f (x ∷ xs) (suc i) v w e = let h = total_set f xs i v w e in omega arith

total_snoc : {A : Type 0} (f : A → ℕ) (l : List A) (a : A) → total f (l ++ a ∷ []) ≡ total f l + f a
total_snoc f [] a = omega arith
total_snoc f (x ∷ xs) a = let h = total_snoc f xs a in omega arith

shorter_kept : (b : Bool) (k x : ℕ) (xs rest : List ℕ) → (x == k) ≡ b → length rest ≤ length xs → (In k xs → length rest < length xs) → In k (x ∷ xs) → length (keep_unless b x rest) < length (x ∷ xs)
shorter_kept true k x xs rest e most less q = omega (arith, most)
shorter_kept false k x xs rest e most less q = ⊎_elim (λ (z : k ≡ x). absurd (true≢false (sym (eq-eqb x k (sym z)) ∙ e))) (λ (y : In k xs). let l = less y in omega (arith, l)) q

at_most_kept : (b : Bool) (x : ℕ) (xs rest : List ℕ) → length rest ≤ length xs → length (keep_unless b x rest) ≤ length (x ∷ xs)
at_most_kept true x xs rest most = omega (arith, most)
at_most_kept false x xs rest most = omega (arith, most)

without_at_most : (k : ℕ) (xs : List ℕ) → length (without k xs) ≤ length xs
without_at_most k [] = omega arith
without_at_most k (x ∷ xs) = at_most_kept (x == k) x xs (without k xs) (without_at_most k xs)

without_shorter : (k : ℕ) (xs : List ℕ) → In k xs → length (without k xs) < length xs
without_shorter k [] q = absurd q
without_shorter k (x ∷ xs) q = shorter_kept (x == k) k x xs (without k xs) refl (without_at_most k xs) (without_shorter k xs) q

-- where each one that counts stands among these places, there are at most so many
total_few : {A : Type 0} (f : A → ℕ) (l : List A) (from : ℕ) (ks : List ℕ) → ((i : ℕ) (a : A) → get_elem? l i ≡ some a → (f a ≡ 0) ⊎ ((f a ≡ 1) × In (i + from) ks)) → total f l ≤ length ks
total_few f [] from ks h = omega arith
total_few {A} f (x ∷ xs) from ks h = ⊎_elim
    (λ (z : f x ≡ 0).
    let rest = total_few f xs (from + 1) ks (λ i a e. ⊎_elim inl (λ (q : (f a ≡ 1) × In (suc i + from) ks). inr (q.0, subst (λ n. In n ks) (next i) q.1)) (h (suc i) a e)) in
    omega (arith, z, rest))
    (λ (q : (f x ≡ 1) × In (0 + from) ks).
    let rest = total_few f xs (from + 1) (without (0 + from) ks)
    (λ i a e. ⊎_elim inl (λ (p : (f a ≡ 1) × In (suc i + from) ks). inr (p.0, subst (λ n. In n (without (0 + from) ks)) (next i) (in_without (suc i + from) (0 + from) ks (apart i) p.1))) (h (suc i) a e)) in
    let shorter = without_shorter (0 + from) ks q.1 in
    omega (arith, q.0, rest, shorter))
    (h 0 x refl)
  where
    next : (i : ℕ) → suc i + from ≡ i + (from + 1)
    next i = omega arith

    apart : (i : ℕ) → suc i + from ≢ 0 + from
    apart i e = absurd (omega (arith, e))

word_0 : (ws : List ℕ) (n : ℕ) → length ws ≡ 2 → (slice_index (set ws 0 n) 0 ≡ n) × (slice_index (set ws 0 n) 1 ≡ slice_index ws 1)
word_0 [] n e = absurd (omega arith)
word_0 (a ∷ []) n e = absurd (omega arith)
word_0 (a ∷ b ∷ ws) n e = (refl, refl)

word_1 : (ws : List ℕ) (n : ℕ) → length ws ≡ 2 → (slice_index (set ws 1 n) 1 ≡ n) × (slice_index (set ws 1 n) 0 ≡ slice_index ws 0)
word_1 [] n e = absurd (omega arith)
word_1 (a ∷ []) n e = absurd (omega arith)
word_1 (a ∷ b ∷ ws) n e = (refl, refl)

same_word : (ws : List ℕ) (i : ℕ) → set ws i (slice_index ws i) ≡ ws
same_word [] i = refl
same_word (x ∷ xs) zero = refl
same_word (x ∷ xs) (suc i) = ap (λ l. x ∷ l) (same_word xs i)

each_set : (P : CellView → Type 0) (views : List CellView) (i : ℕ) (w : CellView) → ((j : ℕ) (u : CellView) → get_elem? views j ≡ some u → P u) → P w → (j : ℕ) (u : CellView) → get_elem? (set views i w) j ≡ some u → P u
each_set P views i w all mine j u e = ⊎_elim (λ (t : (j ≡ i) × (w ≡ u)). subst P t.1 mine) (λ (t : (j ≢ i) × (get_elem? views j ≡ some u)). all j u t.1) (at_set views i j w u e)

-- a function's value after the calls of a run
pub run_value : {S : Type 0} (step : S → SeriesCall → S) (x y : S) (cs : List SeriesCall) → Runs (object step) x cs y → y ≡ fold step x cs
run_value step x y [] r = sym r
run_value step x y (c ∷ cs) r = run_value step r.0 y cs r.2 ∙ ap (λ z. fold step z cs) (sym r.1)

module _ {S : Type 0} (step : S → SeriesCall → S) (start : S) (value_of : ℕ → S) where
  -- a call is made
  made_kept : (ws : List ℕ) (views : List CellView) (i : ℕ) (v : CellView) (c : SeriesCall) (n : ℕ) (k : Kept step start value_of ws views) → get_elem? views i ≡ some v → v.history.live ≡ true → v.waits ≡ false
      → step (value_of (slice_index ws 0)) c ≡ value_of n
      → Kept step start value_of (set ws 0 n) (set views i (cell_view (after v.history k.keeps.log (c ∷ [])) true v.known))
  made_kept ws views i v c n k at live idle same =
      let log = k.keeps.log in
      let w = cell_view (after v.history log (c ∷ [])) true v.known in
      let words = word_0 ws n k.two in
      let here = at_map history_of views i v at in
      let sum : total waiting (set views i w) + flag v.waits ≡ total waiting views + 1 = total_set waiting views i v w at in
      let none : flag v.waits ≡ 0 = ap flag idle in
      record {
        two = length-set ws 0 n ∙ k.two;
        keeps = record {
          log = log ++ said v.history.number (c ∷ []);
          runs = subst (λ (x : S). Runs (object step) start (calls (log ++ said v.history.number (c ∷ []))) x) (ap value_of (sym words.0))
              (subst (λ cs. Runs (object step) start cs (value_of n)) (sym (calls-append log (said v.history.number (c ∷ []))))
              (runs_more (object step) start start (value_of (slice_index ws 0)) (value_of n) (calls log) c k.keeps.runs same));
          legal = subst (Legal (log ++ said v.history.number (c ∷ []))) (sym (map_set history_of views i w)) (step_legal log (map history_of views) i v.history (c ∷ []) k.keeps.legal here live);
        };
        counted = k.counted;
        count = words.1 ∙ k.count;
        waits = let was = k.waits in omega (arith, length-append log (said v.history.number (c ∷ [])));
        known = each_set (λ u. u.known ≤ k.counted) views i w k.known (k.known i v at);
        spent = each_set (λ u. u.history.live ≡ false → u.waits ≡ false) views i w k.spent (λ off. absurd (true≢false (sym live ∙ off)));
      }

  -- a step that leaves the words
  kept_views : (ws : List ℕ) (views : List CellView) (i : ℕ) (v w : CellView) (k : Kept step start value_of ws views) → get_elem? views i ≡ some v → w.known ≤ k.counted → w.waits ≡ v.waits → w.history.live ≡ v.history.live
      → Legal k.keeps.log (set (map history_of views) i w.history) → Kept step start value_of ws (set views i w)
  kept_views ws views i v w k at known waits lives legal =
      let sum : total waiting (set views i w) + flag v.waits ≡ total waiting views + flag w.waits = total_set waiting views i v w at in
      let same : flag w.waits ≡ flag v.waits = ap flag waits in
      record {
        two = k.two;
        keeps = record { log = k.keeps.log; runs = k.keeps.runs; legal = subst (Legal k.keeps.log) (sym (map_set history_of views i w)) legal };
        counted = k.counted;
        count = k.count;
        waits = let was = k.waits in omega arith;
        known = each_set (λ u. u.known ≤ k.counted) views i w k.known known;
        spent = each_set (λ u. u.history.live ≡ false → u.waits ≡ false) views i w k.spent (λ off. waits ∙ k.spent i v at (sym lives ∙ off));
      }

  -- the last call is counted
  counted_kept : (ws : List ℕ) (views : List CellView) (i : ℕ) (v : CellView) (k : Kept step start value_of ws views) → get_elem? views i ≡ some v → v.waits ≡ true
      → Kept step start value_of (set ws 1 ((slice_index ws 1 + 1) % 2 ^ 64)) (set views i (cell_view v.history false (k.counted + 1)))
  counted_kept ws views i v k at waits =
      let w = cell_view v.history false (k.counted + 1) in
      let words = word_1 ws ((slice_index ws 1 + 1) % 2 ^ 64) k.two in
      let sum : total waiting (set views i w) + flag v.waits ≡ total waiting views + 0 = total_set waiting views i v w at in
      let one : flag v.waits ≡ 1 = ap flag waits in
      record {
        two = length-set ws 1 ((slice_index ws 1 + 1) % 2 ^ 64) ∙ k.two;
        keeps = record {
          log = k.keeps.log;
          runs = subst (λ (x : S). Runs (object step) start (calls k.keeps.log) x) (ap value_of (sym words.1)) k.keeps.runs;
          legal = subst (Legal k.keeps.log) (sym (map_set history_of views i w ∙ set_again (map history_of views) i v.history (at_map history_of views i v at))) k.keeps.legal;
        };
        counted = k.counted + 1;
        count = words.0 ∙ (ap (λ n. (n + 1) % 2 ^ 64) k.count ∙ omega arith);
        waits = let was = k.waits in omega arith;
        known = each_set (λ u. u.known ≤ k.counted + 1) views i w (λ j u e. let b = k.known j u e in omega arith) (omega arith);
        spent = each_set (λ u. u.history.live ≡ false → u.waits ≡ false) views i w k.spent (λ _. refl);
      }

  -- the root lends a pass
  lent_kept : (ws : List ℕ) (views : List CellView) (v : CellView) (k : Kept step start value_of ws views) → get_elem? views 0 ≡ some v → v.history.live ≡ true
      → Kept step start value_of ws (set views 0 (cell_lender v) ++ cell_child v ∷ [])
  lent_kept ws views v k at live =
      let here = at_map history_of views 0 v at in
      let sum : total waiting (set views 0 (cell_lender v)) + flag v.waits ≡ total waiting views + flag v.waits = total_set waiting views 0 v (cell_lender v) at in
      let mine : v.known ≤ k.counted = k.known 0 v at in
      record {
        two = k.two;
        keeps = record {
          log = k.keeps.log;
          runs = k.keeps.runs;
          legal = subst (Legal k.keeps.log) (sym (map_snoc history_of (set views 0 (cell_lender v)) (cell_child v) ∙ ap (λ l. l ++ child v.history ∷ []) (map_set history_of views 0 (cell_lender v))))
              (lend k.keeps.log (map history_of views) v.history k.keeps.legal here live);
        };
        counted = k.counted;
        count = k.count;
        waits = let was = k.waits in omega (arith, total_snoc waiting (set views 0 (cell_lender v)) (cell_child v));
        known = λ i u e. ⊎_elim (each_set (λ x. x.known ≤ k.counted) views 0 (cell_lender v) k.known mine i u) (λ (q : cell_child v ≡ u). subst (λ (x : CellView). x.known ≤ k.counted) q mine) (at_snoc (set views 0 (cell_lender v)) (cell_child v) u i e);
        spent = λ i u e. ⊎_elim (each_set (λ x. x.history.live ≡ false → x.waits ≡ false) views 0 (cell_lender v) k.spent (λ off. absurd (true≢false (sym live ∙ off))) i u)
            (λ (q : cell_child v ≡ u). subst (λ (x : CellView). x.history.live ≡ false → x.waits ≡ false) q (λ _. refl)) (at_snoc (set views 0 (cell_lender v)) (cell_child v) u i e);
      }

  -- the root takes a pass back
  taken_kept : (ws : List ℕ) (views : List CellView) (v : CellView) (other : ℕ) (w : CellView) (k : Kept step start value_of ws views) → get_elem? views 0 ≡ some v → v.history.live ≡ true
      → ¬ (other ≡ 0) → get_elem? (set views 0 (cell_taker v w)) other ≡ some w → w.history.live ≡ true → w.waits ≡ false
      → Kept step start value_of ws (set (set views 0 (cell_taker v w)) other cell_nobody)
  taken_kept ws views v other w k at live apart there alive idle =
      let here = at_map history_of views 0 v at in
      let was_there : get_elem? views other ≡ some w = ⊎_elim (λ (t : (other ≡ 0) × (cell_taker v w ≡ w)). absurd (apart t.0)) (λ (t : (other ≢ 0) × (get_elem? views other ≡ some w)). t.1) (at_set views 0 other (cell_taker v w) w there) in
      let sum : total waiting (set views 0 (cell_taker v w)) + flag v.waits ≡ total waiting views + flag v.waits = total_set waiting views 0 v (cell_taker v w) at in
      let sum2 : total waiting (set (set views 0 (cell_taker v w)) other cell_nobody) + flag w.waits ≡ total waiting (set views 0 (cell_taker v w)) + 0 = total_set waiting (set views 0 (cell_taker v w)) other w cell_nobody there in
      let none : flag w.waits ≡ 0 = ap flag idle in
      let mine : v.known ≤ k.counted = k.known 0 v at in
      let theirs : w.known ≤ k.counted = k.known other w was_there in
      let same : map history_of (set (set views 0 (cell_taker v w)) other cell_nobody) ≡ set (set (map history_of views) 0 (taker v.history w.history)) other nobody =
      map_set history_of (set views 0 (cell_taker v w)) other cell_nobody ∙ ap (λ l. set l other nobody) (map_set history_of views 0 (cell_taker v w)) in
      record {
        two = k.two;
        keeps = record {
          log = k.keeps.log;
          runs = k.keeps.runs;
          legal = subst (Legal k.keeps.log) (sym same)
              (take_back k.keeps.log (map history_of views) v.history other w.history k.keeps.legal here live apart (subst (λ l. get_elem? l other ≡ some w.history) (map_set history_of views 0 (cell_taker v w)) (at_map history_of (set views 0 (cell_taker v w)) other w there)) alive);
        };
        counted = k.counted;
        count = k.count;
        waits = let was = k.waits in omega arith;
        known = each_set (λ x. x.known ≤ k.counted) (set views 0 (cell_taker v w)) other cell_nobody (each_set (λ x. x.known ≤ k.counted) views 0 (cell_taker v w) k.known (omega arith)) (omega arith);
        spent = each_set (λ x. x.history.live ≡ false → x.waits ≡ false) (set views 0 (cell_taker v w)) other cell_nobody (each_set (λ x. x.history.live ≡ false → x.waits ≡ false) views 0 (cell_taker v w) k.spent (λ off. absurd (true≢false (sym live ∙ off)))) (λ _. refl);
      }

  -- for a root with nothing to count, at most one call of each pass that is out waits to be counted
  few_wait : (ws : List ℕ) (views : List CellView) (v : CellView) (k : Kept step start value_of ws views) → get_elem? views 0 ≡ some v → v.history.live ≡ true → v.waits ≡ false
      → length k.keeps.log ≤ k.counted + v.history.out
  few_wait ws views v k at live idle =
      let legal = k.keeps.legal in
      let out = (legal.root v.history (at_map history_of views 0 v at)).out_is in
      let few : total waiting views ≤ length legal.children = total_few waiting views 0 legal.children (λ i u e. waits_out i u e (ℕ_discrete i 0) u.history.live refl u.waits refl) in
      let was = k.waits in
      omega arith
    where
      waits_out : (i : ℕ) (u : CellView) → get_elem? views i ≡ some u → Dec (i ≡ 0) → (b : Bool) → u.history.live ≡ b → (w : Bool) → u.waits ≡ w → (waiting u ≡ 0) ⊎ ((waiting u ≡ 1) × In (i + 0) k.keeps.legal.children)
      waits_out i u e d b l false w = inl (ap flag w)
      waits_out i u e d false l true w = absurd (true≢false (sym w ∙ k.spent i u e l))
      waits_out i u e (yes z) true l true w = inl (ap waiting (one_at views 0 u v (subst (λ n. get_elem? views n ≡ some u) z e) at) ∙ ap flag idle)
      waits_out i u e (no ne) true l true w =
          let same : i ≡ i + 0 = omega arith in
          inr (ap flag w, subst (λ n. In n k.keeps.legal.children) same ((k.keeps.legal.each i u.history (at_map history_of views i u e) l).out ne))

  -- the same as steps on the table: a call, whose atomic step turns the word n into f n
  pub makes : (slots id : ℕ) (m : Seen) (c : SeriesCall) (f : ℕ → ℕ) → m.0.history.live ≡ true → m.0.waits ≡ false → ((n : ℕ) → n < 2 ^ 64 → step (value_of n) c ≡ value_of (f n))
      → Allows (λ (s : State (Unit {0}) CellView). Kept step start value_of s.words s.views) slots id m 0 f (λ _. Made c m)
  makes slots id m c f live idle same s k homes at below = (
    cell_view (after m.0.history k.keeps.log (c ∷ [])) true m.0.known,
    keeps,
    tt,
    made_kept s.words s.views id m.0 c (f (slice_index s.words 0)) k at live idle (same (slice_index s.words 0) below),
    (k.keeps.log, sees k.keeps.log (map history_of s.views) id m.0.history k.keeps.legal (at_map history_of s.views id m.0 at) live, refl, refl),
  )

  -- a look at the value
  pub looks : (slots id : ℕ) (m : Seen) → m.0.history.live ≡ true → Allows (λ (s : State (Unit {0}) CellView). Kept step start value_of s.words s.views) slots id m 0 (λ n. n) (Looked step start value_of m)
  looks slots id m live s k homes at below =
      let log = k.keeps.log in
      let here = at_map history_of s.views id m.0 at in (
        cell_view (looked m.0.history log) m.0.waits m.0.known,
        keeps,
        tt,
        subst (λ ws. Kept step start value_of ws (set s.views id (cell_view (looked m.0.history log) m.0.waits m.0.known))) (sym (same_word s.words 0))
            (kept_views s.words s.views id m.0 (cell_view (looked m.0.history log) m.0.waits m.0.known) k at (k.known id m.0 at) refl refl (look log (map history_of s.views) id m.0.history k.keeps.legal here live)),
        (log, sees log (map history_of s.views) id m.0.history k.keeps.legal here live, run_value step start (value_of (slice_index s.words 0)) (calls log) k.keeps.runs, refl, refl),
      )

  -- the last call is counted
  pub counts : (slots id : ℕ) (m : Seen) → m.0.waits ≡ true → Allows (λ (s : State (Unit {0}) CellView). Kept step start value_of s.words s.views) slots id m 1 (λ n. (n + 1) % 2 ^ 64) (λ _. Counted m)
  counts slots id m waits s k homes at below = (
    cell_view m.0.history false (k.counted + 1),
    keeps,
    tt,
    counted_kept s.words s.views id m.0 k at waits,
    (k.counted, k.known id m.0 at, refl, refl),
  )

  -- a look at the count
  pub reads_count : (slots id : ℕ) (m : Seen) → m.0.history.live ≡ true → Allows (λ (s : State (Unit {0}) CellView). Kept step start value_of s.words s.views) slots id m 1 (λ n. n) (CountRead m)
  reads_count slots id m live s k homes at below =
      let log = k.keeps.log in
      let legal = k.keeps.legal in
      let here = at_map history_of s.views id m.0 at in
      let w = cell_view (looked m.0.history log) m.0.waits k.counted in (
        w,
        keeps,
        tt,
        subst (λ ws. Kept step start value_of ws (set s.views id w)) (sym (same_word s.words 1))
            (kept_views s.words s.views id m.0 w k at (le_refl k.counted) refl refl (look log (map history_of s.views) id m.0.history legal here live)),
        (
          k.counted,
          k.known id m.0 at,
          k.count,
          (
            log,
            sees log (map history_of s.views) id m.0.history legal here live,
            (let was = k.waits in omega arith),
            λ z idle. few_wait s.words s.views m.0 k (subst (λ n. get_elem? s.views n ≡ some m.0) (sym (legal.each id m.0.history here live).number ∙ z) at) live idle,
            refl,
          ),
          refl,
        ),
      )

  -- a look that changes nothing
  pub peeks : (slots id : ℕ) (m : Seen) → m.0.history.live ≡ true → Allows (λ (s : State (Unit {0}) CellView). Kept step start value_of s.words s.views) slots id m 0 (λ n. n) (λ _. Told m)
  peeks slots id m live s k homes at below =
      let log = k.keeps.log in
      let legal = k.keeps.legal in
      let here = at_map history_of s.views id m.0 at in (
        m.0,
        keeps,
        tt,
        subst (λ ws. Kept step start value_of ws (set s.views id m.0)) (sym (same_word s.words 0))
            (kept_views s.words s.views id m.0 m.0 k at (k.known id m.0 at) refl refl (subst (Legal log) (sym (set_again (map history_of s.views) id m.0.history here)) legal)),
        (refl, (log, sees log (map history_of s.views) id m.0.history legal here live)),
      )

  pub lends : (id : ℕ) (v : CellView) → v.history.live ≡ true → v.history.number ≡ 0 → Splits (λ (s : State (Unit {0}) CellView). Kept step start value_of s.words s.views) id v (cell_lender v) (cell_child v)
  lends id v live root s k at =
      let z : id ≡ 0 = sym (k.keeps.legal.each id v.history (at_map history_of s.views id v at) live).number ∙ root in
      subst (λ n. Kept step start value_of s.words (set s.views n (cell_lender v) ++ cell_child v ∷ [])) (sym z)
      (lent_kept s.words s.views v k (subst (λ n. get_elem? s.views n ≡ some v) z at) live)

  pub takes_back : (id : ℕ) (v : CellView) (other : ℕ) (w : CellView) → v.history.live ≡ true → v.history.number ≡ 0 → w.history.live ≡ true → w.waits ≡ false
      → Joins (λ (s : State (Unit {0}) CellView). Kept step start value_of s.words s.views) id v other w (cell_taker v w) cell_nobody
  takes_back id v other w live root alive idle s k at apart there =
      let z : id ≡ 0 = sym (k.keeps.legal.each id v.history (at_map history_of s.views id v at) live).number ∙ root in
      subst (λ n. Kept step start value_of s.words (set (set s.views n (cell_taker v w)) other cell_nobody)) (sym z)
      (taken_kept s.words s.views v other w k (subst (λ n. get_elem? s.views n ≡ some v) z at) live (λ q. apart (q ∙ sym z)) (subst (λ n. get_elem? (set s.views n (cell_taker v w)) other ≡ some w) z there) alive idle)

  pub opens : value_of 0 ≡ start → Kept step start value_of (0 ∷ 0 ∷ []) (opening_view ∷ [])
  opens zero_is = record {
    two = refl;
    keeps = record { log = []; runs = sym zero_is; legal = begins };
    counted = 0;
    count = refl;
    waits = refl;
    known = λ i v e. ⊎_elim (λ (q : get_elem? [] i ≡ some v). absurd (some-ne-none v (sym q))) (λ (q : opening_view ≡ v). subst (λ (x : CellView). x.known ≤ 0) q (le_refl 0)) (at_snoc [] opening_view v i e);
    spent = λ i v e. ⊎_elim (λ (q : get_elem? [] i ≡ some v). absurd (some-ne-none v (sym q))) (λ (q : opening_view ≡ v). subst (λ (x : CellView). x.history.live ≡ false → x.waits ≡ false) q (λ _. refl)) (at_snoc [] opening_view v i e);
  }
