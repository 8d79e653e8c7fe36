-- What the calls of a lane do to its passes.
use Rattle.std.proofs.Common.{◌≡◌, ◌≢◌, ℕ, zero, suc, ◌+◌, ◌<◌, List, [], ◌∷◌, ◌++◌, length, take, set, refl, sym, ap, ◌∙◌, subst, inl, inr, ⊎_elim, arith, eq-eqb, ne_eqb, append_assoc}
use Rattle.std.proofs.Math.ListN.{length-set}
use Rattle.std.specs.Prelude.{Some, None}
use Rattle.std.proofs.lemmas.Option.{IfSome_then}
use Rattle.std.proofs.lemmas.List.{append-nil}
use mathlib.Core.Option.{some, some-ne-none, some-injective}
use lib.ListN.{get_elem?}
use Rattle.atomic_table.proofs.Lists.{at_set}
use Rattle.legal_history.specs.declared.history.View.{View}
use Rattle.legal_history.specs.History.{keep}
use Rattle.legal_history.specs.Order.{times}
use Rattle.legal_history.proofs.Lists.{keep-append}
use Rattle.legal_history.proofs.Steps.{one_at, some_below}
use Rattle.cell_lanes.specs.declared.lane.Line.{Line}
use Rattle.cell_lanes.specs.Lines.{LaneText}
use Rattle.cell_lanes.specs.declared.lane.Slot.{Slot}
use Rattle.cell_lanes.specs.declared.lane.Job.{Job}
use Rattle.cell_lanes.specs.Calls.{Made, StandAs}
use Rattle.cell_lanes.specs.Lanes.{Owns, SlotsFit, lent_on, slot_calls, is_through, cells_of, HasSlot, SlotsKept, LineTaken, Fresh, SlotsMade, LineMade, NoneMade, Each, Lends, Stays, AllTaken, LaneReady, LaneRan, JobRan, JobsFit, JobsFresh, JobsRan, Fit}
use Rattle.cell_lanes.proofs.Lists.{below_some}

pub take_none : {A : Type 0} (xs : List A) → take 0 xs ≡ []
take_none [] = refl
take_none (x ∷ xs) = refl

-- one more
stand_more : {K M : Type 0} (stands : K → List M → Type 0) (ks : List K) (k : K) (cs ds : List M) → StandAs stands ks cs → stands k ds → StandAs stands (ks ++ k ∷ []) (cs ++ ds)
stand_more stands [] k cs ds all one = (ds, [], one, refl, ap (λ l. l ++ ds) all ∙ sym (append-nil ds))
stand_more stands (x ∷ xs) k cs ds all one = (all.0, all.1 ++ ds, all.2, stand_more stands xs k all.1 ds all.3 one, ap (λ l. l ++ ds) all.4 ∙ append_assoc all.0 all.1 ds)

slot_one : {K : Type 0} (s : ℕ) (xs : List (Line K)) (x : Line K) → slot_calls s (xs ++ x ∷ []) ≡ slot_calls s xs ++ keep (is_through s x.slot) x.call []
slot_one s [] x = refl
slot_one s (y ∷ ys) x = ap (keep (is_through s y.slot) y.call) (slot_one s ys x) ∙ keep-append (is_through s y.slot) y.call (slot_calls s ys) (keep (is_through s x.slot) x.call [])

module _ {K : Type 0} (s : ℕ) (xs : List (Line K)) (x : Line K) where
  slot_same : (i : ℕ) → x.slot ≡ Some i → i ≡ s → slot_calls s (xs ++ x ∷ []) ≡ slot_calls s xs ++ x.call ∷ []
  slot_same i at e = slot_one s xs x ∙ ap (λ b. slot_calls s xs ++ keep b x.call []) (ap (is_through s) at ∙ eq-eqb i s e)

  slot_other : (i : ℕ) → x.slot ≡ Some i → i ≢ s → slot_calls s (xs ++ x ∷ []) ≡ slot_calls s xs
  slot_other i at ne = slot_one s xs x ∙ (ap (λ b. slot_calls s xs ++ keep b x.call []) (ap (is_through s) at ∙ ne_eqb i s ne) ∙ append-nil (slot_calls s xs))

  slot_none : x.slot ≡ None → slot_calls s (xs ++ x ∷ []) ≡ slot_calls s xs
  slot_none at = slot_one s xs x ∙ (ap (λ b. slot_calls s xs ++ keep b x.call []) (ap (is_through s) at) ∙ append-nil (slot_calls s xs))

pub cells_length : {L : Type 0} (xs : List (Slot L)) → length (cells_of xs) ≡ length xs
cells_length [] = refl
cells_length (x ∷ xs) = ap suc (cells_length xs)

module _ {S L : Type 0} (owns : S → L → Type 0) where
  pub kept_none : (xs : List (Slot L)) → SlotsKept owns xs xs
  kept_none xs = (refl, λ s x y e f. let same = one_at xs s x y e f in (ap (λ (z : Slot L). z.cell) (sym same), λ c h. subst (λ (z : Slot L). owns c z.lent) same h))

  pub kept_set : (xs ys : List (Slot L)) (i : ℕ) (y z : Slot L) → get_elem? ys i ≡ some y → z.cell ≡ y.cell → ((c : S) → owns c y.lent → owns c z.lent) → SlotsKept owns xs ys → SlotsKept owns xs (set ys i z)
  kept_set xs ys i y z at cell own all = (
    length-set ys i z ∙ all.0,
    λ s x u e f. ⊎_elim
        (λ (t : (s ≡ i) × (z ≡ u)).
        let old = all.1 s x y e (subst (λ n. get_elem? ys n ≡ some y) (sym t.0) at) in
        subst (λ (k : Slot L). (k.cell ≡ x.cell) × ((c : S) → owns c x.lent → owns c k.lent)) t.1 (cell ∙ old.0, λ c h. own c (old.1 c h)))
        (λ (t : (s ≢ i) × (get_elem? ys s ≡ some u)). all.1 s x u e t.1)
        (at_set ys i s z u f),
  )

  pub kept_then : (xs ys zs : List (Slot L)) → SlotsKept owns xs ys → SlotsKept owns ys zs → SlotsKept owns xs zs
  kept_then xs ys zs a b = (
    b.0 ∙ a.0,
    λ s x z e g.
        let y = below_some ys s (let n = some_below xs s x e in let m = a.0 in omega arith) in
        let p = a.1 s x y.0 e y.1 in
        let q = b.1 s y.0 z y.1 g in
        (q.0 ∙ p.0, λ c h. q.1 c (p.1 c h)),
  )

  -- the cells stay
  pub cells_kept : (xs ys : List (Slot L)) → SlotsKept owns xs ys → cells_of ys ≡ cells_of xs
  cells_kept xs ys kept = go xs ys kept.0 (λ s x y e f. (kept.1 s x y e f).0)
    where
      go : (xs ys : List (Slot L)) → length ys ≡ length xs → ((s : ℕ) (x y : Slot L) → get_elem? xs s ≡ some x → get_elem? ys s ≡ some y → y.cell ≡ x.cell) → cells_of ys ≡ cells_of xs
      go [] [] len same = refl
      go [] (y ∷ ys) len same = absurd (omega arith)
      go (x ∷ xs) [] len same = absurd (omega arith)
      go (x ∷ xs) (y ∷ ys) len same = λ k. same 0 x y refl refl k ∷ go xs ys (omega arith) (λ s. same (suc s)) k

-- what the slots hold takes the call of a line as before
pub taken_still : {F L K : Type 0} (owns : F → L → Type 0) (takes : F → K → Type 0) (xs ys : List (Slot L)) (line : Line K) → SlotsKept owns xs ys → LineTaken owns takes xs line → LineTaken owns takes ys line
taken_still owns takes xs ys line kept taken = IfSome_then line.slot taken (λ s t y e.
    let x = below_some xs s (let n = some_below ys s y e in let m = kept.0 in omega arith) in
    let f = t x.0 x.1 in
    (f.0, (kept.1 s x.0 y x.1 e).1 f.0 f.1, f.2))

module _ {L M K : Type 0} (knows : L → View M) (stands : K → List M → Type 0) where
  pub made_more : (slots : List (Slot L)) (line : Line K) (i : ℕ) (y z : Slot L) → line.slot ≡ Some i → get_elem? slots i ≡ some y → Made (stands line.call) (knows y.lent) (knows z.lent)
      → LineMade knows stands line slots (set slots i z)
  made_more slots line i y z on at made lines all s x e = ⊎_elim
      (λ (t : (s ≡ i) × (z ≡ x)).
      let old = all s y (subst (λ n. get_elem? slots n ≡ some y) (sym t.0) at) in
      let mine : (knows y.lent).mine ++ made.0 ≡ (knows x.lent).mine = sym (ap (λ (v : View M). v.mine) made.2.2) ∙ ap (λ (k : Slot L). (knows k.lent).mine) t.1 in
      subst (StandAs stands (slot_calls s (lines ++ line ∷ []))) mine
      (subst (λ ks. StandAs stands ks ((knows y.lent).mine ++ made.0)) (sym (slot_same s lines line i on (sym t.0)))
      (stand_more stands (slot_calls s lines) line.call (knows y.lent).mine made.0 old made.1)))
      (λ (t : (s ≢ i) × (get_elem? slots s ≡ some x)).
      subst (λ ks. StandAs stands ks (knows x.lent).mine) (sym (slot_other s lines line i on (λ q. t.0 (sym q)))) (all s x t.1))
      (at_set slots i s z x e)

  -- a line on no thing
  pub made_past : (slots : List (Slot L)) (line : Line K) → line.slot ≡ None → LineMade knows stands line slots slots
  made_past slots line on lines all s x e = subst (λ ks. StandAs stands ks (knows x.lent).mine) (sym (slot_none s lines line on)) (all s x e)

  -- a refused call leaves what was made
  pub made_same : (slots : List (Slot L)) (i : ℕ) (y z : Slot L) → get_elem? slots i ≡ some y → knows z.lent ≡ knows y.lent → NoneMade knows stands slots (set slots i z)
  made_same slots i y z at same lines all s x e = ⊎_elim
      (λ (t : (s ≡ i) × (z ≡ x)).
      subst (λ (k : Slot L). StandAs stands (slot_calls s lines) (knows k.lent).mine) t.1
      (subst (λ (v : View M). StandAs stands (slot_calls s lines) v.mine) (sym same) (all s y (subst (λ n. get_elem? slots n ≡ some y) (sym t.0) at))))
      (λ (t : (s ≢ i) × (get_elem? slots s ≡ some x)). all s x t.1)
      (at_set slots i s z x e)

  -- no call
  pub made_none : (lines : List (Line K)) (slots : List (Slot L)) → lines ≡ [] → Fresh knows slots → SlotsMade knows stands lines slots
  made_none lines slots none fresh = subst (λ l. SlotsMade knows stands l slots) (sym none) (λ s x e. fresh s x e)

  -- a lane that has run
  pub job_ran : {S : Type 0} (owns : S → L → Type 0) (a : LaneText K) (x y : Job L) → cells_of x.slots.items ≡ a.cells → SlotsKept owns x.slots.items y.slots.items → SlotsMade knows stands (take y.done a.lines) y.slots.items → JobRan knows stands a y
  job_ran owns a x y whole kept made =
      let same : cells_of y.slots.items ≡ a.cells = cells_kept owns x.slots.items y.slots.items kept ∙ whole in
      record {
        some_cells = same ∙ sym (Rattle.cell_lanes.proofs.Lists.take_whole a.cells (length y.slots.items) (let n = ap length same in let m = cells_length y.slots.items in omega arith));
        whole = inr same;
        made = made;
      }

  -- a lane that has not
  pub job_fresh : (a : LaneText K) (x : Job L) → (cells_of x.slots.items ≡ take (length x.slots.items) a.cells) × Fresh knows x.slots.items × (x.done ≡ 0) → JobRan knows stands a x
  job_fresh a x f = record { some_cells = f.0; whole = inl f.2; made = made_none (take x.done a.lines) x.slots.items (ap (λ n. take n a.lines) f.2 ∙ take_none a.lines) f.1 }

  pub jobs_fresh : (ls : List (LaneText K)) (jobs : List (Job L)) → JobsFresh knows ls jobs → JobsRan knows stands ls jobs
  jobs_fresh ls jobs all l a x e f = job_fresh a x (all l a x e f)

-- jobs whose lanes have run hold passes of the same cells
module _ {L : Type 0} where
  pub lent_kept : (j : ℕ) (xs ys : List (Job L)) → length ys ≡ length xs → ((l : ℕ) (x y : Job L) → get_elem? xs l ≡ some x → get_elem? ys l ≡ some y → cells_of y.slots.items ≡ cells_of x.slots.items) → lent_on j ys ≡ lent_on j xs
  lent_kept j [] [] len same = refl
  lent_kept j [] (y ∷ ys) len same = absurd (omega arith)
  lent_kept j (x ∷ xs) [] len same = absurd (omega arith)
  lent_kept j (x ∷ xs) (y ∷ ys) len same = λ k. times j (same 0 x y refl refl k) + lent_kept j xs ys (omega arith) (λ l. same (suc l)) k

  pub fits_kept : {S F : Type 0} (fixed : S → F) (owns : F → L → Type 0) (cs : List S) (xs ys : List (Slot L)) → SlotsKept owns xs ys → SlotsFit (Owns fixed owns) cs xs → SlotsFit (Owns fixed owns) cs ys
  fits_kept fixed owns cs xs ys kept fit s y e =
      let x = below_some xs s (let b = some_below ys s y e in let n = kept.0 in omega arith) in
      let k = kept.1 s x.0 y x.1 e in
      let f = fit s x.0 x.1 in
      (subst (λ n. n < length cs) (sym k.0) f.0, λ c at. k.1 (fixed c) (f.1 c (subst (λ n. get_elem? cs n ≡ some c) k.0 at)))

cell_here : {L : Type 0} (xs : List (Slot L)) (s : ℕ) (y : Slot L) → get_elem? xs s ≡ some y → get_elem? (cells_of xs) s ≡ some y.cell
cell_here [] s y e = absurd (some-ne-none y (sym e))
cell_here (x ∷ xs) zero y e = ap (λ (z : Slot _). some z.cell) (some-injective x y e)
cell_here (x ∷ xs) (suc s) y e = cell_here xs s y e

-- a lane that has a pass for each cell that it names is ready
pub ready : {S F L M K : Type 0} (root : S → View M) (lasts : F → F → Type 0) (fixed : S → F) (knows : L → View M) (owns : F → L → Type 0) (takes : F → K → Type 0)
    → ((f g : F) (call : K) → lasts f g → takes f call → takes g call)
    → (n : ℕ → ℕ) (cs ds : List S) (ls : List (LaneText K)) (l : ℕ) (a : LaneText K) (x : Job L)
    → get_elem? ls l ≡ some a → length ds ≡ length cs → Each (λ j. Lends root (Stays lasts fixed) (n j)) cs ds → Fit (length cs) a → AllTaken fixed takes cs ls → Fresh knows x.slots.items → cells_of x.slots.items ≡ a.cells → SlotsFit (Owns fixed owns) ds x.slots.items
    → LaneReady knows owns takes a x
ready {S} root lasts fixed knows owns takes on n cs ds ls l a x at len lends fit taken fresh full slots = (
  fresh,
  (λ k line e. subst (λ n. HasSlot n line) (sym (ap length full) ∙ cells_length x.slots.items) (fit.lines k line e)),
  (λ k line e. IfSome_then line.slot (taken l a k line at e) (λ s takes_it y f.
      let g = slots s y f in
      let d = below_some ds y.cell g.0 in
      let c = below_some cs y.cell (let b = g.0 in omega arith) in (
        fixed d.0,
        g.1 d.0 d.1,
        on (fixed c.0) (fixed d.0) line.call (lends y.cell c.0 d.0 c.1 d.1).kept
            (takes_it y.cell c.0 (subst (λ ns. get_elem? ns s ≡ some y.cell) full (cell_here x.slots.items s y f)) c.1),
      ))),
)

-- the jobs of lanes that have all run
module _ {S L M K : Type 0} (knows : L → View M) (stands : K → List M → Type 0) (owns : S → L → Type 0) (ls : List (LaneText K)) (xs ys : List (Job L)) (len : length ys ≡ length xs) (many : length xs ≡ length ls)
    (full : (l : ℕ) (a : LaneText K) (x : Job L) → get_elem? ls l ≡ some a → get_elem? xs l ≡ some x → cells_of x.slots.items ≡ a.cells)
    (ran : (l : ℕ) (a : LaneText K) (x y : Job L) → get_elem? ls l ≡ some a → get_elem? xs l ≡ some x → get_elem? ys l ≡ some y → LaneRan knows stands owns a x y) where
  ran_kept : (l : ℕ) (x y : Job L) → get_elem? xs l ≡ some x → get_elem? ys l ≡ some y → SlotsKept owns x.slots.items y.slots.items
  ran_kept l x y e f = let a = below_some ls l (let b = some_below xs l x e in omega arith) in (ran l a.0 x y a.1 e f).0

  pub ran_lent : (j : ℕ) → lent_on j ys ≡ lent_on j xs
  ran_lent j = lent_kept j xs ys len (λ l x y e f. cells_kept owns x.slots.items y.slots.items (ran_kept l x y e f))

  pub ran_jobs : JobsRan knows stands ls ys
  ran_jobs l a y e f =
      let x = below_some xs l (let b = some_below ys l y f in omega arith) in
      let r = ran l a x.0 y e x.1 f in
      job_ran knows stands owns a x.0 y (full l a x.0 e x.1) r.0 r.1

module _ {S F L M K : Type 0} (fixed : S → F) (knows : L → View M) (stands : K → List M → Type 0) (owns : F → L → Type 0) (ls : List (LaneText K)) (xs ys : List (Job L)) (len : length ys ≡ length xs) (many : length xs ≡ length ls)
    (ran : (l : ℕ) (a : LaneText K) (x y : Job L) → get_elem? ls l ≡ some a → get_elem? xs l ≡ some x → get_elem? ys l ≡ some y → LaneRan knows stands owns a x y) where
  pub ran_fit : (cs : List S) → JobsFit (Owns fixed owns) cs xs → JobsFit (Owns fixed owns) cs ys
  ran_fit cs fit l y f =
      let x = below_some xs l (let b = some_below ys l y f in omega arith) in
      let a = below_some ls l (let b = some_below ys l y f in omega arith) in
      fits_kept fixed owns cs x.0.slots.items y.slots.items (ran l a.0 x.0 y a.1 x.1 f).0 (fit l x.0 x.1)
