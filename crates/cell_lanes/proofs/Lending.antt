-- What lending does to the roots, and what the lanes then have.
use Rattle.std.proofs.Common.{◌≡◌, ℕ, ◌+◌, ◌<◌, ◌==◌, List, [], ◌∷◌, ◌++◌, length, take, set, refl, sym, ap, ◌∙◌, subst, ⊎_elim, arith, eq-eqb, ne_eqb}
use mathlib.Core.Option.{some}
use lib.ListN.{get_elem?}
use Rattle.atomic_table.proofs.Lists.{at_snoc}
use Rattle.legal_history.specs.declared.history.View.{View}
use Rattle.legal_history.specs.History.{lender}
use Rattle.legal_history.specs.Order.{flag, times}
use Rattle.legal_history.proofs.Steps.{some_below, one_at, at_snoc_index}
use Rattle.cell_lanes.specs.Lines.{LaneText}
use Rattle.cell_lanes.specs.declared.lane.Slot.{Slot}
use Rattle.cell_lanes.specs.declared.lane.Job.{Job}
use Rattle.cell_lanes.specs.Lanes.{Each, Roots, Stays, Owns, Lends, cells_of, SlotsFit, Fresh, JobsFit, JobsFresh, lent_on}
use Rattle.cell_lanes.proofs.Lists.{below_some, each_same, each_set, each_then, each_to}

pub times_one : (j : ℕ) (xs : List ℕ) (t : ℕ) → times j (xs ++ t ∷ []) ≡ times j xs + flag (t == j)
times_one j [] t = omega arith
times_one j (x ∷ xs) t = let h = times_one j xs t in omega arith

module _ {S F : Type 0} (lasts : F → F → Type 0) (fixed : S → F) where
  pub stays_none : ((f : F) → lasts f f) → (c : S) → Stays lasts fixed c c
  stays_none on c = on (fixed c)

  pub stays_then : ((f g h : F) → lasts f g → lasts g h → lasts f h) → (c d e : S) → Stays lasts fixed c d → Stays lasts fixed d e → Stays lasts fixed c e
  stays_then then c d e p q = then (fixed c) (fixed d) (fixed e) p q

  pub owned : {L : Type 0} (owns : F → L → Type 0) → ((f g : F) (x : L) → lasts f g → owns f x → owns g x) → (c d : S) (x : L) → Stays lasts fixed c d → Owns fixed owns c x → Owns fixed owns d x
  owned owns on c d x p h = on (fixed c) (fixed d) x p h

module _ {L : Type 0} where
  pub cells_one : (xs : List (Slot L)) (x : Slot L) → cells_of (xs ++ x ∷ []) ≡ cells_of xs ++ x.cell ∷ []
  cells_one [] x = refl
  cells_one (y ∷ ys) x = ap (λ l. y.cell ∷ l) (cells_one ys x)

  lent_one : (j : ℕ) (xs : List (Job L)) (x : Job L) → lent_on j (xs ++ x ∷ []) ≡ lent_on j xs + times j (cells_of x.slots.items)
  lent_one j [] x = omega arith
  lent_one j (y ∷ ys) x = let h = lent_one j ys x in omega arith

module _ {S M : Type 0} (root : S → View M) (stays : S → S → Type 0) (stays_none : (c : S) → stays c c) (stays_then : (c d e : S) → stays c d → stays d e → stays c e) where
  pub lends_none : (c : S) → Lends root stays 0 c c
  lends_none c = record { kept = stays_none c; number = refl; mine = refl; joined = refl; seen = refl; out = omega arith }

  lends_both : (m n : ℕ) (c d e : S) → Lends root stays m c d → Lends root stays n d e → Lends root stays (m + n) c e
  lends_both m n c d e a b = record {
    kept = stays_then c d e a.kept b.kept;
    number = b.number ∙ a.number;
    mine = b.mine ∙ a.mine;
    joined = b.joined ∙ a.joined;
    seen = b.seen ∙ a.seen;
    out = let x = a.out in let y = b.out in omega arith;
  }

  -- one is lent
  lends_one : (c d : S) → root d ≡ lender (root c) → stays c d → Lends root stays 1 c d
  lends_one c d is kept = record {
    kept = kept;
    number = ap (λ (v : View M). v.number) is;
    mine = ap (λ (v : View M). v.mine) is;
    joined = ap (λ (v : View M). v.joined) is;
    seen = ap (λ (v : View M). v.seen) is;
    out = ap (λ (v : View M). v.out) is;
  }

  -- lending was refused
  lends_refused : (c d : S) → root d ≡ root c → stays c d → Lends root stays 0 c d
  lends_refused c d is kept = record {
    kept = kept;
    number = ap (λ (v : View M). v.number) is;
    mine = ap (λ (v : View M). v.mine) is;
    joined = ap (λ (v : View M). v.joined) is;
    seen = ap (λ (v : View M). v.seen) is;
    out = ap (λ (v : View M). v.out) is ∙ omega arith;
  }

  pub lends_more : (cs ds : List S) (named : List ℕ) (t : ℕ) (q r : S) → get_elem? ds t ≡ some q → root r ≡ lender (root q) → stays q r
      → Each (λ j. Lends root stays (times j named)) cs ds → Each (λ j. Lends root stays (times j (named ++ t ∷ []))) cs (set ds t r)
  lends_more cs ds named t q r at is kept = each_set (λ j. Lends root stays (times j named)) (λ j. Lends root stays (times j (named ++ t ∷ []))) cs ds t q r at
      (λ j c d ne h.
      let z : flag (t == j) ≡ 0 = ap flag (ne_eqb t j (λ e. ne (sym e))) in
      subst (λ n. Lends root stays n c d) (let e = times_one j named t in omega arith) h)
      (λ c h.
      let one : flag (t == t) ≡ 1 = ap flag (eq-eqb t t refl) in
      subst (λ n. Lends root stays n c r) (let e = times_one t named t in omega arith) (lends_both (times t named) 1 c q r h (lends_one q r is kept)))

  pub lends_same : (cs ds : List S) (named : List ℕ) (t : ℕ) (q r : S) → get_elem? ds t ≡ some q → root r ≡ root q → stays q r
      → Each (λ j. Lends root stays (times j named)) cs ds → Each (λ j. Lends root stays (times j named)) cs (set ds t r)
  lends_same cs ds named t q r at is kept = each_set (λ j. Lends root stays (times j named)) (λ j. Lends root stays (times j named)) cs ds t q r at
      (λ j c d ne h. h)
      (λ c h. subst (λ n. Lends root stays n c r) (omega arith) (lends_both (times t named) 0 c q r h (lends_refused q r is kept)))

  -- all roots stay roots
  pub roots_lent : (m : ℕ → ℕ) (cs ds : List S) → length ds ≡ length cs → Each (λ j. Lends root stays (m j)) cs ds → Roots root cs → Roots root ds
  roots_lent m cs ds len lends = each_to (λ j. Lends root stays (m j)) (λ c. (root c).number ≡ 0) (λ c. (root c).number ≡ 0) cs ds len (λ j c d h z. h.number ∙ z) lends

  -- one more lane
  pub lends_lane : {L : Type 0} (cs ds es : List S) (jobs : List (Job L)) (job : Job L) → length ds ≡ length cs → Each (λ j. Lends root stays (lent_on j jobs)) cs ds → Each (λ j. Lends root stays (times j (cells_of job.slots.items))) ds es
      → Each (λ j. Lends root stays (lent_on j (jobs ++ job ∷ []))) cs es
  lends_lane cs ds es jobs job len = each_then (λ j. Lends root stays (lent_on j jobs)) (λ j. Lends root stays (times j (cells_of job.slots.items))) (λ j. Lends root stays (lent_on j (jobs ++ job ∷ []))) cs ds es len
      (λ j c d e a b. subst (λ n. Lends root stays n c e) (sym (lent_one j jobs job)) (lends_both (lent_on j jobs) (times j (cells_of job.slots.items)) c d e a b))

module _ {S L : Type 0} (stays : S → S → Type 0) (stays_none : (c : S) → stays c c) (stays_then : (c d e : S) → stays c d → stays d e → stays c e) (owns : S → L → Type 0) (owned : (c d : S) (x : L) → stays c d → owns c x → owns d x) where
  -- what is lent stays lent
  pub fit_each : (R : ℕ → S → S → Type 0) (cs ds : List S) (slots : List (Slot L)) → length ds ≡ length cs → ((j : ℕ) (c d : S) → R j c d → stays c d) → Each R cs ds → SlotsFit owns cs slots → SlotsFit owns ds slots
  fit_each R cs ds slots len kept each all s x e =
      let f = all s x e in
      let below : x.cell < length cs = f.0 in
      let c = below_some cs x.cell below in
      (omega arith, λ d at. owned c.0 d x.lent (kept x.cell c.0 d (each x.cell c.0 d c.1 at)) (f.1 c.0 c.1))

  pub fit_set : (cs : List S) (slots : List (Slot L)) (t : ℕ) (q r : S) → get_elem? cs t ≡ some q → stays q r → SlotsFit owns cs slots → SlotsFit owns (set cs t r) slots
  fit_set cs slots t q r at kept = fit_each (λ j. stays) cs (set cs t r) slots (Rattle.std.proofs.Math.ListN.length-set cs t r) (λ j c d h. h)
      (each_set (λ j. stays) (λ j. stays) cs cs t q r at (λ j c d ne h. h) (λ c h. stays_then c q r h kept) (each_same (λ j. stays) cs (λ j c. stays_none c)))

  pub fit_one : (cs : List S) (slots : List (Slot L)) (x : Slot L) (c : S) → get_elem? cs x.cell ≡ some c → owns c x.lent → SlotsFit owns cs slots → SlotsFit owns cs (slots ++ x ∷ [])
  fit_one cs slots x c at is all s y e = ⊎_elim (all s y)
      (λ (q : x ≡ y). subst (λ (z : Slot L). (z.cell < length cs) × ((d : S) → get_elem? cs z.cell ≡ some d → owns d z.lent)) q
      (some_below cs x.cell c at, (λ d f. subst (λ (z : S). owns z x.lent) (one_at cs x.cell c d at f) is)))
      (at_snoc slots x y s e)

  pub jobs_fit_each : {M : Type 0} (root : S → View M) (n : ℕ → ℕ) (cs ds : List S) (jobs : List (Job L)) → length ds ≡ length cs → Each (λ j. Lends root stays (n j)) cs ds → JobsFit owns cs jobs → JobsFit owns ds jobs
  jobs_fit_each root n cs ds jobs len each all l x e = fit_each (λ j. Lends root stays (n j)) cs ds x.slots.items len (λ j c d h. h.kept) each (all l x e)

  pub jobs_fit_one : (cs : List S) (jobs : List (Job L)) (job : Job L) → JobsFit owns cs jobs → SlotsFit owns cs job.slots.items → JobsFit owns cs (jobs ++ job ∷ [])
  jobs_fit_one cs jobs job all one l x e = ⊎_elim (all l x) (λ (q : job ≡ x). subst (λ (y : Job L). SlotsFit owns cs y.slots.items) q one) (at_snoc jobs job x l e)

module _ {L M : Type 0} (knows : L → View M) where
  pub fresh_one : (slots : List (Slot L)) (x : Slot L) → (knows x.lent).mine ≡ [] → Fresh knows slots → Fresh knows (slots ++ x ∷ [])
  fresh_one slots x none all s y e = ⊎_elim (all s y) (λ (q : x ≡ y). subst (λ (z : Slot L). (knows z.lent).mine ≡ []) q none) (at_snoc slots x y s e)

  pub jobs_fresh_one : {K : Type 0} (ls : List (LaneText K)) (jobs : List (Job L)) (job : Job L) (a : LaneText K) → get_elem? ls (length jobs) ≡ some a → cells_of job.slots.items ≡ take (length job.slots.items) a.cells → Fresh knows job.slots.items → job.done ≡ 0
      → JobsFresh knows ls jobs → JobsFresh knows ls (jobs ++ job ∷ [])
  jobs_fresh_one {K} ls jobs job a at is fresh none all l b x e f = ⊎_elim
      (λ (q : get_elem? jobs l ≡ some x). all l b x e q)
      (λ (q : (l ≡ length jobs) × (job ≡ x)).
      let same : a ≡ b = one_at ls (length jobs) a b at (subst (λ n. get_elem? ls n ≡ some b) q.0 e) in
      subst (λ (p : LaneText K × Job L). (cells_of p.1.slots.items ≡ take (length p.1.slots.items) p.0.cells) × Fresh knows p.1.slots.items × (p.1.done ≡ 0)) (λ k. (same k, q.1 k)) (is, fresh, none))
      (at_snoc_index jobs job x l f)
