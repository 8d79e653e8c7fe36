-- A round that finished, and calls that its root made after it.
use Rattle.std.proofs.Common.{◌≡◌, ℕ, ◌==◌, Bool, true, false, List, [], ◌∷◌, ◌++◌, length, set, refl, sym, ap, ◌∙◌, subst, inl, ⊎_elim, eq-eqb, ne_eqb}
use Rattle.std.proofs.Math.ListN.{length-set}
use Rattle.std.proofs.lemmas.List.{append-nil}
use mathlib.Core.Option.{some}
use lib.ListN.{get_elem?}
use Rattle.legal_history.specs.declared.history.Entry.{Entry}
use Rattle.legal_history.specs.declared.history.View.{View}
use Rattle.legal_history.specs.History.{calls, said, after, looked, Sees, Settled}
use Rattle.legal_history.specs.Order.{taken, IsOrder}
use Rattle.legal_history.specs.News.{calls_if}
use Rattle.legal_history.proofs.Lists.{calls-append}
use Rattle.cell_lanes.specs.Lines.{LaneText}
use Rattle.cell_lanes.specs.Calls.{StandAs, Found, Shows}
use Rattle.cell_lanes.specs.Lanes.{AllDone, Each, Finished, Grew, GrewWhole, all_calls_on, calls_on, none_later, later_on}
use Rattle.cell_lanes.proofs.Jobs.{all_calls}
use Rattle.cell_lanes.proofs.Lists.{each_set}
use Rattle.cell_lanes.proofs.Resting.{rests_after}

module _ {C : Type 0} where
  calls-said : (by : ℕ) (cs : List C) → calls (said by cs) ≡ cs
  calls-said by [] = refl
  calls-said by (c ∷ cs) = ap (λ l. c ∷ l) (calls-said by cs)

  -- what the root makes with no pass out stands behind all that it had seen
  pub calls_after : (v w : View C) (log : List (Entry C)) (cs : List C) → Sees v log → w ≡ after v log cs → v.number ≡ 0 → v.out ≡ 0 → calls w.seen ≡ calls v.seen ++ cs
  calls_after v w log cs sees is root none =
      ap (λ (x : View C). calls x.seen) is
      ∙ (calls-append log (said v.number cs) ∙ (ap (λ l. calls log ++ l) (calls-said v.number cs) ∙ ap (λ l. calls l ++ cs) (sees.whole root none).0))

  -- a look is a reading that stands as no call
  pub looked_is : (v : View C) (log : List (Entry C)) → looked v log ≡ after v log []
  looked_is v log j = record {
    number = v.number;
    live = v.live;
    seen = sym (append-nil log) j;
    mine = sym (append-nil v.mine) j;
    joined = v.joined;
    made = v.made;
    children = v.children;
    out = v.out;
  }

  pub shown_found : {R : Type 0} (value_of : List C → R) (v : View C) (reading : R) (w : View C) → Shows value_of v reading w → Found [] v w
  shown_found value_of v reading w s = (s.0, s.1, inl (s.3 ∙ looked_is v s.0))

  -- what a root with no pass out reads leaves it at rest, behind all that it had seen
  pub found_rests : (made : List C) (v w : View C) → Found made v w → v.number ≡ 0 → v.out ≡ 0 → Settled v → (w.number ≡ 0) × (w.out ≡ 0) × Settled w
  found_rests made v w f root none settled = ⊎_elim
      (λ (is : w ≡ after v f.0 made). rests_after v w f.0 made f.1 is root none)
      (λ (q : (made ≡ []) × (w ≡ v)). subst (λ (x : View C). (x.number ≡ 0) × (x.out ≡ 0) × Settled x) (sym q.1) (root, none, settled))
      f.2

  pub found_calls : (made : List C) (v w : View C) → Found made v w → v.number ≡ 0 → v.out ≡ 0 → calls w.seen ≡ calls v.seen ++ made
  found_calls made v w f root none = ⊎_elim
      (λ (is : w ≡ after v f.0 made). calls_after v w f.0 made f.1 is root none)
      (λ (q : (made ≡ []) × (w ≡ v)). ap (λ (x : View C). calls x.seen) q.1 ∙ (sym (append-nil (calls v.seen)) ∙ ap (λ l. calls v.seen ++ l) (sym q.0)))
      f.2

  if_none : (b : Bool) → calls_if {C = C} b [] [] ≡ []
  if_none true = refl
  if_none false = refl

  -- no call on one thing is none on any
  pub later_none : (i : ℕ) → later_on {M = C} i [] ≡ none_later
  later_none i k j = if_none (j == i) k

module _ {S K M : Type 0} (root : S → View M) (stands : K → List M → Type 0) (lanes : List (LaneText K)) (done : ℕ → ℕ) (all : AllDone lanes done) where
  -- a history that grew by all calls of the lanes, and then by others
  grew_whole : (later : ℕ → List M) (j : ℕ) (c d e : S) → calls (root e).seen ≡ calls (root d).seen ++ later j → Grew root stands lanes done j c d → GrewWhole root stands lanes later j c e
  grew_whole later j c d e more grew = (
    grew.0,
    (λ l. subst (λ asked. StandAs stands asked (grew.0 l)) (all_calls j lanes done l all) (grew.1 l)),
    grew.2.0,
    grew.2.1,
    more ∙ ap (λ l. l ++ later j) grew.2.2,
  )

  -- nothing came after the round but a look at one thing
  pub finished_looked : (cs ds : List S) (i : ℕ) (d e : S) → get_elem? ds i ≡ some d → root e ≡ root d → length ds ≡ length cs → Each (Grew root stands lanes done) cs ds → Finished root stands lanes none_later cs (set ds i e)
  finished_looked cs ds i d e at same many grew = record {
    many = length-set ds i e ∙ many;
    grew = each_set (Grew root stands lanes done) (GrewWhole root stands lanes none_later) cs ds i d e at
        (λ j a b ne g. grew_whole none_later j a b b (sym (append-nil (calls (root b).seen))) g)
        (λ a g. grew_whole none_later i a d e (ap (λ (v : View M). calls v.seen) same ∙ sym (append-nil (calls (root d).seen))) g) grew;
  }

  -- the root of one thing made these calls after the round
  pub finished_made : (cs ds : List S) (i : ℕ) (d e : S) (made : List M) → get_elem? ds i ≡ some d → calls (root e).seen ≡ calls (root d).seen ++ made → length ds ≡ length cs → Each (Grew root stands lanes done) cs ds
      → Finished root stands lanes (later_on i made) cs (set ds i e)
  finished_made cs ds i d e made at more many grew =
      let later : ℕ → List M = later_on i made in
      record {
        many = length-set ds i e ∙ many;
        grew = each_set (Grew root stands lanes done) (GrewWhole root stands lanes later) cs ds i d e at
            (λ j a b ne g. grew_whole later j a b b (sym (append-nil (calls (root b).seen)) ∙ ap (λ t. calls (root b).seen ++ calls_if t made []) (sym (ne_eqb j i ne))) g)
            (λ a g. grew_whole later i a d e (more ∙ ap (λ t. calls (root d).seen ++ calls_if t made []) (sym (eq-eqb i i refl))) g) grew;
      }

-- where each call stands as itself
stand_itself : {K : Type 0} (ks ms : List K) → StandAs (λ k made. made ≡ k ∷ []) ks ms → ms ≡ ks
stand_itself [] ms e = e
stand_itself (k ∷ ks) ms s = s.4 ∙ (ap (λ l. l ++ s.1) s.2 ∙ ap (λ l. k ∷ l) (stand_itself ks s.1 s.3))

-- the calls of a round in which all lanes made all their calls
pub round_calls : {S K : Type 0} (root : S → View K) (ls : List (LaneText K)) (done : ℕ → ℕ) (j : ℕ) (c d : S) → AllDone ls done → Grew root (λ k made. made ≡ k ∷ []) ls done j c d
    → (order : List ℕ) × IsOrder order (λ l. all_calls_on j ls l) × (calls (root d).seen ≡ calls (root c).seen ++ taken order (λ l. all_calls_on j ls l))
round_calls {K = K} root ls done j c d all grew =
    let same : grew.0 ≡ (λ l. all_calls_on j ls l) = λ i l. (stand_itself (calls_on j ls done l) (grew.0 l) (grew.1 l) ∙ all_calls j ls done l all) i in
    (grew.2.0, subst (IsOrder grew.2.0) same grew.2.1, grew.2.2 ∙ ap (λ (lists : ℕ → List K). calls (root c).seen ++ taken grew.2.0 lists) same)
