-- A root with no pass out stays at rest when it makes a call of its own.
use Rattle.std.proofs.Common.{◌≡◌, ◌≢◌, ℕ, List, [], ◌∷◌, ◌++◌, set, sym, ap, ◌∙◌, subst, inl, inr, ⊎_elim}
use mathlib.Core.Option.{some}
use mathlib.Core.Logic.{dite, ◌⊎◌}
use native.Mathlib.Decide.{ℕ_discrete}
use lib.ListN.{get_elem?}
use Rattle.atomic_table.proofs.Lists.{at_set}
use Rattle.legal_history.specs.declared.history.Entry.{Entry}
use Rattle.legal_history.specs.declared.history.Held.{Held}
use Rattle.legal_history.specs.declared.history.View.{View}
use Rattle.legal_history.specs.History.{In, Distinct, Among, Joined, after, calls_by, numbers, said, Sees, Settled}
use Rattle.legal_history.proofs.Steps.{others_stay, own_grow}
use Rattle.cell_lanes.specs.Lanes.{AtRest, Roots}

module _ {C : Type 0} where
  among_number : (h : Held C) (hs : List (Held C)) → Among h hs → In h.by (numbers hs)
  among_number h [] q = absurd q
  among_number h (x ∷ hs) q = ⊎_elim (λ (e : h ≡ x). inl (ap (λ (k : Held C). k.by) e)) (λ (r : Among h hs). inr (among_number h hs r)) q

  -- one root knows whose each call is where another does that has seen and has made the same, and to which the same was given back
  pub settled_as : (v w : View C) → w.seen ≡ v.seen → w.mine ≡ v.mine → w.joined ≡ v.joined → Settled v → Settled w
  settled_as v w seen mine joined s = record {
    own = ap (calls_by 0) seen ∙ (s.own ∙ sym mine);
    back = λ h a. ap (calls_by h.by) seen ∙ s.back h (subst (Among h) joined a);
    cover = λ t. subst (λ (x : List (Entry C) × List (Held C)). (calls_by t x.0 ≡ []) ⊎ ((t ≡ 0) ⊎ Joined t x.1)) (λ i. (sym seen i, sym joined i)) (s.cover t);
    apart = subst (λ hs. Distinct (0 ∷ numbers hs)) (sym joined) s.apart;
  }

  -- the root knows whose each call is, also with calls of its own
  settled_own : (v : View C) (cs : List C) → v.number ≡ 0 → Settled v → Settled (after v v.seen cs)
  settled_own v cs root s =
      let stay : (t : ℕ) → ¬ (t ≡ 0) → calls_by t (v.seen ++ said v.number cs) ≡ calls_by t v.seen = λ t ne. others_stay v.seen t v.number cs (λ e. ne (sym e ∙ root)) in
      record {
        own = ap (λ n. calls_by 0 (v.seen ++ said n cs)) root ∙ (own_grow v.seen 0 cs ∙ ap (λ l. l ++ cs) s.own);
        back = λ h a. stay h.by (λ e. s.apart.0 (subst (λ n. In n (numbers v.joined)) e (among_number h v.joined a))) ∙ s.back h a;
        cover = λ t. dite (ℕ_discrete t 0) (λ (e : t ≡ 0). inr (inl e)) (λ (ne : ¬ (t ≡ 0)). ⊎_elim (λ (none : calls_by t v.seen ≡ []). inl (stay t ne ∙ none)) (λ (o : (t ≡ 0) ⊎ Joined t v.joined). inr o) (s.cover t));
        apart = s.apart;
      }

  -- with no pass out, a call of the root's own leaves it the root, with no pass out, and settled
  pub rests_after : (v w : View C) (log : List (Entry C)) (cs : List C) → Sees v log → w ≡ after v log cs → v.number ≡ 0 → v.out ≡ 0 → (w.number ≡ 0) × (w.out ≡ 0) × Settled w
  rests_after v w log cs sees is root none =
      let whole = sees.whole root none in
      let e : w ≡ after v v.seen cs = is ∙ ap (λ l. after v l cs) whole.0 in
      subst (λ (u : View C). (u.number ≡ 0) × (u.out ≡ 0) × Settled u) (sym e) (root, none, settled_own v cs root whole.1)

-- with one root for another that is at rest, all are at rest
pub rest_with : {S M : Type 0} (root : S → View M) (cs : List S) (i : ℕ) (r : S) → ((root r).number ≡ 0) × ((root r).out ≡ 0) × Settled (root r) → Roots root cs × AtRest root cs → Roots root (set cs i r) × AtRest root (set cs i r)
rest_with {S} root cs i r rests all = (
  (λ j c e. ⊎_elim
      (λ (t : (j ≡ i) × (r ≡ c)). subst (λ x. (root x).number ≡ 0) t.1 rests.0)
      (λ (t : (j ≢ i) × (get_elem? cs j ≡ some c)). all.0 j c t.1)
      (at_set cs i j r c e)),
  (λ j c e. ⊎_elim
      (λ (t : (j ≡ i) × (r ≡ c)). subst (λ x. ((root x).out ≡ 0) × Settled (root x)) t.1 (rests.1, rests.2))
      (λ (t : (j ≢ i) × (get_elem? cs j ≡ some c)). all.1 j c t.1)
      (at_set cs i j r c e)),
)
