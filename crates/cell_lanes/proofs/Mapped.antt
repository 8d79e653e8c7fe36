-- Things and lanes whose calls are seen as others.
use Rattle.std.proofs.Common.{◌≡◌, ℕ, List, [], ◌∷◌, ◌++◌, map, sym, ap, ◌∙◌, subst}
use Rattle.std.specs.Prelude.{flat_map}
use Rattle.std.specs.List.{AllByRecursion}
use Rattle.std.proofs.lemmas.List.{map-append}
use mathlib.Core.List.{IsPrefix}
use Rattle.legal_history.specs.declared.history.Entry.{Entry}
use Rattle.legal_history.specs.declared.history.View.{View}
use Rattle.legal_history.specs.History.{held, longer}
use Rattle.legal_history.specs.Order.{GrewInOrder}
use Rattle.legal_history.specs.Mapped.{IsOneToOne, mapped_entry, mapped_log, mapped_held, mapped_view}
use Rattle.legal_history.proofs.Mapped.{after-mapped, sees-mapped, longer-mapped, prefix-mapped, grew-back}
use Rattle.cell_lanes.specs.Lines.{LaneText}
use Rattle.cell_lanes.specs.Calls.{Made, StandAs}
use Rattle.cell_lanes.specs.Things.{TookBack}
use Rattle.cell_lanes.specs.Lanes.{Grew, calls_on}

module _ {C D : Type 0} (f : C → D) where
  -- calls that were made are made as their images
  pub made-mapped : (fits : List C → Type 0) (fits' : List D → Type 0) → ((cs : List C) → fits cs → fits' (map f cs)) → (v w : View C) → Made fits v w → Made fits' (mapped_view f v) (mapped_view f w)
  made-mapped fits fits' over v w made = (
    map f made.0,
    over made.0 made.1,
    (mapped_log f made.2.0, sees-mapped f v made.2.0 made.2.1, ap (mapped_view f) made.2.2 ∙ after-mapped f v made.2.0 made.0),
  )

  pub took_back-mapped : (v known w : View C) → TookBack v known w → TookBack (mapped_view f v) (mapped_view f known) (mapped_view f w)
  took_back-mapped v known w took = record {
    number = took.number;
    mine = ap (map f) took.mine;
    joined = ap (map (mapped_held f)) took.joined ∙ map-append (mapped_held f) v.joined (held known.number known.mine known.seen ∷ []);
    seen = subst (λ (log : List (Entry D)). IsPrefix log (mapped_log f w.seen)) (longer-mapped f v.seen known.seen) (prefix-mapped (mapped_entry f) (longer v.seen known.seen) w.seen took.seen);
    out = took.out;
  }

  module _ {K : Type 0} (stands : K → List D → Type 0) (makes : K → List C) where
    -- what is asked for stands as the images of the calls that it makes
    abbrev pub StandsAsImages : K → Type 0
    StandsAsImages k = (made : List D) → stands k made → made ≡ map f (makes k)

    pub stand_as_images : (ks : List K) (made : List D) → AllByRecursion StandsAsImages ks → StandAs stands ks made → made ≡ map f (flat_map makes ks)
    stand_as_images [] made all e = e
    stand_as_images (k ∷ ks) made all s =
        s.4 ∙ ap (λ l. l ++ s.1) (all.0 s.0 s.2) ∙ ap (λ l. map f (makes k) ++ l) (stand_as_images ks s.1 all.1 s.3) ∙ sym (map-append f (makes k) (flat_map makes ks))

    -- a thing whose history is seen so grew by the calls that were asked for
    pub grew_own : IsOneToOne f → {S : Type 0} (root : S → View D) (lanes : List (LaneText K)) (done : ℕ → ℕ) (j : ℕ) (c d : S) (v w : View C)
        → root c ≡ mapped_view f v → root d ≡ mapped_view f w → ((l : ℕ) → AllByRecursion StandsAsImages (calls_on j lanes done l)) → Grew root stands lanes done j c d
        → GrewInOrder (λ l. flat_map makes (calls_on j lanes done l)) v.seen w.seen
    grew_own once root lanes done j c d v w from to all grew =
        let same : grew.0 ≡ (λ l. map f (flat_map makes (calls_on j lanes done l))) = λ i l. stand_as_images (calls_on j lanes done l) (grew.0 l) (all l) (grew.1 l) i in
        grew-back f once (λ l. flat_map makes (calls_on j lanes done l)) v.seen w.seen
        (subst (λ (lists : ℕ → List D). GrewInOrder lists (mapped_log f v.seen) (mapped_log f w.seen)) same
        (subst (λ (x : View D). GrewInOrder grew.0 (mapped_log f v.seen) x.seen) to (subst (λ (x : View D). GrewInOrder grew.0 x.seen (root d).seen) from grew.2)))
