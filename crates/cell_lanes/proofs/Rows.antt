-- Shared things in a list, as a round of lanes sees them.
use Rattle.std.proofs.Common.{◌≡◌, ℕ, ◌<◌, List, length, map, set, sym, ap, subst, ◌∙◌}
use Rattle.std.proofs.lemmas.List.{length-map, map-set}
use mathlib.Core.Option.{some}
use lib.ListN.{get_elem?}
use Rattle.atomic_table.proofs.Lists.{at_map, set_again}
use Rattle.legal_history.specs.declared.history.View.{View}
use Rattle.legal_history.proofs.Steps.{some_below, one_at}
use Rattle.legal_history.specs.History.{Settled}
use Rattle.cell_lanes.specs.Lines.{LaneText}
use Rattle.cell_lanes.specs.Things.{Thing, root_of}
use Rattle.cell_lanes.specs.Lanes.{Each, Grew, Roots, AtRest}
use Rattle.cell_lanes.proofs.Lists.{below_some}

module _ {S M F : Type 0} (root : S → View M) (fixed : S → F) where
  abbrev pub thing : S → Thing M F
  thing s = record { root = root s; fixed = fixed s }

  abbrev pub things : List S → List (Thing M F)
  things = map thing

  pub below : (xs : List S) (i : ℕ) → i < length (things xs) → i < length xs
  below xs i h = subst (λ n. i < n) (length-map xs thing) h

  -- the thing at an index is that of what stands there
  pub thing_is : (xs : List S) (i : ℕ) (s : S) (t : Thing M F) → get_elem? xs i ≡ some s → get_elem? (things xs) i ≡ some t → thing s ≡ t
  thing_is xs i s t at e = one_at (things xs) i (thing s) t (at_map thing xs i s at) e

  pub thing_at : (xs : List S) (i : ℕ) (t : Thing M F) → get_elem? (things xs) i ≡ some t → (s : S) × (get_elem? xs i ≡ some s) × (thing s ≡ t)
  thing_at xs i t e =
      let found = below_some xs i (below xs i (some_below (things xs) i t e)) in
      (found.0, found.1, thing_is xs i found.0 t found.1 e)

  -- what is put in the place of another, of the same kind, changes nothing
  pub set_same : (xs : List S) (i : ℕ) (q r : S) → get_elem? xs i ≡ some q → root r ≡ root q → fixed r ≡ fixed q → things (set xs i r) ≡ things xs
  set_same xs i q r at same stays =
      map-set thing xs i r ∙ ap (set (things xs) i) (λ j. record { root = same j; fixed = stays j }) ∙ set_again (things xs) i (thing q) (at_map thing xs i q at)

  -- ---- what holds of the things holds of what stands in the list

  pub roots_in : (xs : List S) → Roots root xs → Roots root_of (things xs)
  roots_in xs all j t e = let s = thing_at xs j t e in subst (λ (x : Thing M F). x.root.number ≡ 0) s.2 (all j s.0 s.1)

  pub rests_in : (xs : List S) → AtRest root xs → AtRest root_of (things xs)
  rests_in xs all j t e = let s = thing_at xs j t e in subst (λ (x : Thing M F). (x.root.out ≡ 0) × Settled x.root) s.2 (all j s.0 s.1)

  pub roots_out : (xs : List S) → Roots root_of (things xs) → Roots root xs
  roots_out xs all j s e = all j (thing s) (at_map thing xs j s e)

  pub rests_out : (xs : List S) → AtRest root_of (things xs) → AtRest root xs
  rests_out xs all j s e = all j (thing s) (at_map thing xs j s e)

  pub grew_out : {K : Type 0} (stands : K → List M → Type 0) (lanes : List (LaneText K)) (done : ℕ → ℕ) (xs ys : List S) → Each (Grew root_of stands lanes done) (things xs) (things ys) → Each (Grew root stands lanes done) xs ys
  grew_out stands lanes done xs ys each j s r e f = each j (thing s) (thing r) (at_map thing xs j s e) (at_map thing ys j r f)

  pub same_length : (xs ys : List S) → length (things ys) ≡ length (things xs) → length ys ≡ length xs
  same_length xs ys same = sym (length-map ys thing) ∙ same ∙ length-map xs thing
