-- Seats of a shared cell, on which the passes of its history sit. A pass can move to another seat, so its seat says nothing of its number.
use Rattle.std.specs.Prelude.{◌≡◌, ℕ, List, Bool, true, false}
use mathlib.Core.Option.{some}
use lib.ListN.{get_elem?}
use Rattle.legal_history.specs.declared.history.View.{View}
use Rattle.legal_history.specs.Object.{Keeps, Made}

-- each live pass that sits on a seat is the pass of its number, and sits on no other seat
pub record Sit {C : Type 0} (passes seats : List (View C)) : Type 0 where
  pub there : (i : ℕ) (v : View C) → get_elem? seats i ≡ some v → v.live ≡ true → get_elem? passes v.number ≡ some v
  pub once : (i j : ℕ) (v w : View C) → get_elem? seats i ≡ some v → get_elem? seats j ≡ some w → v.live ≡ true → w.live ≡ true → v.number ≡ w.number → i ≡ j

module _ {S C : Type 0} (Step : C → S → S → Type 0) (start : S) where
  -- what is shared, and the passes on its seats, have one legal history
  pub record Seated (x : S) (seats : List (View C)) : Type 0 where
    pub passes : List (View C)
    pub keeps : Keeps Step start x passes
    pub sit : Sit passes seats

  -- the call was made where the state was as expected; elsewhere nothing was done
  abbrev pub Exchanged : C → S → View C → S → View C → Type 0
  Exchanged c expected v x w = (x ≡ expected → Made Step start c v w) × (¬ (x ≡ expected) → w ≡ v)

  -- a look makes the call where it finds the state still; elsewhere nothing was done
  abbrev pub Looked : C → Bool → View C → View C → Type 0
  Looked c still v w = (still ≡ true → Made Step start c v w) × (still ≡ false → w ≡ v)
