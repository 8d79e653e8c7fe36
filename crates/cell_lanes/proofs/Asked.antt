-- What lanes ask of one thing: calls that it takes.
use Rattle.std.proofs.Common.{◌≡◌, ℕ, zero, suc, ◌<◌, Bool, true, false, List, [], ◌∷◌, length, take, refl, sym, subst, true≢false}
use Rattle.std.specs.Prelude.{Option, Some, None, IfSome, slice_index}
use Rattle.std.specs.List.{AllByRecursion}
use Rattle.std.proofs.lemmas.Bool.{eqb-true}
use mathlib.Core.Option.{some}
use lib.ListN.{get_elem?}
use Rattle.legal_history.specs.History.{keep}
use Rattle.cell_lanes.specs.Lines.{LaneText}
use Rattle.cell_lanes.specs.declared.lane.Line.{Line}
use Rattle.cell_lanes.specs.Lanes.{AllFit, AllTaken, LineFit, calls_on, cell_calls, is_on}
use Rattle.cell_lanes.proofs.Lists.{at_or}

module _ {K : Type 0} where
  pub all_weaker : (P Q : K → Type 0) → ((k : K) → P k → Q k) → (ks : List K) → AllByRecursion P ks → AllByRecursion Q ks
  all_weaker P Q to [] all = tt
  all_weaker P Q to (k ∷ ks) all = (to k all.0, all_weaker P Q to ks all.1)

  keep_all : (P : K → Type 0) (b : Bool) (k : K) (ks : List K) → (b ≡ true → P k) → AllByRecursion P ks → AllByRecursion P (keep b k ks)
  keep_all P true k ks own all = (own refl, all)
  keep_all P false k ks own all = all

  module _ (P : K → Type 0) (j : ℕ) (cells : List ℕ) where
    -- a call is on the thing only where it is one of these
    abbrev IsRight : Line K → Type 0
    IsRight x = IfSome x.slot (λ slot. get_elem? cells slot ≡ some j → P x.call)

    of_line : (x : Line K) (slot : Option ℕ) → IfSome slot (λ s. s < length cells) → IfSome slot (λ s. get_elem? cells s ≡ some j → P x.call) → is_on j cells slot ≡ true → P x.call
    of_line x None below right on = absurd (true≢false (sym on))
    of_line x (Some s) below right on = right (subst (λ n. get_elem? cells s ≡ some n) (eqb-true (slice_index cells s) j on) (at_or cells s 0 below))

    of_lines : (n : ℕ) (lines : List (Line K)) → LineFit (length cells) lines → ((k : ℕ) (x : Line K) → get_elem? lines k ≡ some x → IsRight x) → AllByRecursion P (cell_calls j cells (take n lines))
    of_lines zero [] fit right = tt
    of_lines zero (x ∷ xs) fit right = tt
    of_lines (suc n) [] fit right = tt
    of_lines (suc n) (x ∷ xs) fit right =
        keep_all P (is_on j cells x.slot) x.call (cell_calls j cells (take n xs)) (of_line x x.slot (fit 0 x refl) (right 0 x refl))
        (of_lines n xs (λ k y at. fit (suc k) y at) (λ k y at. right (suc k) y at))

  of_lanes : (P : K → Type 0) (j : ℕ) (ls : List (LaneText K)) (done : ℕ → ℕ) (l : ℕ)
      → ((i : ℕ) (a : LaneText K) → get_elem? ls i ≡ some a → LineFit (length a.cells) a.lines × ((k : ℕ) (x : Line K) → get_elem? a.lines k ≡ some x → IsRight P j a.cells x))
      → AllByRecursion P (calls_on j ls done l)
  of_lanes P j [] done l each = tt
  of_lanes P j (x ∷ xs) done zero each = of_lines P j x.cells (done 0) x.lines (each 0 x refl).0 (each 0 x refl).1
  of_lanes P j (x ∷ xs) done (suc l) each = of_lanes P j xs (λ k. done (suc k)) l (λ i a at. each (suc i) a at)

-- each call of the lanes on a thing is one that it takes
pub asked_is_taken : {S F K : Type 0} (fixed : S → F) (takes : F → K → Type 0) (cs : List S) (lanes : List (LaneText K)) (done : ℕ → ℕ) (j : ℕ) (c : S)
    → AllFit (length cs) lanes → AllTaken fixed takes cs lanes → get_elem? cs j ≡ some c → (l : ℕ) → AllByRecursion (takes (fixed c)) (calls_on j lanes done l)
asked_is_taken {S} {F} {K} fixed takes cs lanes done j c fit taken at l =
    of_lanes (takes (fixed c)) j lanes done l (λ i a at_lane. ((fit i a at_lane).lines, λ k x at_line. of_slot x a.cells x.slot (taken i a k x at_lane at_line)))
  where
    of_slot : (x : Line K) (cells : List ℕ) (slot : Option ℕ) → IfSome slot (λ s. (j : ℕ) (c : S) → get_elem? cells s ≡ some j → get_elem? cs j ≡ some c → takes (fixed c) x.call)
        → IfSome slot (λ s. get_elem? cells s ≡ some j → takes (fixed c) x.call)
    of_slot x cells None all = tt
    of_slot x cells (Some s) all = λ at_cell. all j c at_cell at
