-- What lanes gave back to the root of a cell.
use Rattle.std.specs.Prelude.{◌≡◌, ℕ, ◌==◌, Bool, true, false, List, [], ◌∷◌, ◌++◌}
use mathlib.Core.List.{IsPrefix}
use Rattle.legal_history.specs.declared.history.Held.{Held}
use Rattle.legal_history.specs.declared.history.View.{View}
use Rattle.legal_history.specs.History.{Distinct}

module _ {C : Type 0} where
  abbrev pub helds : List (ℕ × Held C) → List (Held C)
  helds [] = []
  helds (x ∷ xs) = x.1 ∷ helds xs

  abbrev pub lanes : List (ℕ × Held C) → List ℕ
  lanes [] = []
  lanes (x ∷ xs) = x.0 ∷ lanes xs

  abbrev pub calls_if : Bool → List C → List C → List C
  calls_if true cs ds = cs
  calls_if false cs ds = ds

  -- the calls of lane l, none where it gave nothing back
  abbrev pub lane_calls : List (ℕ × Held C) → ℕ → List C
  lane_calls [] l = []
  lane_calls (x ∷ xs) l = calls_if (x.0 == l) x.1.calls (lane_calls xs l)

  -- the root has taken in what the lanes gave back, one pass of each lane, and nothing else
  pub record TookIn (news : List (ℕ × Held C)) (v w : View C) : Type 0 where
    pub grows : IsPrefix v.seen w.seen
    pub mine : w.mine ≡ v.mine
    pub joined : w.joined ≡ v.joined ++ helds news
    pub apart : Distinct (lanes news)
