-- What a lane is to do, as contracts see it.
use Rattle.std.specs.Prelude.{◌≡◌, ◌<◌, ◌≤◌, ℕ, Bool, true, false, List, [], ◌∷◌, Option, Some, None, length}
use Rattle.cell_lanes.specs.declared.lane.Line.{Line}

-- its number, the indices of the shared things that it names, and its lines in order
pub record LaneText (K : Type 0) : Type 0 where
  pub number : ℕ
  pub cells : List ℕ
  pub lines : List (Line K)

-- what comes next of the lines that are left: the first of them, and the others are left then; none where none is
abbrev pub IsNext : {K : Type 0} → Option (Line K) → List (Line K) → List (Line K) → Type 0
IsNext None old new = (old ≡ []) × (new ≡ [])
IsNext (Some line) old new = old ≡ line ∷ new

-- so many of the lines are done; the mark says whether these are all
pub record AreDone {K : Type 0} (lines : List (Line K)) (done : ℕ) (mark : Bool) : Type 0 where
  pub most : done ≤ length lines
  pub all : mark ≡ true → done ≡ length lines
  pub some_left : mark ≡ false → done < length lines
