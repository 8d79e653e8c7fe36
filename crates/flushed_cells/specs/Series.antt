-- Cells that are flushed, as a state keeps them and lends them to lanes.
use Rattle.std.specs.Prelude.{◌≡◌, List, [], ◌∷◌}
use mathlib.Core.Logic.{inl}
use Rattle.legal_history.specs.declared.history.View.{View}
use Rattle.legal_history.specs.Object.{Made}
use Rattle.cell_lanes.specs.Calls.{Found}

-- what is asked for stands as its call at some state
abbrev pub StandsAs : {S K C : Type 0} → (K → S → C) → K → List C → Type 0
StandsAs {S = S} answered change made = (state : S) × (made ≡ answered change state ∷ [])

-- how a flush that answered this stands in the history
abbrev pub only : {A C : Type 0} → (A → C) → A → List C
only flushed answer = flushed answer ∷ []

module _ {S A C : Type 0} (Step : C → S → S → Type 0) (start : S) (flushed : A → C) where
  -- which answers are right there
  abbrev pub Flushes : View C → A → View C → Type 0
  Flushes v answer w = Made Step start (flushed answer) v w

  abbrev pub flush_found : (v : View C) (answer : A) (w : View C) → Flushes v answer w → Found (only flushed answer) v w
  flush_found v answer w made = (made.0, made.3, inl made.6)
