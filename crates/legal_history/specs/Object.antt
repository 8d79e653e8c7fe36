-- An object of one thread, as a relation, and the rule of a shared thing that behaves as it does.
use Rattle.std.specs.Prelude.{◌≡◌, List, [], ◌∷◌}
use Rattle.legal_history.specs.declared.history.Entry.{Entry}
use Rattle.legal_history.specs.declared.history.View.{View}
use Rattle.legal_history.specs.History.{calls, after, Legal, Sees}

-- Step c x y: the call c, with its answer, takes the object from x to y
module _ {S C : Type 0} (Step : C → S → S → Type 0) where
  abbrev pub Runs : S → List C → S → Type 0
  Runs x [] y = x ≡ y
  Runs x (c ∷ cs) y = (m : S) × Step c x m × Runs m cs y

  -- what is shared is what the object of one thread is after the history's calls
  pub record Keeps (start : S) (x : S) (views : List (View C)) : Type 0 where
    pub log : List (Entry C)
    pub runs : Runs start (calls log) x
    pub legal : Legal log views

  -- the call was made, behind a history that begins with all that the pass had seen, and its answer is right there
  abbrev pub Made : S → C → View C → View C → Type 0
  Made start c v w = (log : List (Entry C)) × (x : S) × (y : S) × Sees v log × Runs start (calls log) x × Step c x y × (w ≡ after v log (c ∷ []))

  -- what is shared is the object after a history that begins with all that the pass had seen
  abbrev pub Told : S → View C → S → Type 0
  Told start v x = (log : List (Entry C)) × Sees v log × Runs start (calls log) x
