-- One history of calls, and what each pass of a cell knows of it.
use Rattle.std.specs.Prelude.{◌≡◌, ℕ, ◌+◌, ◌-◌, ◌≤◌, ◌==◌, ◌⊎◌, Bool, true, false, List, [], ◌∷◌, ◌++◌, length}
use mathlib.Core.Option.{some}
use mathlib.Core.List.{IsPrefix}
use lib.ListN.{get_elem?}
use Rattle.legal_history.specs.declared.history.Entry.{Entry}
use Rattle.legal_history.specs.declared.history.Held.{Held}
use Rattle.legal_history.specs.declared.history.View.{View}

-- the number stands in the list
abbrev pub In : ℕ → List ℕ → Type 0
In k [] = ⊥
In k (x ∷ xs) = (k ≡ x) ⊎ In k xs

abbrev pub keep_unless : Bool → ℕ → List ℕ → List ℕ
keep_unless true x rest = rest
keep_unless false x rest = x ∷ rest

-- the numbers other than k
abbrev pub without : ℕ → List ℕ → List ℕ
without k [] = []
without k (x ∷ xs) = keep_unless (x == k) x (without k xs)

-- no number stands twice in the list
abbrev pub Distinct : List ℕ → Type 0
Distinct [] = Unit {0}
Distinct (x ∷ xs) = ¬ (In x xs) × Distinct xs

module _ {C : Type 0} where
  -- a call of the pass with this number
  abbrev pub entry : ℕ → C → Entry C
  entry by call = record { by = by; call = call }

  abbrev pub held : ℕ → List C → List (Entry C) → Held C
  held by calls seen = record { by = by; calls = calls; seen = seen }

  -- the calls of a history, in order
  abbrev pub calls : List (Entry C) → List C
  calls [] = []
  calls (e ∷ es) = e.call ∷ calls es

  -- the call goes in front where the test holds
  abbrev pub keep : Bool → C → List C → List C
  keep true c cs = c ∷ cs
  keep false c cs = cs

  -- the calls of the pass with this number, in order
  abbrev pub calls_by : ℕ → List (Entry C) → List C
  calls_by by [] = []
  calls_by by (e ∷ es) = keep (e.by == by) e.call (calls_by by es)

  -- the entries for these calls of one pass
  abbrev pub said : ℕ → List C → List (Entry C)
  said by [] = []
  said by (c ∷ cs) = entry by c ∷ said by cs

  -- the pass is one of these
  abbrev pub Among : Held C → List (Held C) → Type 0
  Among h [] = ⊥
  Among h (x ∷ xs) = (h ≡ x) ⊎ Among h xs

  -- the numbers of these passes
  abbrev pub numbers : List (Held C) → List ℕ
  numbers [] = []
  numbers (h ∷ hs) = h.by ∷ numbers hs

  -- a pass with this number is one of these
  abbrev pub Joined : ℕ → List (Held C) → Type 0
  Joined t hs = In t (numbers hs)

  -- the root of a new cell
  abbrev pub first : View C
  first = record { number = 0; live = true; seen = []; mine = []; joined = []; made = 1; children = []; out = 0 }

  -- what is left of a pass that was joined: it makes no more calls
  abbrev pub nobody : View C
  nobody = record { number = 0; live = false; seen = []; mine = []; joined = []; made = 0; children = []; out = 0 }

  -- a pass that has seen this history, and has then made these calls
  abbrev pub after : View C → List (Entry C) → List C → View C
  after v log cs = record { number = v.number; live = v.live; seen = log ++ said v.number cs; mine = v.mine ++ cs; joined = v.joined; made = v.made; children = v.children; out = v.out }

  -- a pass that has seen this history
  abbrev pub looked : View C → List (Entry C) → View C
  looked v log = record { number = v.number; live = v.live; seen = log; mine = v.mine; joined = v.joined; made = v.made; children = v.children; out = v.out }

  -- the root with one more pass out, and that pass
  abbrev pub lender : View C → View C
  lender v = record { number = v.number; live = v.live; seen = v.seen; mine = v.mine; joined = v.joined; made = v.made + 1; children = v.children ++ v.made ∷ []; out = v.out + 1 }

  -- a new pass: it has seen what the root has seen, and has made no call
  abbrev pub child : View C → View C
  child v = record { number = v.made; live = true; seen = v.seen; mine = []; joined = []; made = 1; children = []; out = 0 }

  -- the longer of two beginnings of one history
  abbrev pub longer : List (Entry C) → List (Entry C) → List (Entry C)
  longer xs [] = xs
  longer [] (y ∷ ys) = y ∷ ys
  longer (x ∷ xs) (y ∷ ys) = x ∷ longer xs ys

  -- the root with a pass given back
  abbrev pub taker : View C → View C → View C
  taker v w = record { number = v.number; live = v.live; seen = longer v.seen w.seen; mine = v.mine; joined = v.joined ++ held w.number w.mine w.seen ∷ []; made = v.made; children = without w.number v.children; out = v.out - 1 }

  -- what holds of a live pass at the place i of the list of all passes
  pub record Fits (log : List (Entry C)) (children : List ℕ) (i : ℕ) (v : View C) : Type 0 where
    pub number : v.number ≡ i
    pub seen : IsPrefix v.seen log
    pub mine : calls_by i log ≡ v.mine
    pub told : calls_by i v.seen ≡ v.mine
    pub out : ¬ (i ≡ 0) → In i children
    pub alone : ¬ (i ≡ 0) → v.joined ≡ []

  -- a pass given back had made these calls, all of which it had seen, and the root has seen what it had seen
  pub record Returned (v : View C) (h : Held C) : Type 0 where
    pub begins : IsPrefix h.seen v.seen
    pub told : calls_by h.by h.seen ≡ h.calls

  -- the root stands at the place 0, and it knows all passes
  pub record IsRoot (joined : List (Held C)) (children : List ℕ) (made : ℕ) (v : View C) : Type 0 where
    pub live : v.live ≡ true
    pub joined_is : v.joined ≡ joined
    pub children_is : v.children ≡ children
    pub made_is : v.made ≡ made
    pub out_is : v.out ≡ length children
    pub back : (h : Held C) → Among h joined → Returned v h

  -- a number is the root's, or that of a pass that is out or was given back
  abbrev pub Owned : List (Held C) → List ℕ → ℕ → Type 0
  Owned joined children t = (t ≡ 0) ⊎ (In t children ⊎ Joined t joined)

  -- all passes know one history: each sees a beginning of it, and its calls are the pass's own; each call is the root's, or of a pass that is out or was given back
  pub record Legal (log : List (Entry C)) (views : List (View C)) : Type 0 where
    pub joined : List (Held C)
    pub children : List ℕ
    pub root : (v : View C) → get_elem? views 0 ≡ some v → IsRoot joined children (length views) v
    pub each : (i : ℕ) (v : View C) → get_elem? views i ≡ some v → v.live ≡ true → Fits log children i v
    pub back : (h : Held C) → Among h joined → (calls_by h.by log ≡ h.calls) × ((v : View C) × (get_elem? views h.by ≡ some v) × (v.live ≡ false))
    pub cover : (t : ℕ) → (calls_by t log ≡ []) ⊎ Owned joined children t
    pub fresh : (t : ℕ) → length views ≤ t → calls_by t log ≡ []
    pub distinct : Distinct children
    pub is_out : (t : ℕ) → In t children → (v : View C) × (get_elem? views t ≡ some v) × (v.live ≡ true)
    pub apart : Distinct (0 ∷ numbers joined)
    pub whole : (i : ℕ) × (v : View C) × (get_elem? views i ≡ some v) × (v.live ≡ true) × (v.seen ≡ log)

  -- with no pass out, the root has seen the whole history, and knows whose each call is
  pub record Settled (v : View C) : Type 0 where
    pub own : calls_by 0 v.seen ≡ v.mine
    pub back : (h : Held C) → Among h v.joined → calls_by h.by v.seen ≡ h.calls
    pub cover : (t : ℕ) → (calls_by t v.seen ≡ []) ⊎ ((t ≡ 0) ⊎ Joined t v.joined)
    pub apart : Distinct (0 ∷ numbers v.joined)

  -- what a step tells a pass of the history log that it finds: it begins with all that the pass had seen; of the pass itself, and of those given back to it, it has just the calls that the pass knew; and as the root with no pass out the pass had seen all of it
  pub record Sees (v : View C) (log : List (Entry C)) : Type 0 where
    pub begins : IsPrefix v.seen log
    pub own : calls_by v.number log ≡ v.mine
    pub own_seen : calls_by v.number v.seen ≡ v.mine
    pub back : (h : Held C) → Among h v.joined → calls_by h.by log ≡ h.calls
    pub returned : (h : Held C) → Among h v.joined → Returned v h
    pub whole : v.number ≡ 0 → v.out ≡ 0 → (log ≡ v.seen) × Settled v
