-- A queue of one thread, first in first out (this project's rule).
use Rattle.std.specs.Prelude.{◌≡◌, ℕ, ◌<◌, List, [], ◌∷◌, ◌++◌, Option, Some, None, MatchOption, ⊤}
use Rattle.legal_history.specs.declared.history.Entry.{Entry}
use Rattle.legal_history.specs.declared.history.View.{View}
use Rattle.legal_history.specs.History.{calls, Sees}
use Rattle.legal_history.specs.Object.{Runs, Keeps, Made}
use Rattle.sample_queue.specs.declared.calls.SampleEntry.{SampleEntry}
use Rattle.sample_queue.specs.declared.calls.QueueCall.{QueueCall}
use Rattle.sample_queue.specs.declared.calls.QueueCall.TheVariants.{Push, Pop}

abbrev pub Calls : Type 0 → Type 0
Calls T = List (QueueCall T)

abbrev pub Entries : Type 0 → Type 0
Entries T = List (SampleEntry T)

module _ {T : Type 0} where
  abbrev pub entry_of : T → ℕ → SampleEntry T
  entry_of item count = record { item = item; count = count }

  -- a push puts its entry at the back, and a pop takes the front one
  abbrev pub QueueStep : QueueCall T → Entries T → Entries T → Type 0
  QueueStep (Push e) before after = after ≡ before ++ e ∷ []
  QueueStep (Pop e) before after = before ≡ e ∷ after

  -- what was pushed, and what was given out, in order
  abbrev pub pushed : Calls T → Entries T
  pushed [] = []
  pushed (Push e ∷ cs) = e ∷ pushed cs
  pushed (Pop e ∷ cs) = pushed cs

  abbrev pub popped : Calls T → Entries T
  popped [] = []
  popped (Push e ∷ cs) = popped cs
  popped (Pop e ∷ cs) = e ∷ popped cs

  abbrev pub front : Entries T → Option (SampleEntry T)
  front [] = None
  front (e ∷ es) = Some e

  -- after these calls the queue holds these entries
  abbrev pub Leaves : Calls T → Entries T → Type 0
  Leaves = Runs QueueStep []

  -- the same of the calls that a pass has seen
  abbrev pub Holds : View (QueueCall T) → Entries T → Type 0
  Holds v items = Leaves (calls v.seen) items

  -- the call was made, behind a history that begins with all that the pass had seen, and its answer is right there
  abbrev pub Called : QueueCall T → View (QueueCall T) → View (QueueCall T) → Type 0
  Called = Made QueueStep []

  -- an entry of a count above 0 went to the back
  abbrev pub Puts : T → ℕ → View (QueueCall T) → View (QueueCall T) → Type 0
  Puts item count v w = 0 < count → Called (Push (entry_of item count)) v w

  -- a call is a push, or of the pass with this number
  abbrev pub PushOrOwn : ℕ → ℕ → QueueCall T → Type 0
  PushOrOwn own by (Push e) = ⊤
  PushOrOwn own by (Pop e) = by ≡ own

  -- the other passes made no calls but pushes
  abbrev pub OthersPush : ℕ → List (Entry (QueueCall T)) → Type 0
  OthersPush own [] = ⊤
  OthersPush own (e ∷ es) = PushOrOwn own e.by e.call × OthersPush own es

  -- the queue and its passes have one legal history, in which only the root takes entries out
  abbrev pub KeepsRooted : Entries T → List (View (QueueCall T)) → Type 0
  KeepsRooted items views = (keeps : Keeps QueueStep [] items views) × OthersPush 0 keeps.log

  -- The queue holds these entries after a history that begins with all that the pass had seen, and in which no other pass took any out.
  abbrev pub Finds : View (QueueCall T) → Entries T → Type 0
  Finds v items = (log : List (Entry (QueueCall T))) × Sees v log × Runs QueueStep [] (calls log) items × OthersPush v.number log

  -- the queue was empty at a moment at which it had all the calls that the pass has seen: so the pass has taken out all that it has seen pushed
  abbrev pub FoundEmpty : View (QueueCall T) → Type 0
  FoundEmpty v = Finds v []

  -- all that the pass has seen pushed it has taken out, each entry once and in order
  abbrev pub HasTakenAll : View (QueueCall T) → Type 0
  HasTakenAll v = popped v.mine ≡ pushed (calls v.seen)

  -- what was given out, or that the queue was empty at a moment of the call
  abbrev pub GivesOut : View (QueueCall T) → Option (SampleEntry T) → View (QueueCall T) → Type 0
  GivesOut v answer w = MatchOption answer ((w ≡ v) × FoundEmpty v) (λ entry. Called (Pop entry) v w)

  -- with no other pass out, the root's answer is the front of what the queue holds
  abbrev pub AnswersAlone : View (QueueCall T) → Option (SampleEntry T) → Type 0
  AnswersAlone v answer = v.number ≡ 0 → v.out ≡ 0 → (items : Entries T) → Holds v items → answer ≡ front items
