-- Queues as a state keeps them and lends them to lanes.
use Rattle.std.specs.Prelude.{◌≡◌, ℕ, zero, suc, refl, List, [], ◌∷◌, Option, Some, None, pos}
use mathlib.Core.Logic.{inl, inr}
use Rattle.legal_history.specs.declared.history.View.{View}
use Rattle.cell_lanes.specs.Calls.{Found}
use Rattle.metrics_core.specs.declared.calls.SeriesCall.{SeriesCall}
use Rattle.metrics_core.specs.declared.calls.SeriesCall.TheVariants.{Increment, Absolute, Add, Subtract, Set, Record}
use Rattle.metrics_core.specs.declared.numbers.Fixed.{Fixed as FixedOf}
use Rattle.metrics_core.specs.Fixed.{of_billionths}
use Rattle.sample_queue.specs.declared.calls.SampleEntry.{SampleEntry}
use Rattle.sample_queue.specs.declared.calls.QueueCall.{QueueCall}
use Rattle.sample_queue.specs.declared.calls.QueueCall.TheVariants.{Push, Pop}
use Rattle.sample_queue.specs.declared.series.Sample.{Sample}
use Rattle.sample_queue.specs.Queues.{entry_of, GivesOut}

module _ {T : Type 0} where
  -- an item that is to stand so often is one push, and no call where it is to stand no time
  abbrev pub pushes_of : T → ℕ → List (QueueCall T)
  pushes_of item zero = []
  pushes_of item (suc more) = Push (entry_of item (suc more)) ∷ []

  -- the calls that a sample makes
  abbrev pub pushes : Sample T → List (QueueCall T)
  pushes s = pushes_of s.item s.count

  abbrev pub StandsAsPushes : Sample T → List (QueueCall T) → Type 0
  StandsAsPushes s made = made ≡ pushes s

  -- how what was given out stands in the history: a queue that was found empty stands as no call
  abbrev pub pops : Option (SampleEntry T) → List (QueueCall T)
  pops None = []
  pops (Some e) = Pop e ∷ []

  abbrev pub given_found : (v : View (QueueCall T)) (answer : Option (SampleEntry T)) (w : View (QueueCall T)) → GivesOut v answer w → Found (pops answer) v w
  given_found v None w m = (m.1.0, m.1.1, inr (refl, m.0))
  given_found v (Some e) w m = (m.0, m.3, inl m.6)

-- what a call on a histogram pushes: a record its value and moment, as often as it says, and another call nothing
abbrev pub sample_of_call : SeriesCall → Sample (FixedOf × ℕ)
sample_of_call (Record value moment count) = record { item = (value, moment); count = count }
sample_of_call (Increment _) = record { item = (of_billionths (pos 0), 0); count = 0 }
sample_of_call (Absolute _) = record { item = (of_billionths (pos 0), 0); count = 0 }
sample_of_call (Add _) = record { item = (of_billionths (pos 0), 0); count = 0 }
sample_of_call (Subtract _) = record { item = (of_billionths (pos 0), 0); count = 0 }
sample_of_call (Set _) = record { item = (of_billionths (pos 0), 0); count = 0 }
