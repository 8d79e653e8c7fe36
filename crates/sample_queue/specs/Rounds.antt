-- What a queue gives after a round of lanes.
use Rattle.std.specs.Prelude.{◌≡◌, ℕ, List, ◌++◌, flat_map, Option}
use mathlib.Core.Option.{some}
use lib.ListN.{get_elem?}
use Rattle.legal_history.specs.declared.history.View.{View}
use Rattle.legal_history.specs.History.{calls}
use Rattle.legal_history.specs.Order.{taken, IsOrder}
use Rattle.cell_lanes.specs.Lines.{LaneText}
use Rattle.cell_lanes.specs.Things.{Thing, root_of}
use Rattle.cell_lanes.specs.Lanes.{Finished, Stopped, all_calls_on, later_on}
use Rattle.sample_queue.specs.declared.calls.SampleEntry.{SampleEntry}
use Rattle.sample_queue.specs.declared.calls.QueueCall.{QueueCall}
use Rattle.sample_queue.specs.declared.queue.SampleQueue.{SampleQueue}
use Rattle.sample_queue.specs.declared.series.Sample.{Sample}
use Rattle.sample_queue.specs.Series.{pushes, StandsAsPushes, pops}
use Rattle.sample_queue.specs.Queues.{Entries, Leaves, front}

-- queues as a state keeps them
abbrev pub Kept : Type 0 → Type 0
Kept T = List (Thing (QueueCall T) (SampleQueue T))

module _ {T : Type 0} where
  -- the pushes of all lanes stand behind the earlier calls in one order of lanes, and the answer is the front of what they leave
  abbrev pub GivenOut : (ℕ → List (Sample T)) → View (QueueCall T) → Option (SampleEntry T) → Type 0
  GivenOut asked v answer =
      (order : List ℕ) × IsOrder order (λ l. flat_map pushes (asked l)) × (items : Entries T) × Leaves (calls v.seen ++ taken order (λ l. flat_map pushes (asked l))) items × (answer ≡ front items)

  -- each history grew by what all lanes pushed on it, and that of the queue with this index by the pop of this answer behind them
  abbrev pub Popped : List (LaneText (Sample T)) → ℕ → Kept T → Kept T → Option (SampleEntry T) → Type 0
  Popped lanes index before after answer = Finished root_of StandsAsPushes lanes (later_on index (pops answer)) before after

  -- the answer is the front of what the queue with this index held before, and then what all lanes pushed on it
  abbrev pub GivenAfter : List (LaneText (Sample T)) → ℕ → Kept T → Option (SampleEntry T) → Type 0
  GivenAfter lanes index before answer = (q : Thing (QueueCall T) (SampleQueue T)) → get_elem? before index ≡ some q → GivenOut (all_calls_on index lanes) q.root answer

  -- each history grew by what the first calls of each lane pushed on it
  abbrev pub PushesStopped : List (LaneText (Sample T)) → Kept T → Kept T → Type 0
  PushesStopped = Stopped root_of StandsAsPushes
