-- Entries of a queue of samples that keep their moments, and the samples that they stand for.
use Rattle.std.specs.Prelude.{ℕ, List, [], ◌∷◌, ◌++◌, map, flat_map, drop, replicate, Option, Some, None}
use Rattle.metrics_core.specs.declared.numbers.Fixed.{Fixed}
use Rattle.metrics_core.specs.Calls.{Call, Record}
use Rattle.legal_history.specs.declared.history.View.{View}
use Rattle.legal_history.specs.History.{calls}
use Rattle.sample_queue.specs.declared.calls.SampleEntry.{SampleEntry}
use Rattle.sample_queue.specs.declared.calls.QueueCall.{QueueCall}
use Rattle.sample_queue.specs.declared.calls.QueueCall.TheVariants.{Push, Pop}
use Rattle.sample_queue.specs.declared.queue.SampleQueue.{SampleQueue}
use Rattle.sample_queue.specs.Queues.{Calls, Entries, popped}
use Rattle.rolling_summaries.specs.Window.{Sample}
use Rattle.rolling_summaries.specs.Standing.{Addition}
use Rattle.distributions.specs.Recording.{sample_of}

-- an entry: a value with its moment, and how many samples it stands for; a call on the queue; the queue itself
abbrev pub TimedEntry : Type 0
TimedEntry = SampleEntry (Fixed × ℕ)

abbrev pub TimedCall : Type 0
TimedCall = QueueCall (Fixed × ℕ)

abbrev pub TimedQueue : Type 0
TimedQueue = SampleQueue (Fixed × ℕ)

-- the samples that entries stand for, in order
abbrev pub samples_of_entry : TimedEntry → List Sample
samples_of_entry e = replicate e.count (sample_of e.item)

abbrev pub samples_of_entries : List TimedEntry → List Sample
samples_of_entries es = flat_map samples_of_entry es

-- what an entry adds to a rolling summary
abbrev pub addition_of : TimedEntry → Addition
addition_of e = record { value = e.item.0.0; moment = e.item.1; samples = e.count }

-- the calls on a histogram that entries come from, in order
abbrev pub record_of : TimedEntry → Call
record_of e = Record e.item.0.0 e.item.1 e.count

abbrev pub records_of : List TimedEntry → List Call
records_of es = map record_of es

module _ {T : Type 0} where
  -- what a queue holds after these calls where it held these entries before: a push puts its entry at the back, a pop takes the front one
  abbrev pub held_after : Entries T → Calls T → Entries T
  held_after es [] = es
  held_after es (Push e ∷ cs) = held_after (es ++ e ∷ []) cs
  held_after es (Pop e ∷ cs) = held_after (drop 1 es) cs

  -- what stands in a queue after the calls that a pass of it has seen
  abbrev pub queued : View (QueueCall T) → Entries T
  queued v = held_after [] (calls v.seen)

  -- what a pass took out of the queue, and then what stands in it
  abbrev pub entries_known : View (QueueCall T) → Entries T
  entries_known v = popped v.mine ++ queued v

-- an entry that may be there, as a list
abbrev pub listed : Option TimedEntry → List TimedEntry
listed (Some e) = e ∷ []
listed None = []
