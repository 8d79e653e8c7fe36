-- What a drain does: it takes entries out of the queue and records them.
use Rattle.std.specs.Prelude.{◌≡◌, List, ◌++◌, Some, None}
use Rattle.std.specs.List.{FoldsTo}
use Rattle.legal_history.specs.declared.history.Entry.{Entry}
use Rattle.legal_history.specs.declared.history.View.{View}
use Rattle.legal_history.specs.History.{calls}
use Rattle.sample_queue.specs.declared.calls.QueueCall.TheVariants.{Pop}
use Rattle.sample_queue.specs.Queues.{Called, OthersPush, pushed}
use Rattle.histogram_series.specs.Entries.{TimedEntry, TimedCall, entries_known}
use Rattle.histogram_series.specs.Series.{SampleSeries}

-- a pass took an entry out of the queue; and entries, one after the other
abbrev pub TakesOne : View TimedCall → TimedEntry → View TimedCall → Type 0
TakesOne v e w = Called (Pop e) v w

abbrev pub TakesOut : View TimedCall → List TimedEntry → View TimedCall → Type 0
TakesOut v es w = FoldsTo TakesOne v es w

-- the next entry was taken out, and waits
abbrev pub TakesNext : SampleSeries → SampleSeries → Type 0
TakesNext s t = (e : TimedEntry) × TakesOne s.root e t.root × (t ≡ record s { root = t.root; stray = Some e })

-- the entry that waits, if there is one, was recorded
abbrev pub with_none_waiting : SampleSeries → SampleSeries
with_none_waiting s = record s { stray = None }

-- entries were taken out of the queue, and nothing else changed but which of them are recorded
pub record Drains (s t : SampleSeries) : Type 0 where
  pub cell : t.cell ≡ s.cell
  pub kind : t.kind ≡ s.kind
  pub out : List TimedEntry
  pub taken : TakesOut s.root out t.root

-- ---- how the entries grow beside other passes

-- The history grew. Where the other passes made no calls but pushes, the entries grew by what they pushed, at the end.
abbrev pub Grows : View TimedCall → View TimedCall → Type 0
Grows v w =
    (more : List (Entry TimedCall)) × (w.seen ≡ v.seen ++ more)
    × (OthersPush v.number more → entries_known w ≡ entries_known v ++ pushed (calls more))
