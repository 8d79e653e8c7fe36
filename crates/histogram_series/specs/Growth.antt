-- What is known of the entries of a series from the history of its queue.
use Rattle.std.specs.Prelude.{◌≡◌, [], List, ◌++◌}
use Rattle.legal_history.specs.declared.history.Entry.{Entry}
use Rattle.legal_history.specs.declared.history.View.{View}
use Rattle.legal_history.specs.History.{calls, calls_by}
use Rattle.sample_queue.specs.Queues.{Calls, Entries, Leaves, pushed, OthersPush}
use Rattle.rolling_summaries.specs.Window.{timed_samples}
use Rattle.histogram_series.specs.Entries.{TimedCall, TimedEntry, held_after, entries_known, records_of, samples_of_entries}

-- what stands in a queue is what a queue of one thread holds after the calls
abbrev pub HeldIsLeft : Type 0 → Type 0
HeldIsLeft T = (cs : Calls T) (es : Entries T) → Leaves cs es → held_after [] cs ≡ es

-- where the history that a pass has seen grew by calls of others, all of them pushes, what they pushed stands behind
abbrev pub PushesStandBehind : Type 0
PushesStandBehind =
    (v w : View TimedCall) (more : List (Entry TimedCall)) → w.mine ≡ v.mine → w.seen ≡ v.seen ++ more → calls_by v.number more ≡ [] → OthersPush v.number more
    → entries_known w ≡ entries_known v ++ pushed (calls more)

-- entries stand for the samples of the calls that they come from
abbrev pub CallsTellSamples : Type 0
CallsTellSamples = (es : List TimedEntry) → timed_samples (records_of es) ≡ samples_of_entries es
