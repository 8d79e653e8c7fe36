-- What a state stands for, and what calls on it tell a pass.
use Rattle.std.specs.Prelude.{◌≡◌, ℕ, ◌%◌, ◌^◌, List, [], ◌∷◌, length}
use Rattle.metrics_core.specs.declared.kinds.MetricKind.{MetricKind}
use Rattle.metrics_core.specs.declared.kinds.MetricKind.TheVariants as kinds
use Rattle.metrics_core.specs.declared.kinds.SeriesId.{SeriesId}
use Rattle.metrics_core.specs.Keys.{KeyText}
use Rattle.legal_history.specs.declared.history.Entry.{Entry}
use Rattle.legal_history.specs.declared.history.View.{View}
use Rattle.legal_history.specs.History.{calls, entry, after, looked, Sees}
use Rattle.legal_history.specs.Object.{Runs}
use Rattle.dsd_exporter.specs.State.{DogStatsDSettings, SeriesStates, no_series_states, no_series}
use Rattle.dsd_exporter.specs.Exporter.{Exporter}
use Rattle.shared_flushes.specs.declared.entries.StateEntry.{StateEntry}
use Rattle.shared_flushes.specs.declared.entries.StateEntry.TheVariants.{Built, Register}
use Rattle.shared_flushes.specs.Registrations.{bare, Step, Called}

-- the entries begin with what the state was built with, which are these settings, and the others made these series of none
abbrev pub Reached : List StateEntry → DogStatsDSettings → SeriesStates → Type 0
Reached [] settings x = ⊥
Reached (Built built ∷ cs) settings x = (settings ≡ built) × Runs Step no_series_states cs x
Reached (Register _ _ _ ∷ cs) settings x = ⊥

-- a state stands for the entries that made its settings and its series
abbrev pub StandsFor : List StateEntry → Exporter → Type 0
StandsFor cs e = Reached cs e.settings (bare e.series)

-- the entry that begins the history of a state
abbrev pub opens : Exporter → StateEntry
opens e = Built e.settings

-- an entry, whichever it is
abbrev pub any_entry : StateEntry
any_entry = Register kinds.Counter (record { name = []; labels = [] }) 0

-- the call stands behind a history that begins with all that the pass had seen, and its answer is that of the state of one thread there. The pass has then seen both
abbrev pub Makes : StateEntry → View StateEntry → View StateEntry → Type 0
Makes c v w = (log : List (Entry StateEntry)) × (settings : DogStatsDSettings) × (x y : SeriesStates) × Sees v log × Reached (calls log) settings x × Step c x y × (w ≡ after v log (c ∷ []))

-- in its turn the pass found a state that stands for a history that begins with all that it had seen. This was done to it, and it stands for that history afterwards too
abbrev pub During : (Exporter → Exporter → Type 0) → View StateEntry → View StateEntry → Type 0
During Does v w = (log : List (Entry StateEntry)) × (x y : Exporter) × Sees v log × StandsFor (calls log) x × Does x y × StandsFor (calls log) y × (w ≡ looked v log)

-- the pass has seen the whole history, which is so long, modulo 2 ^ 64
abbrev pub LooksAt : ℕ → View StateEntry → View StateEntry → Type 0
LooksAt n v w = (log : List (Entry StateEntry)) × Sees v log × (n ≡ length log % 2 ^ 64) × (w ≡ looked v log)

-- the pass knows that the state was built with these settings
abbrev pub KnowsBuilt : DogStatsDSettings → View StateEntry → Type 0
KnowsBuilt settings v = (rest : List (Entry StateEntry)) × (v.seen ≡ entry 0 (Built settings) ∷ rest)

-- the id is that of a registration of the pass's own
abbrev pub IsOwn : MetricKind → SeriesId → View StateEntry → Type 0
IsOwn kind id v = (id.kind ≡ kind) × ¬ (id.number ≡ no_series) × ((key : KeyText) × Called (Register kind key id.number) v.mine)
