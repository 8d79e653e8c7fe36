-- The exporter's own counters: how they are registered, and how an update is added to them.
use Rattle.std.specs.Prelude.{◌≡◌, ◌⊎◌, ℕ, List, [], ◌∷◌, ◌++◌, map, Option, Some, None}
use Rattle.std.specs.List.{FoldsTo}
use Rattle.flushed_cells.specs.declared.counter_calls.CounterCall.TheVariants.{Increment}
use Rattle.legal_history.specs.declared.history.View.{View}
use Rattle.legal_history.specs.History.{child}
use Rattle.metrics_core.specs.declared.kinds.MetricKind.TheVariants as kinds
use Rattle.metrics_core.specs.declared.kinds.SeriesId.{SeriesId}
use Rattle.dsd_exporter.specs.Exporter.{Exporter}
use Rattle.dsd_exporter.specs.Lending.{HasNoCounter, ChangesCounter, Makes, with_lent}
use Rattle.dsd_exporter.specs.Updates.{UpdateText}
use Rattle.dsd_forwarder.specs.declared.own_counters.OwnCounter.{OwnCounter}
use Rattle.dsd_forwarder.specs.declared.telemetry.OwnCount.{OwnCount}
use Rattle.dsd_forwarder.specs.Held.{CounterLease, Counts}
use Rattle.dsd_forwarder.specs.OwnCounters.{own_key, added}
use Rattle.dsd_forwarder.specs.Registering.{MayRegister, RegistersCounter, counter_id}
use Rattle.shared_flushes.specs.declared.entries.StateEntry.{StateEntry}
use Rattle.shared_flushes.specs.declared.entries.StateEntry.TheVariants.{Register}
use Rattle.shared_flushes.specs.Stands.{During}
use Rattle.shared_flushes.specs.Stands as entries

abbrev pub counters_of : List OwnCount → List OwnCounter
counters_of counts = map (λ c. c.counter) counts

-- Nothing is held exactly where no counter has the id. Otherwise its cell, which is made where there is none yet, is held with a new pass, which has seen what the state has seen.
abbrev pub Holds : SeriesId → Option CounterLease → Exporter → Exporter → Type 0
Holds id None old new = HasNoCounter id old × (new ≡ old)
Holds id (Some held) old new =
    ChangesCounter id (λ s t. Makes s.fixed held.cell × (held.knows ≡ child s.root) × (t ≡ with_lent held.cell s)) old new

-- one of the counters was registered and lent
pub record Registers (transport : List ℕ) (old : Exporter) (count : OwnCount) (new : Exporter) : Type 0 where
  pub between : Exporter
  pub registers : RegistersCounter (own_key transport count.counter) old between
  pub holds : Holds (counter_id (own_key transport count.counter) old) count.held between new

-- The first of the counters were registered and lent, in order; of the next one this was done.
pub record RegistersFirst {S : Type 0} (RegistersOne : S → OwnCount → S → Type 0) (Next : List OwnCounter → S → S → Type 0) (old : S) (counters : List OwnCounter) (new : S) : Type 0 where
  pub counted : List OwnCount
  pub rest : List OwnCounter
  pub in_order : counters_of counted ++ rest ≡ counters
  pub between : S
  pub registered : FoldsTo RegistersOne old counted between
  pub next : Next rest between new

-- of the next one nothing was done, or it was registered alone
abbrev pub RegistersNext : List ℕ → List OwnCounter → Exporter → Exporter → Type 0
RegistersNext transport rest old new = (new ≡ old) ⊎ ((counter : OwnCounter) × (more : List OwnCounter) × (rest ≡ counter ∷ more) × RegistersCounter (own_key transport counter) old new)

abbrev pub RegistersSome : List ℕ → Exporter → List OwnCounter → Exporter → Type 0
RegistersSome transport old counters new = RegistersFirst (Registers transport) (RegistersNext transport) old counters new

-- ---- registering them with a pass

-- one of the counters was registered, which is an entry of the pass, and then lent
pub record RegistersSeen (transport : List ℕ) (v : View StateEntry) (count : OwnCount) (w : View StateEntry) : Type 0 where
  pub number : ℕ
  pub between : View StateEntry
  pub makes : entries.Makes (Register kinds.Counter (own_key transport count.counter) number) v between
  pub holds : During (Holds (record { kind = kinds.Counter; number = number }) count.held) between w

abbrev pub RegistersNextSeen : List ℕ → List OwnCounter → View StateEntry → View StateEntry → Type 0
RegistersNextSeen transport rest v w = (w ≡ v) ⊎ ((counter : OwnCounter) × (more : List OwnCounter) × (rest ≡ counter ∷ more) × MayRegister kinds.Counter (own_key transport counter) v w)

abbrev pub RegistersSomeSeen : List ℕ → View StateEntry → List OwnCounter → View StateEntry → Type 0
RegistersSomeSeen transport v counters w = RegistersFirst (RegistersSeen transport) (RegistersNextSeen transport) v counters w

-- ---- adding an update

-- one increment by what the update says; of one for which no series was made nothing is held, and nothing is done
abbrev pub AddsHeld : ℕ → Option CounterLease → Option CounterLease → Type 0
AddsHeld n None new = new ≡ None
AddsHeld n (Some held) None = ⊥
AddsHeld n (Some held) (Some new) = Counts (Increment n) held new

pub record AddsTo (u : UpdateText) (old new : OwnCount) : Type 0 where
  pub counter : new.counter ≡ old.counter
  pub held : AddsHeld (added u old.counter) old.held new.held

-- the same of each
abbrev pub EachAdds : UpdateText → List OwnCount → List OwnCount → Type 0
EachAdds u [] new = new ≡ []
EachAdds u (c ∷ old) [] = ⊥
EachAdds u (c ∷ old) (d ∷ new) = AddsTo u c d × EachAdds u old new
