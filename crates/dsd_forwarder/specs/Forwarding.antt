-- A forwarder, and what one of its runs does.
use Rattle.std.specs.Prelude.{◌≡◌, ◌⊎◌, ℕ, ◌≤◌, Bool, true, false, List, Option, Some, None, if◌then◌else◌}
use Rattle.std.specs.List.{FoldsTo}
use Rattle.dsd_addresses.specs.Remotes.{RemoteText, remote_text, transport_of}
use Rattle.dsd_addresses.specs.Remotes as to
use Rattle.dsd_writer.specs.Writers.{WriterText}
use Rattle.dsd_exporter.specs.Flushing.{Found, Flushes}
use Rattle.dsd_exporter.specs.Links.{SentText}
use Rattle.dsd_exporter.specs.Sending.{SendsFlush}
use Rattle.dsd_exporter.specs.Updates.{UpdateText, HadUpdates, no_update}
use Rattle.dsd_exporter.specs.declared.sending.FlushReport.{FlushReport}
use Rattle.dsd_forwarder.specs.declared.configuration.ForwarderConfiguration.{ForwarderConfiguration}
use Rattle.dsd_forwarder.specs.declared.telemetry.OwnCount.{OwnCount}
use Rattle.dsd_forwarder.specs.OwnCounters.{own_counters}
use Rattle.dsd_forwarder.specs.Telemetry.{RegistersSeen, RegistersSomeSeen, EachAdds, counters_of}
use Rattle.legal_history.specs.declared.history.View.{View}
use Rattle.shared_flushes.specs.declared.entries.StateEntry.{StateEntry}
use Rattle.shared_flushes.specs.declared.state.SharedState.{SharedState}
use Rattle.shared_flushes.specs.Stands.{During}

-- payloads are led by their lengths on a Unix stream alone
abbrev pub is_stream : RemoteText → Bool
is_stream (to.Udp address) = false
is_stream (to.Unix path) = true
is_stream (to.Unixgram path) = false

-- what it was made with, whether it counts its own work, which counters are idle, its writer, what its flushes and sends added up to, whether the last run was refused, its own counters where they are registered, the state that it flushes, and what its pass knows of the history of that state
pub record ForwarderText : Type 0 where
  pub configuration : ForwarderConfiguration
  pub counts_own : Bool
  pub marks : List Bool
  pub writer : WriterText
  pub update : UpdateText
  pub was_refused : Bool
  pub telemetry : Option (List OwnCount)
  pub state : SharedState
  pub knows : View StateEntry

abbrev pub remote_of : ForwarderText → RemoteText
remote_of f = remote_text f.configuration.remote_addr

-- a run begins with an empty update, or behind a run that was refused with that one's
abbrev pub begun : ForwarderText → ForwarderText
begun f = record f { update = if f.was_refused then f.update else no_update; was_refused = true }

-- ---- what goes to the link

-- A flush of the state was sent, as it stands for a history with all that the forwarder's pass had seen. The link's faults may have risen before the first send.
pub record SendsState (moment : ℕ) (old new : ForwarderText) (to_come left : Option (ℕ → ℕ)) (told tells : Option (List SentText)) (faults now_faults : ℕ) (report : FlushReport) : Type 0 where
  pub faults_then : ℕ
  pub rose : faults ≤ faults_then
  pub sends : During (λ before after. SendsFlush moment before after old.marks new.marks old.writer new.writer old.update new.update to_come left (Some (remote_of old)) told tells faults_then now_faults report) old.knows new.knows
  pub others : new ≡ record old { marks = new.marks; writer = new.writer; update = new.update; knows = new.knows }

-- A flush of the state was refused: its first series were flushed.
pub record FlushesState (moment : ℕ) (old new : ForwarderText) (to_come left : Option (ℕ → ℕ)) : Type 0 where
  pub flushes : During (λ before after. (found : Found) × Flushes moment found before after old.marks new.marks old.writer new.writer old.update new.update to_come left) old.knows new.knows
  pub others : new ≡ record old { marks = new.marks; writer = new.writer; update = new.update; knows = new.knows }

-- ---- the exporter's own counters

-- it counts its own work, and its flushes told of an update
abbrev pub IsToCount : ForwarderText → Type 0
IsToCount f = (f.counts_own ≡ true) × HadUpdates f.update

-- the counters that an update is added to: those that it has, and otherwise all of them, each registered with its pass
abbrev pub IsCountedIn : List ℕ → Option (List OwnCount) → List OwnCount → View StateEntry → View StateEntry → Type 0
IsCountedIn transport (Some known) counts v w = (counts ≡ known) × (w ≡ v)
IsCountedIn transport None counts v w = (counters_of counts ≡ own_counters) × FoldsTo (RegistersSeen transport) v counts w

-- The update was added to the exporter's own counters, and nothing else changed.
pub record AddsOwn (old new : ForwarderText) : Type 0 where
  pub counts : List OwnCount
  pub added : List OwnCount
  pub counted_in : IsCountedIn (transport_of (remote_of old)) old.telemetry counts old.knows new.knows
  pub adds : EachAdds old.update counts added
  pub others : new ≡ record old { telemetry = Some added; knows = new.knows }

-- it is added where it is to be
pub record CountsOwn (old new : ForwarderText) : Type 0 where
  pub counted : IsToCount old → AddsOwn old new
  pub not_counted : ((IsToCount old → ⊥)) → new ≡ old

-- The update was not added, since the counters were to be registered and memory was refused. Those that were registered by then stay registered.
pub record IsUncounted (old new : ForwarderText) : Type 0 where
  pub to_count : IsToCount old
  pub none_yet : old.telemetry ≡ None
  pub some : RegistersSomeSeen (transport_of (remote_of old)) old.knows own_counters new.knows
  pub others : new ≡ record old { knows = new.knows }

-- ---- a run

-- A flush was sent, and then the update was added to the exporter's own counters, where it is to be.
pub record RunsOnce (moment : ℕ) (old new : ForwarderText) (to_come left : Option (ℕ → ℕ)) (told tells : Option (List SentText)) (faults now_faults : ℕ) (report : FlushReport) : Type 0 where
  pub sent : ForwarderText
  pub sends : SendsState moment (begun old) sent to_come left told tells faults now_faults report
  pub counted : ForwarderText
  pub counts : CountsOwn sent counted
  pub ended : new ≡ record counted { was_refused = false }

-- A run was refused before its flush, in it, or behind it. In the first two cases nothing was handed to the link, and in the last all payloads were.
pub record IsUnaimed (old new : ForwarderText) (to_come left : Option (ℕ → ℕ)) (told tells : Option (List SentText)) : Type 0 where
  pub begun_only : new ≡ begun old
  pub words : left ≡ to_come
  pub unused : tells ≡ told

pub record IsUnflushed (moment : ℕ) (old new : ForwarderText) (to_come left : Option (ℕ → ℕ)) (told tells : Option (List SentText)) : Type 0 where
  pub flushes : FlushesState moment (begun old) new to_come left
  pub unused : tells ≡ told

pub record IsSentUncounted (moment : ℕ) (old new : ForwarderText) (to_come left : Option (ℕ → ℕ)) (told tells : Option (List SentText)) (faults now_faults : ℕ) : Type 0 where
  pub report : FlushReport
  pub sent : ForwarderText
  pub sends : SendsState moment (begun old) sent to_come left told tells faults now_faults report
  pub uncounted : IsUncounted sent new

abbrev pub IsRefusedRun : ℕ → ForwarderText → ForwarderText → Option (ℕ → ℕ) → Option (ℕ → ℕ) → Option (List SentText) → Option (List SentText) → ℕ → ℕ → Type 0
IsRefusedRun moment old new to_come left told tells faults now_faults =
    IsUnaimed old new to_come left told tells
    ⊎ (IsUnflushed moment old new to_come left told tells ⊎ IsSentUncounted moment old new to_come left told tells faults now_faults)
