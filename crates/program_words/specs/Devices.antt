-- What the devices of a run tell of themselves, before the run and, primed, after it (this project's rule).
use Rattle.std.specs.Prelude.{ℕ, List, Option}
use Rattle.metrics_core.specs.Outside.{Rose}
use Rattle.dsd_addresses.specs.Remotes.{RemoteText}
use Rattle.dsd_exporter.specs.Links.{SentText}
use Rattle.prom_serve.specs.Connections.{Ended}
use Rattle.prom_serve.specs.Serving.{Listening}
use Rattle.script_player.specs.Sent.{LinkTold}

-- a source: the bytes still to come, where it tells them, and how often it has failed
pub record SourceRun : Type 0 where
  pub left : Option (List ℕ)
  pub left' : Option (List ℕ)
  pub faults : ℕ
  pub faults' : ℕ

abbrev pub source_run : {S : Type 0} → (S → Option (List ℕ)) → (S → ℕ) → S → S → SourceRun
source_run left faults old new =
    record { left = left old; left' = left new; faults = faults old; faults' = faults new }

-- it failed in the run
abbrev pub SourceFailed : SourceRun → Type 0
SourceFailed source = Rose source.faults source.faults'

-- a sink: the bytes that were written, where it tells them, and how often it has failed
pub record SinkRun : Type 0 where
  pub written : Option (List ℕ)
  pub written' : Option (List ℕ)
  pub faults : ℕ
  pub faults' : ℕ

abbrev pub sink_run : {K : Type 0} → (K → Option (List ℕ)) → (K → ℕ) → K → K → SinkRun
sink_run written faults old new =
    record { written = written old; written' = written new; faults = faults old; faults' = faults new }

abbrev pub SinkFailed : SinkRun → Type 0
SinkFailed sink = Rose sink.faults sink.faults'

-- a link: the payloads that were sent and how often it has failed, and where it is aimed
pub record LinkRun : Type 0 where
  pub told : LinkTold
  pub told' : LinkTold
  pub aimed : Option RemoteText
  pub aimed' : Option RemoteText

abbrev pub link_run : {L : Type 0} → (L → Option (List SentText)) → (L → ℕ) → (L → Option RemoteText)
    → L → L → LinkRun
link_run sent faults aimed old new = record {
  told = record { sent = sent old; faults = faults old };
  told' = record { sent = sent new; faults = faults new };
  aimed = aimed old;
  aimed' = aimed new;
}

-- a listener: the connections that it gave and that were given back, how many of these were lost, and how often it
-- has failed
pub record ListenerRun : Type 0 where
  pub told : Listening
  pub told' : Listening
  pub lost : ℕ
  pub lost' : ℕ
  pub faults : ℕ
  pub faults' : ℕ

abbrev pub listener_run : {N : Type 0} → (N → ℕ) → (N → Option (List Ended)) → (N → ℕ) → (N → ℕ)
    → N → N → ListenerRun
listener_run given finished lost faults old new = record {
  told = record { given = given old; finished = finished old };
  told' = record { given = given new; finished = finished new };
  lost = lost old;
  lost' = lost new;
  faults = faults old;
  faults' = faults new;
}

abbrev pub ListenerFailed : ListenerRun → Type 0
ListenerFailed listener = Rose listener.faults listener.faults'
