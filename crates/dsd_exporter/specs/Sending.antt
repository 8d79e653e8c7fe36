-- What sending a flush does: its payloads are handed to a link, each once, in order.
use Rattle.std.specs.Prelude.{◌≡◌, ℕ, ◌+◌, ◌-◌, ◌^◌, ◌≤◌, min, not, Bool, List, length, map, fold, Option, if◌then◌else◌}
use Rattle.std.specs.List.{filter}
use Rattle.metrics_core.specs.Numbers.{in_64_bits}
use Rattle.metrics_core.specs.Outside.{GrewBy}
use Rattle.dsd_writer.specs.Lines.{payloads_of}
use Rattle.dsd_writer.specs.Packing.{framed_payloads}
use Rattle.dsd_writer.specs.Writers.{WriterText, IsEmptied}
use Rattle.dsd_addresses.specs.Remotes.{RemoteText}
use Rattle.dsd_exporter.specs.Links.{SentText}
use Rattle.dsd_exporter.specs.State.{FlushItem, left_out_of_items}
use Rattle.dsd_exporter.specs.Updates.{UpdateText, with_sent, with_unsent}
use Rattle.dsd_exporter.specs.Exporter.{Exporter, AllHome}
use Rattle.dsd_exporter.specs.Flushing.{Found, Flushes, FlushesAll, IsWhole, Sends}
use Rattle.dsd_exporter.specs.declared.sending.FlushReport.{FlushReport}

-- a payload that was handed to a link, and whether it was sent
pub record Outcome : Type 0 where
  pub payload : List ℕ
  pub went : Bool

abbrev pub handed : List Outcome → List (List ℕ)
handed outcomes = map (λ o. o.payload) outcomes

-- the payloads that were sent, and those that weren't
abbrev pub sent_of : List Outcome → List (List ℕ)
sent_of outcomes = handed (filter (λ o. o.went) outcomes)

abbrev pub unsent_of : List Outcome → List (List ℕ)
unsent_of outcomes = handed (filter (λ o. not o.went) outcomes)

-- each is counted with its bytes, the length before it included
abbrev pub with_outcome : UpdateText → Outcome → UpdateText
with_outcome u o = if o.went then with_sent (length o.payload) u else with_unsent (length o.payload) u

abbrev pub with_outcomes : UpdateText → List Outcome → UpdateText
with_outcomes u outcomes = fold with_outcome u outcomes

-- a count of faults rose by at least so many, or stands at the last value of 64 bits
abbrev pub RoseBy : ℕ → ℕ → ℕ → Type 0
RoseBy n old new = min (old + n) (2 ^ 64 - 1) ≤ new

-- payloads as a link that is aimed so tells them
abbrev pub addressed : Option RemoteText → List (List ℕ) → List SentText
addressed aimed payloads = map (λ payload. record { to = aimed; payload = payload }) payloads

-- Payloads were handed to a link, each once, in order: what it tells grew by those that were sent, and there are no more of those that weren't than its faults rose.
pub record HandsOut (payloads : List (List ℕ)) (outcomes : List Outcome) (aimed : Option RemoteText) (told tells : Option (List SentText)) (faults now_faults : ℕ) (u n : UpdateText) : Type 0 where
  pub each : handed outcomes ≡ payloads
  pub sent : GrewBy told tells (addressed aimed (sent_of outcomes))
  pub cause : RoseBy (length (unsent_of outcomes)) faults now_faults
  pub counted : n ≡ with_outcomes u outcomes

-- so many were sent, and so many weren't
abbrev pub Counts : List Outcome → ℕ × ℕ → Type 0
Counts outcomes counts = (counts.0 ≡ length (sent_of outcomes)) × (counts.1 ≡ length (unsent_of outcomes))

-- the payloads of a writer
abbrev pub payloads_in : WriterText → List (List ℕ)
payloads_in w = framed_payloads w.on_stream (payloads_of w.limit w.lines)

-- A flush was written, whole. Where items account for what was written, so many of their points were left out, modulo 2 ^ 64.
pub record WritesFlush (moment : ℕ) (old new : Exporter) (marks noted : List Bool) (w written : WriterText) (u flushed : UpdateText) (to_come left : Option (ℕ → ℕ)) (left_out : ℕ) : Type 0 where
  pub found : Found
  pub flushes : Flushes moment found old new marks noted w written u flushed to_come left
  pub whole : IsWhole found old
  pub home : AllHome old → FlushesAll moment old new marks noted w written u flushed to_come left
  pub dropped : (items : List FlushItem) → Sends items w written u flushed → left_out ≡ in_64_bits (left_out_of_items w.limit items)

-- The payloads of a writer were handed to a link, and counted; the writer has none then.
pub record SendsWritten (written v : WriterText) (u n : UpdateText) (aimed : Option RemoteText) (told tells : Option (List SentText)) (faults now_faults : ℕ) (numbers : ℕ × ℕ) : Type 0 where
  pub outcomes : List Outcome
  pub hands : HandsOut (payloads_in written) outcomes aimed told tells faults now_faults u n
  pub emptied : IsEmptied written v
  pub counts : Counts outcomes numbers
  pub all : numbers.0 + numbers.1 ≡ length (payloads_in written)

-- A flush was written, its payloads were handed to a link, and all of it is reported.
pub record SendsFlush (moment : ℕ) (old new : Exporter) (marks noted : List Bool) (w v : WriterText) (u n : UpdateText) (to_come left : Option (ℕ → ℕ))
    (aimed : Option RemoteText) (told tells : Option (List SentText)) (faults now_faults : ℕ) (report : FlushReport) : Type 0 where
  pub written : WriterText
  pub flushed : UpdateText
  pub writes : WritesFlush moment old new marks noted w written u flushed to_come left report.dropped
  pub sends : SendsWritten written v flushed n aimed told tells faults now_faults (report.sent, report.unsent)
