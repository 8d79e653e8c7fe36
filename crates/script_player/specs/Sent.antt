-- What a run hands to its link, and what it reports of it (this project's rule).
use Rattle.std.specs.Prelude.{◌≡◌, ℕ, ◌+◌, List, [], length, Option, Some}
use Rattle.metrics_core.specs.Numbers.{in_64_bits}
use Rattle.metrics_core.specs.Outside.{GrewBy}
use Rattle.dsd_addresses.specs.Remotes.{RemoteText}
use Rattle.dsd_writer.specs.Writers.{WriterText}
use Rattle.dsd_exporter.specs.Links.{SentText}
use Rattle.dsd_exporter.specs.Sending.{Outcome, RoseBy, addressed, handed, sent_of, unsent_of}
use Rattle.dsd_exporter.specs.State.{FlushItem, left_out_of_items, lines_of_items}
use Rattle.dsd_exporter.specs.declared.sending.FlushReport.{FlushReport}
use Rattle.drive_script.specs.Script.{ScriptText, SettingsText}
use Rattle.script_player.specs.Flushes.{ForSomeFlushes, all_left_out, all_payloads, flush_start, is_stream, payload_limit}
use Rattle.script_player.specs.declared.report.Report.{Report}

-- what a link tells: its payloads, where it does, and its count of faults
pub record LinkTold : Type 0 where
  pub sent : Option (List SentText)
  pub faults : ℕ

-- a count that is kept modulo 2 ^ 64 grew by so many
abbrev pub Counts : ℕ → ℕ → ℕ → Type 0
Counts before more now = in_64_bits now ≡ in_64_bits (before + more)

-- The payloads of flushes were handed to a link that is aimed at this address, each once, in order: the link's list grew by those that were sent, and those that weren't are at most as many as its faults rose by. The counts grew by the numbers of those that were sent, of those that weren't, and of the points that were left out; they are kept modulo 2 ^ 64.
pub record Delivers (settings : SettingsText) (to : RemoteText) (flushes : List (List FlushItem)) (told tells : LinkTold) (before now : FlushReport) : Type 0 where
  pub outcomes : List Outcome
  pub each : handed outcomes ≡ all_payloads settings to flushes
  pub grew : GrewBy told.sent tells.sent (addressed (Some to) (sent_of outcomes))
  pub cause : RoseBy (length (unsent_of outcomes)) told.faults tells.faults
  pub sent : Counts before.sent (length (sent_of outcomes)) now.sent
  pub unsent : Counts before.unsent (length (unsent_of outcomes)) now.unsent
  pub dropped : Counts before.dropped (all_left_out settings to flushes) now.dropped

-- nothing was sent yet
abbrev pub none_sent : FlushReport
none_sent = record { sent = 0; unsent = 0; dropped = 0 }

-- what a report says of payloads
abbrev pub sent_part : Report → FlushReport
sent_part report = record { sent = report.sent; unsent = report.unsent; dropped = report.dropped }

-- For one order of the calls on each series in each round, the link was handed the payloads of one flush a round, and the report counts them and what was left out.
pub record IsSent (script : ScriptText) (to : RemoteText) (told tells : LinkTold) (report : Report) : Type 0 where
  pub pages : report.pages ≡ length script.rounds
  pub flushed : ForSomeFlushes script.settings flush_start script.rounds (λ flushes. Delivers script.settings to flushes told tells none_sent (sent_part report))

-- A writer as a script's settings ask for has the lines of these items, and so many points were left out of them; they are counted modulo 2 ^ 64.
pub record IsWritten (settings : SettingsText) (to : RemoteText) (items : List FlushItem) (writer : WriterText) (left_out : ℕ) : Type 0 where
  pub limit : writer.limit ≡ payload_limit settings to
  pub on_stream : writer.on_stream ≡ is_stream to
  pub tags : writer.global_tags ≡ settings.dsd_globals
  pub lines : writer.lines ≡ lines_of_items (payload_limit settings to) items
  pub dropped : left_out ≡ in_64_bits (left_out_of_items (payload_limit settings to) items)

-- a writer as a script's settings ask for, without lines
pub record IsReady (settings : SettingsText) (to : RemoteText) (writer : WriterText) : Type 0 where
  pub limit : writer.limit ≡ payload_limit settings to
  pub on_stream : writer.on_stream ≡ is_stream to
  pub tags : writer.global_tags ≡ settings.dsd_globals
  pub lines : writer.lines ≡ []
