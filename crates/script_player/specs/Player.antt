-- What a player stands for, what is so of each, and what the next rounds ask of one.
use Rattle.std.specs.Prelude.{◌≡◌, ℕ, Bool, List, [], All, Option, Some, map}
use Rattle.metrics_core.specs.declared.kinds.SeriesId.{SeriesId}
use Rattle.prom_exporter.specs.Exporter as exporter
use Rattle.prom_exporter.specs.Exporter.{Exporter as PrometheusExporter}
use Rattle.dsd_addresses.specs.Remotes.{RemoteText}
use Rattle.dsd_writer.specs.Writers.{WriterText}
use Rattle.dsd_exporter.specs.Exporter.{Exporter as DogStatsDExporter, state_seen}
use Rattle.dsd_exporter.specs.Resting.{AllRest as LinesRest}
use Rattle.dsd_exporter.specs.declared.sending.FlushReport.{FlushReport}
use Rattle.drive_script.specs.Script.{RoundText, SettingsText}
use Rattle.drive_script.specs.Texts.{call_line_of}
use Rattle.drive_script.specs.declared.script.CallLine.{CallLine}
use Rattle.script_player.specs.Fitting.{CallsFit, FitsHandle}
use Rattle.script_player.specs.Flushes.{FlushPlay, dogstatsd_settings, flush_start, is_stream, payload_limit}
use Rattle.script_player.specs.Play.{PlayState, exporter_settings, play_start}
use Rattle.script_player.specs.Recorded.{AllRecordSome, RecordsSome}
use Rattle.script_player.specs.Resting.{AllRest}
use Rattle.script_player.specs.Sent.{none_sent}
use Rattle.script_player.specs.Timely.{IsTimelyState, RiseFrom}

-- ---- the states of a play

-- that of the pages, for their exporter and the handles that were given
abbrev pub rows_state : PrometheusExporter → List SeriesId → PlayState
rows_state pages handles = record { prometheus = exporter.state_of pages; handles = handles }

-- that of the flushes, with the marks of what is idle
abbrev pub lines_state : List Bool → DogStatsDExporter → List SeriesId → FlushPlay
lines_state marks lines handles = record { dogstatsd = state_seen marks lines; handles = handles }

-- ---- a player

-- the settings that it was made for and the address that its payloads go to, both states, the lines that wait to be sent, and what was sent so far
pub record PlayerText : Type 0 where
  pub settings : SettingsText
  pub to : RemoteText
  pub pages : PlayState
  pub flushes : FlushPlay
  pub waiting : List (List ℕ)
  pub report : FlushReport

-- before the first round
abbrev pub first_player : SettingsText → RemoteText → PlayerText
first_player settings to = record { settings = settings; to = to; pages = play_start settings; flushes = flush_start; waiting = []; report = none_sent }

-- So of each player, also of one whose round failed: both exporters rest, and they and what flushes go through are as the settings ask for.
pub record IsMadeFor (settings : SettingsText) (to : RemoteText) (pages : PrometheusExporter) (lines : DogStatsDExporter) (writer : WriterText) : Type 0 where
  pub rest : AllRest pages
  pub lines_rest : LinesRest lines
  pub built : pages.settings ≡ exporter_settings settings
  pub lines_built : lines.settings ≡ dogstatsd_settings settings
  pub limit : writer.limit ≡ payload_limit settings to
  pub on_stream : writer.on_stream ≡ is_stream to
  pub tags : writer.global_tags ≡ settings.dsd_globals

-- what isn't sent by setup lines and calls stays
pub record SendsNothing (old new : PlayerText) : Type 0 where
  pub settings : new.settings ≡ old.settings
  pub to : new.to ≡ old.to
  pub waiting : new.waiting ≡ old.waiting
  pub report : new.report ≡ old.report

-- ---- what comes next

-- the calls name handles of their kinds, and record samples
pub record FitsCalls (player : PlayerText) (calls : List CallLine) : Type 0 where
  pub fit : All (λ line. FitsHandle player.pages.handles (call_line_of line)) calls
  pub lines_fit : All (λ line. FitsHandle player.flushes.handles (call_line_of line)) calls
  pub some : All (λ call. RecordsSome call.act) (map call_line_of calls)

-- so of the calls of rounds, of which none comes before this moment or before what was recorded
pub record Awaits (moment : ℕ) (rounds : List RoundText) (player : PlayerText) : Type 0 where
  pub fit : CallsFit player.pages.handles rounds
  pub lines_fit : CallsFit player.flushes.handles rounds
  pub some : All AllRecordSome rounds
  pub timely : IsTimelyState moment player.pages.prometheus
  pub rises : RiseFrom moment rounds

-- no line waits, and the link is aimed where payloads go
pub record CanSend (aimed : Option RemoteText) (player : PlayerText) : Type 0 where
  pub none_waits : player.waiting ≡ []
  pub aims : aimed ≡ Some player.to

-- both, for rounds that are played and whose flushes are sent
pub record IsReadyFor (moment : ℕ) (rounds : List RoundText) (aimed : Option RemoteText) (player : PlayerText) : Type 0 where
  pub awaits : Awaits moment rounds player
  pub sends : CanSend aimed player
