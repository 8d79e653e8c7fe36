-- What a round does to a player, to the sink and to the link, and what one does that fails.
use Rattle.std.specs.Prelude.{◌≡◌, ℕ, Bool, List, [], ◌∷◌, Option}
use Rattle.metrics_core.specs.Outside.{GrewBy, GrewByPrefix}
use Rattle.prom_format.specs.Pages.{page_text}
use Rattle.prom_exporter.specs.State.{page_step}
use Rattle.prom_exporter.specs.Exporter.{Exporter as PrometheusExporter, families_shown, page_families, state_of as prometheus_of}
use Rattle.dsd_addresses.specs.Remotes.{RemoteText}
use Rattle.dsd_writer.specs.Writers.{SameSettings, WriterText}
use Rattle.dsd_exporter.specs.Exporter.{Exporter as DogStatsDExporter, state_seen}
use Rattle.dsd_exporter.specs.Resting.{AllRest as LinesRest}
use Rattle.dsd_exporter.specs.State.{flush_items, flush_step}
use Rattle.dsd_exporter.specs.declared.sending.FlushReport.{FlushReport}
use Rattle.drive_script.specs.Script.{RoundText, ScriptText, SettingsText}
use Rattle.script_player.specs.Flushes.{ForSomeFlushOrders, ForSomeFlushes, after_flush, dogstatsd_settings, flush_of}
use Rattle.script_player.specs.InPart.{EndsWithin, IsCutOff}
use Rattle.script_player.specs.Orders.{ForSomeOrders, ForSomeRounds, ForSomeRun, round_text}
use Rattle.script_player.specs.Play.{after_round, exporter_settings}
use Rattle.script_player.specs.Player.{PlayerText}
use Rattle.script_player.specs.Resting.{AllRest}
use Rattle.script_player.specs.Sent.{Delivers, IsReady, IsSent, IsWritten, LinkTold}
use Rattle.script_player.specs.Timely.{IsTimelyState}
use Rattle.script_player.specs.declared.flushes.Flushes.{Flushes}
use Rattle.script_player.specs.declared.report.Report.{Report}

-- ---- rounds

-- For one order of the calls on each series in the round, what the sink tells grew by the round's page; for one such order the link was handed its flush.
pub record PlaysRound (round : RoundText) (old new : PlayerText) (written written' : Option (List ℕ)) (told tells : LinkTold) : Type 0 where
  pub settings : new.settings ≡ old.settings
  pub to : new.to ≡ old.to
  pub none_waits : new.waiting ≡ []
  pub page : ForSomeOrders old.pages round (λ orders. (new.pages ≡ after_round old.settings old.pages round orders)
      × GrewBy written written' (round_text old.settings old.pages round orders))
  pub flush : ForSomeFlushOrders old.flushes round (λ orders. (new.flushes ≡ after_flush old.flushes round orders)
      × Delivers old.settings old.to (flush_of old.settings old.flushes round orders ∷ []) told tells old.report new.report)

-- a prefix of its page was written, and nothing was sent
pub record CutsRound (round : RoundText) (old : PlayerText) (written written' : Option (List ℕ)) (told tells : LinkTold) : Type 0 where
  pub page : ForSomeOrders old.pages round (λ orders. GrewByPrefix written written' (round_text old.settings old.pages round orders))
  pub unsent : tells ≡ told

-- all rounds were played, one after another
pub record PlaysRounds (rounds : List RoundText) (old new : PlayerText) (written written' : Option (List ℕ)) (told tells : LinkTold) : Type 0 where
  pub pages : ForSomeRounds old.settings old.pages rounds (GrewBy written written')
  pub sent : ForSomeFlushes old.settings old.flushes rounds (λ flushes. Delivers old.settings old.to flushes told tells old.report new.report)

-- one of them was cut off
pub record CutsRounds (rounds : List RoundText) (old : PlayerText) (written written' : Option (List ℕ)) (told tells : LinkTold) : Type 0 where
  pub prefix : ForSomeRounds old.settings old.pages rounds (GrewByPrefix written written')
  pub in_part : EndsWithin old.settings old.to old.pages old.flushes rounds written written' told tells old.report

-- ---- a script

-- a script was played whose payloads go to this address
pub record PlaysScript (script : ScriptText) (to : RemoteText) (written written' : Option (List ℕ)) (told tells : LinkTold) (report : Report) : Type 0 where
  -- for one order of the calls on each series in each round, what the sink tells grew by the pages
  pub pages : ForSomeRun script (GrewBy written written')
  -- and the link was handed the payloads of the flushes, as the report says
  pub sent : IsSent script to told tells report

-- its play was cut off
pub record CutsScript (script : ScriptText) (to : RemoteText) (written written' : Option (List ℕ)) (told tells : LinkTold) : Type 0 where
  -- what the sink tells grew by a prefix of those pages
  pub prefix : ForSomeRun script (GrewByPrefix written written')
  -- of which the link has the flushes of the whole ones, but for the last of them maybe
  pub in_part : IsCutOff script to written written' told tells

-- ---- the end of a round

-- the page of a player at a moment
abbrev pub player_page : ℕ → PlayerText → List ℕ
player_page moment player = page_text (families_shown (exporter_settings player.settings) moment player.pages.prometheus)

-- the page was written, and the flush sent
pub record EndsRound (moment : ℕ) (old new : PlayerText) (written written' : Option (List ℕ)) (told tells : LinkTold) : Type 0 where
  pub settings : new.settings ≡ old.settings
  pub to : new.to ≡ old.to
  pub none_waits : new.waiting ≡ []
  pub page : GrewBy written written' (player_page moment old)
  pub pages : new.pages ≡ record old.pages { prometheus = page_step (exporter_settings old.settings).idle moment old.pages.prometheus }
  pub flushes : new.flushes ≡ record old.flushes { dogstatsd = flush_step old.flushes.dogstatsd }
  pub sent : Delivers old.settings old.to (flush_items (dogstatsd_settings old.settings) old.settings.dsd_globals moment [] old.flushes.dogstatsd ∷ [])
      told tells old.report new.report

-- a prefix of the page was written, and nothing was sent
pub record CutsPage (moment : ℕ) (old : PlayerText) (written written' : Option (List ℕ)) (told tells : LinkTold) : Type 0 where
  pub prefix : GrewByPrefix written written' (player_page moment old)
  pub unsent : tells ≡ told

-- ---- either exporter

-- an exporter of pages at rest, whose samples come in the order of moments, none after this one
pub record CanShow (moment : ℕ) (pages : PrometheusExporter) : Type 0 where
  pub rest : AllRest pages
  pub timely : IsTimelyState moment (prometheus_of pages)

-- it rests still, and its settings are the same
pub record RestsOn (old new : PrometheusExporter) : Type 0 where
  pub rest : AllRest new
  pub settings : new.settings ≡ old.settings

-- its page was written, and it has done the page step
pub record IsShown (moment : ℕ) (old new : PrometheusExporter) (written written' : Option (List ℕ)) : Type 0 where
  pub stepped : prometheus_of new ≡ page_step old.settings.idle moment (prometheus_of old)
  pub page : GrewBy written written' (page_text (page_families moment old))

-- an exporter of flushes rests still, with the same settings as what its flushes go through, and nothing more was reported
pub record FlushesOn (old new : DogStatsDExporter) (before after : WriterText) (so_far now : FlushReport) : Type 0 where
  pub rest : LinesRest new
  pub settings : new.settings ≡ old.settings
  pub writer : SameSettings before after
  pub report : now ≡ so_far

-- its flush was written into payloads, and it has done the flush step
pub record IsFlushed (moment : ℕ) (old new : DogStatsDExporter) (marks marks' : List Bool) (writer writer' : WriterText) (left_out : ℕ) : Type 0 where
  pub stepped : state_seen marks' new ≡ flush_step (state_seen marks old)
  pub written : (settings : SettingsText) (to : RemoteText) → IsReady settings to writer → old.settings ≡ dogstatsd_settings settings
      → IsWritten settings to (flush_items (dogstatsd_settings settings) settings.dsd_globals moment [] (state_seen marks old)) writer' left_out

-- ---- both exporters

-- both rest still
pub record BothRestOn (pages pages' : PrometheusExporter) (lines lines' : DogStatsDExporter) (old new : Flushes) : Type 0 where
  -- that of the pages, with the same settings
  pub pages_rest : RestsOn pages pages'
  -- and that of the flushes, with the same settings as what these go through, and nothing more was reported
  pub lines_rest : FlushesOn lines lines' old.writer new.writer old.report new.report

-- the page was written, and beside it the flush, of which so many points were left out
pub record EndsBoth (moment : ℕ) (pages pages' : PrometheusExporter) (lines lines' : DogStatsDExporter) (old new : Flushes) (written written' : Option (List ℕ)) (left_out : ℕ) : Type 0 where
  -- the page to the sink, behind its page step
  pub shown : IsShown moment pages pages' written written'
  -- and the flush into payloads, with its flush step
  pub flushed : IsFlushed moment lines lines' old.marks new.marks old.writer new.writer left_out
