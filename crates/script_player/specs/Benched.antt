-- What playing the generated script writes and reports (this project's rule).
use Rattle.std.specs.Prelude.{◌≡◌, ℕ, List, [], ◌∷◌, ◌++◌, Option, None}
use Rattle.metrics_core.specs.Outside.{GrewBy, GrewByPrefix}
use Rattle.prom_format.specs.Pages.{Family, IsPage}
use Rattle.dsd_exporter.specs.declared.sending.FlushReport.{FlushReport}
use Rattle.drive_script.specs.Script.{ScriptText}
use Rattle.bench_scripts.specs.Bench.{bench_script, bench_settings_text}
use Rattle.script_player.specs.Agent.{default_agent}
use Rattle.script_player.specs.Flushes.{ForSomeFlushes, flush_start}
use Rattle.script_player.specs.Play.{RoundOrders, AreOrders, pages_of}
use Rattle.script_player.specs.Sent.{Delivers, IsSent, LinkTold, none_sent}
use Rattle.script_player.specs.declared.report.Report.{Report}

-- For one order of the calls on each series in each round, the bytes are the last of the script's pages, ended by `# EOF`.
pub record IsLastPageOf (script : ScriptText) (bytes : List ℕ) : Type 0 where
  pub orders : List RoundOrders
  pub legal : AreOrders script orders
  pub earlier : List (List Family)
  pub families : List Family
  pub last : pages_of script orders ≡ earlier ++ families ∷ []
  pub page : IsPage bytes families

-- what the sink tells grew by the last page of so many rounds of the generated script
pub record IsBenched (count : ℕ) (written written' : Option (List ℕ)) : Type 0 where
  pub page : List ℕ
  pub last : IsLastPageOf (bench_script count) page
  pub grew : GrewBy written written' page

-- what the sink tells grew by a prefix of that page
pub record IsBenchedInPart (count : ℕ) (written written' : Option (List ℕ)) : Type 0 where
  pub page : List ℕ
  pub last : IsLastPageOf (bench_script count) page
  pub grew : GrewByPrefix written written' page

-- so many rounds of the generated script were played
pub record PlaysBench (count : ℕ) (written written' : Option (List ℕ)) (told tells : LinkTold) (report : FlushReport) : Type 0 where
  -- what the sink tells grew by the last page
  pub page : IsBenched count written written'
  -- and the link was handed the payloads of one flush a round, as the report says
  pub sent : ForSomeFlushes bench_settings_text flush_start (bench_script count).rounds (λ flushes. Delivers bench_settings_text default_agent flushes told tells none_sent report)

-- what a link tells that keeps nothing and never fails
abbrev pub keeps_none : LinkTold
keeps_none = record { sent = None; faults = 0 }

-- the report is that of the flushes of the generated script to the default agent over such a link: each payload was sent
pub record IsBenchReport (count : ℕ) (report : Report) : Type 0 where
  pub sent : IsSent (bench_script count) default_agent keeps_none keeps_none report
  pub unsent : report.unsent ≡ 0
