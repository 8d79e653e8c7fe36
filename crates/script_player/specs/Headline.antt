-- What a run of a script writes.
use Rattle.std.specs.Prelude.{◌≡◌, ℕ, ◌≤◌, List, [], ◌∷◌, ◌++◌, length, Option, None}
use Rattle.metrics_core.specs.Outside.{GrewBy, GrewByPrefix}
use Rattle.prom_format.specs.Pages.{Family, IsPage}
use Rattle.drive_script.specs.Script.{ScriptText}
use Rattle.drive_script.specs.Settings.{refused_setting}
use Rattle.drive_script.specs.Valid.{IsScriptOf}
use Rattle.dsd_addresses.specs.Remotes.{RemoteText}
use Rattle.script_player.specs.Play.{RoundOrders, AreOrders, pages_of}

-- the bytes are these pages, one after another
abbrev pub ArePages : List ℕ → List (List Family) → Type 0
ArePages bytes [] = bytes ≡ []
ArePages bytes (families ∷ pages) =
    (page rest : List ℕ) × (bytes ≡ page ++ rest) × IsPage page families × ArePages rest pages

-- For one order of the calls on each series in each round, the bytes are one page for each round, ended by `# EOF`, and
-- each page is exactly the families of the exporter's state at its round's moment.
pub record IsPagesOf (script : ScriptText) (bytes : List ℕ) : Type 0 where
  pub orders : List RoundOrders
  pub legal : AreOrders script orders
  pub pages : ArePages bytes (pages_of script orders)

-- the most bytes that a script may have
abbrev pub script_limit : ℕ
script_limit = 67108864

-- the bytes are within the limit, and a valid script
abbrev pub IsGoodScript : List ℕ → ScriptText → Type 0
IsGoodScript bytes script = (length bytes ≤ script_limit) × IsScriptOf bytes script

-- the bytes are a valid script none of whose settings is refused where its payloads go, and what the sink tells grew by the pages of its run
pub record IsPlayed (bytes : List ℕ) (written written' : Option (List ℕ)) : Type 0 where
  pub script : ScriptText
  pub reading : IsGoodScript bytes script
  pub to : RemoteText
  pub allowed : refused_setting script.settings to ≡ None
  pub text : List ℕ
  pub pages : IsPagesOf script text
  pub grew : GrewBy written written' text

-- the bytes are a valid script none of whose settings is refused where payloads go to this address, and what the sink tells grew by a prefix of the pages of its run
pub record IsPlayedInPart (to : RemoteText) (bytes : List ℕ) (written written' : Option (List ℕ)) : Type 0 where
  pub script : ScriptText
  pub reading : IsGoodScript bytes script
  pub allowed : refused_setting script.settings to ≡ None
  pub text : List ℕ
  pub pages : IsPagesOf script text
  pub grew : GrewByPrefix written written' text
