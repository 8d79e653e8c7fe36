-- What payloads, accounts and pages do to the state of a bridge.
use Rattle.std.specs.Prelude.{◌≡◌, ℕ, Bool, ◌⊎◌, List, Option}
use Rattle.dsd_lines.specs.declared.dialects.Dialect.TheVariants.{DogStatsd}
use Rattle.dsd_lines.specs.Grammar.{LineText}
use Rattle.dsd_lines.specs.Payloads.{payload_lines}
use Rattle.dsd_receiver.specs.Received.{AreRead, Receives, after_readings, count_bad, count_lines}
use Rattle.dsd_receiver.specs.Receiving.{StopsAfter}
use Rattle.prom_format.specs.Pages.{body_text}
use Rattle.prom_exporter.specs.Families.{families_written}
use Rattle.prom_exporter.specs.State.{page_step}
use Rattle.statsd_bridge.specs.Bridge.{BridgeState}
use Rattle.statsd_bridge.specs.Counted.{account_text, cut_counted, heard_counted, nothing, untold}

-- the lines of a payload were received in order, each once, and it was counted
pub record Hears (moment : ℕ) (payload : List ℕ) (b c : BridgeState) : Type 0 where
  pub readings : List (Option LineText)
  pub are_read : AreRead b.dialect (payload_lines payload) readings
  pub left : c ≡ record b {
    state = after_readings moment readings b.state;
    unsaid = heard_counted payload (count_lines readings) (count_bad readings) b.unsaid;
  }

-- want of memory cut it: its first lines were received, and the next one in part
pub record HearsInPart (moment : ℕ) (payload : List ℕ) (b c : BridgeState) : Type 0 where
  pub done : ℕ
  pub registered : Bool
  pub values : ℕ
  pub stops : StopsAfter b.dialect moment (payload_lines payload) b.state done registered values c.state
  pub left : c ≡ record b { state = c.state; unsaid = cut_counted payload b.unsaid }

-- the lines of the account were received
pub record Accounts (moment : ℕ) (b c : BridgeState) : Type 0 where
  pub receives : Receives DogStatsd moment (payload_lines (account_text b.unsaid)) b.state c.state
  pub left : c ≡ record b { state = c.state; unsaid = nothing }

-- so many of them were, and the next one in part
pub record AccountsInPart (moment : ℕ) (b c : BridgeState) : Type 0 where
  pub done : ℕ
  pub registered : Bool
  pub values : ℕ
  pub stops : StopsAfter DogStatsd moment (payload_lines (account_text b.unsaid)) b.state done registered values c.state
  pub left : c ≡ record b { state = c.state; unsaid = untold done b.unsaid }

-- a page step, and the body of the page that shows the state then
abbrev pub paged : ℕ → BridgeState → BridgeState
paged moment b = record b { state = page_step b.settings.idle moment b.state }

abbrev pub shown_by : ℕ → BridgeState → List ℕ
shown_by moment b = body_text (families_written b.settings moment (paged moment b).state)

-- a page: the account is told, the page step made, and the text shows the state then
pub record Shows (moment : ℕ) (text : List ℕ) (b c : BridgeState) : Type 0 where
  pub accounted : BridgeState
  pub accounts : Accounts moment b accounted
  pub text_is : text ≡ shown_by moment accounted
  pub left : c ≡ paged moment accounted

-- the same where memory was refused: nothing was done, or the account was told in part, or whole, with the page step or without it
abbrev pub Misses : ℕ → BridgeState → BridgeState → Type 0
Misses moment b c =
    (c ≡ b) ⊎ AccountsInPart moment b c
    ⊎ ((accounted : BridgeState) × Accounts moment b accounted × ((c ≡ paged moment accounted) ⊎ (c ≡ accounted)))
