-- What a play leaves that ends within a round: the pages and the flushes of the rounds before it, and a prefix of its own page (this project's rule).
use Rattle.std.specs.Prelude.{◌≡◌, ℕ, List, [], ◌∷◌, ◌++◌, Option}
use Rattle.metrics_core.specs.Outside.{GrewBy}
use Rattle.dsd_addresses.specs.Remotes.{RemoteText}
use Rattle.dsd_exporter.specs.declared.sending.FlushReport.{FlushReport}
use Rattle.prom_format.specs.Pages.{IsPage}
use Rattle.drive_script.specs.Script.{RoundText, ScriptText, SettingsText}
use Rattle.script_player.specs.Flushes.{FlushPlay, ForSomeFlushes, flush_start}
use Rattle.script_player.specs.Headline.{ArePages}
use Rattle.script_player.specs.Orders.{ForSomeOrders}
use Rattle.script_player.specs.Play.{PlayState, RoundOrders, AreOrdersAlong, after_round, page_of, pages_along, play_start}
use Rattle.script_player.specs.Sent.{Delivers, LinkTold, none_sent}

-- the state of the pages behind some rounds, with these orders of their calls
abbrev pub after_rounds : SettingsText → PlayState → List RoundText → List RoundOrders → PlayState
after_rounds settings p [] _ = p
after_rounds settings p (_ ∷ _) [] = p
after_rounds settings p (round ∷ rounds) (orders ∷ choice) = after_rounds settings (after_round settings p round orders) rounds choice

-- the bytes are a prefix of the page of the first of these rounds, none or all of it included, for some orders of its calls; without a round they are none
abbrev pub BeginsPage : SettingsText → PlayState → List RoundText → List ℕ → Type 0
BeginsPage settings p [] begun = begun ≡ []
BeginsPage settings p (round ∷ _) begun =
    ForSomeOrders p round (λ orders. (page rest : List ℕ) × IsPage page (page_of settings p round orders) × (page ≡ begun ++ rest))

-- for one order of the calls on each series in each round, the bytes are the pages of the rounds that are done, one after another, and a prefix of the page of the next
pub record ArePagesUpTo (settings : SettingsText) (p : PlayState) (done left : List RoundText) (bytes : List ℕ) : Type 0 where
  pub orders : List RoundOrders
  pub legal : AreOrdersAlong settings p done orders
  pub whole : List ℕ
  pub begun : List ℕ
  pub pages : ArePages whole (pages_along settings p done orders)
  pub next : BeginsPage settings (after_rounds settings p done orders) left begun
  pub cut : bytes ≡ whole ++ begun

-- Of these rounds the first were done: what the sink tells grew by their pages and a prefix of the page of the next, and the link was handed their flushes
-- and nothing of the next. So there are as many flushes as pages, or one fewer, of the same rounds in their order.
pub record EndsWithin (settings : SettingsText) (to : RemoteText) (p : PlayState) (q : FlushPlay) (rounds : List RoundText) (written written' : Option (List ℕ)) (told tells : LinkTold)
    (before : FlushReport) : Type 0 where
  pub done : List RoundText
  pub left : List RoundText
  pub split : rounds ≡ done ++ left
  pub text : List ℕ
  pub pages : ArePagesUpTo settings p done left text
  pub grew : GrewBy written written' text
  pub flushed : ForSomeFlushes settings q done (λ flushes. (now : FlushReport) × Delivers settings to flushes told tells before now)

-- so of a script
abbrev pub IsCutOff : ScriptText → RemoteText → Option (List ℕ) → Option (List ℕ) → LinkTold → LinkTold → Type 0
IsCutOff script to written written' told tells = EndsWithin script.settings to (play_start script.settings) flush_start script.rounds written written' told tells none_sent
