-- A player between rounds: what the next round asks of it, and where it stands in a play.
use Rattle.std.proofs.Common.{◌≡◌, ℕ, List, [], ◌∷◌, map, refl, sym, ap, subst, ◌∙◌, arith}
use Rattle.std.specs.Prelude.{All, Option, Some}
use Rattle.std.proofs.lemmas.List.Elements.{All-cons, All-head, All-nil, All-tail}
use Rattle.metrics_core.specs.Outside.{GrewBy, GrewByPrefix}
use Rattle.metrics_core.specs.declared.kinds.SeriesId.{SeriesId}
use Rattle.dsd_addresses.specs.Remotes.{RemoteText}
use Rattle.drive_script.specs.Script.{CallLine, RoundText, ScriptText, SettingsText}
use Rattle.drive_script.specs.Texts.{call_line_of}
use Rattle.drive_script.specs.declared.script.CallLine.{CallLine as CallValue}
use Rattle.script_player.specs.Faults.{CanPlay}
use Rattle.script_player.specs.Fitting.{CallsFit, FitsHandle}
use Rattle.script_player.specs.Flushes.{FlushPlay, ForSomeFlushOrders, after_flush, after_registers, flush_of}
use Rattle.script_player.specs.Orders.{ForSomeOrders, round_text}
use Rattle.script_player.specs.Play.{PlayState, after_round, after_setup}
use Rattle.script_player.specs.Player.{Awaits, FitsCalls, IsReadyFor, PlayerText, SendsNothing, first_player}
use Rattle.script_player.specs.Recorded.{AllRecordSome, RecordsSome}
use Rattle.script_player.specs.Rounds.{CutsRound, PlaysRound}
use Rattle.script_player.specs.Sent.{Delivers, LinkTold}
use Rattle.script_player.specs.Timely.{IsTimelyState}
use Rattle.script_player.proofs.Delivered.{FlushedSoFar, flushed-round, flushed-start}
use Rattle.script_player.proofs.Fits.{calls_fit, first_fits, lines_calls_fit, lines_rest_fits, rest_fits}
use Rattle.script_player.proofs.TimelyRounds.{later_timely, round_timely}

-- ---- what rounds ask

-- those of a script, of a player that is new
pub first_awaits : (allows to : RemoteText) (script : ScriptText) → CanPlay allows script → Awaits 0 script.rounds (first_player script.settings to)
first_awaits allows to script can = record { fit = can.fit; lines_fit = can.fit; some = can.some; timely = All-nil _; rises = can.moments }

-- the first of them
pub first_awaited : (m : ℕ) (player : PlayerText) (round : RoundText) (left : List RoundText) → Awaits m (round ∷ left) player → Awaits round.moment (round ∷ []) player
first_awaited m player round left awaits = record {
  fit = first_fits player.pages.handles round left awaits.fit;
  lines_fit = first_fits player.flushes.handles round left awaits.lines_fit;
  some = All-cons AllRecordSome round [] (All-head AllRecordSome round left awaits.some) (All-nil AllRecordSome);
  timely = later_timely m round.moment player.pages.prometheus awaits.rises.0 awaits.timely;
  rises = (omega arith, tt);
}

-- the others, of the player behind it
pub next_awaited : (m : ℕ) (player after : PlayerText) (round : RoundText) (left : List RoundText) → Awaits m (round ∷ left) player → IsTimelyState round.moment after.pages.prometheus
    → after.pages.handles ≡ (after_setup player.pages round).handles → after.flushes.handles ≡ (after_registers player.flushes round).handles → Awaits round.moment left after
next_awaited m player after round left awaits timely handles lines_handles = record {
  fit = subst (λ (hs : List SeriesId). CallsFit hs left) (sym handles) (rest_fits player.pages round left awaits.fit);
  lines_fit = subst (λ (hs : List SeriesId). CallsFit hs left) (sym lines_handles) (lines_rest_fits player.flushes round left awaits.lines_fit);
  some = All-tail AllRecordSome round left awaits.some;
  timely = timely;
  rises = awaits.rises.1;
}

-- its calls, behind its setup
pub calls_awaited : (player middle : PlayerText) (round : RoundText) (calls : List CallValue) → round.calls ≡ map call_line_of calls → Awaits round.moment (round ∷ []) player
    → middle.pages ≡ after_setup player.pages round → middle.flushes ≡ after_registers player.flushes round → FitsCalls middle calls
calls_awaited player middle round calls are awaits stepped registered = record {
  fit = subst (λ (p : PlayState). All (λ (line : CallValue). FitsHandle p.handles (call_line_of line)) calls) (sym stepped) (calls_fit player.pages round [] calls are awaits.fit);
  lines_fit = subst (λ (p : FlushPlay). All (λ (line : CallValue). FitsHandle p.handles (call_line_of line)) calls) (sym registered) (lines_calls_fit player.flushes round [] calls are awaits.lines_fit);
  some = subst (All (λ (call : CallLine). RecordsSome call.act)) are (All-head AllRecordSome round [] awaits.some);
}

-- what is not changed by setup lines and calls
pub sends_nothing : (old same : PlayerText) (pages : PlayState) (flushes : FlushPlay) → same ≡ old → SendsNothing old (record same { pages = pages; flushes = flushes })
sends_nothing old same pages flushes is = record {
  settings = ap (λ (p : PlayerText). p.settings) is;
  to = ap (λ (p : PlayerText). p.to) is;
  waiting = ap (λ (p : PlayerText). p.waiting) is;
  report = ap (λ (p : PlayerText). p.report) is;
}

-- ---- where it stands

-- The player stands before the rounds that are left, in a play of all that began with the first: the flushes of the others were delivered.
pub record StandsBefore (first : PlayerText) (all : List RoundText) (told tells : LinkTold) (player : PlayerText) (left : List RoundText) : Type 0 where
  pub settings : player.settings ≡ first.settings
  pub to : player.to ≡ first.to
  pub none_waits : player.waiting ≡ []
  pub moment : ℕ
  pub awaits : Awaits moment left player
  pub flushed : FlushedSoFar first.settings first.to first.flushes all player.flushes left told tells first.report player.report

module _ (first : PlayerText) (all : List RoundText) (told : LinkTold) where
  pub stands-start : (m : ℕ) → first.waiting ≡ [] → Awaits m all first → StandsBefore first all told told first all
  stands-start m none_waits awaits = record {
    settings = refl;
    to = refl;
    none_waits = none_waits;
    moment = m;
    awaits = awaits;
    flushed = flushed-start first.settings first.to first.flushes all told first.report;
  }

  module _ (tells : LinkTold) (player : PlayerText) (round : RoundText) (left : List RoundText) (stands : StandsBefore first all told tells player (round ∷ left)) where
    -- the next round can be played
    pub stands-ready : (aimed : Option RemoteText) → aimed ≡ Some first.to → IsReadyFor round.moment (round ∷ []) aimed player
    stands-ready aimed aims = record {
      awaits = first_awaited stands.moment player round left stands.awaits;
      sends = record { none_waits = stands.none_waits; aims = aims ∙ ap Some (sym stands.to) };
    }

    -- it was, and its page is as the first settings ask for
    module _ (after : PlayerText) (written written' : Option (List ℕ)) (tells' : LinkTold) (played : PlaysRound round player after written written' tells tells') where
      pub stands-page : ForSomeOrders player.pages round (λ orders. (after.pages ≡ after_round first.settings player.pages round orders) × GrewBy written written' (round_text first.settings player.pages round orders))
      stands-page =
          subst (λ (s : SettingsText). ForSomeOrders player.pages round (λ orders. (after.pages ≡ after_round s player.pages round orders) × GrewBy written written' (round_text s player.pages round orders)))
          stands.settings played.page

      pub stands-round : StandsBefore first all told tells' after left
      stands-round = record {
        settings = played.settings ∙ stands.settings;
        to = played.to ∙ stands.to;
        none_waits = played.none_waits;
        moment = round.moment;
        awaits = next_awaited stands.moment player after round left stands.awaits
            (round_timely player.settings player.pages after.pages round played.page.0 (later_timely stands.moment round.moment player.pages.prometheus stands.awaits.rises.0 stands.awaits.timely) played.page.2.0)
            (ap (λ (p : PlayState). p.handles) played.page.2.0) (ap (λ (p : FlushPlay). p.handles) played.flush.2.0);
        flushed = flushed-round first.settings first.to first.flushes all player.flushes after.flushes round left told tells tells' first.report player.report after.report stands.flushed
            (subst (λ (t : RemoteText). ForSomeFlushOrders player.flushes round (λ orders. (after.flushes ≡ after_flush player.flushes round orders)
            × Delivers first.settings t (flush_of first.settings player.flushes round orders ∷ []) tells tells' player.report after.report)) stands.to
            (subst (λ (s : SettingsText). ForSomeFlushOrders player.flushes round (λ orders. (after.flushes ≡ after_flush player.flushes round orders)
            × Delivers s player.to (flush_of s player.flushes round orders ∷ []) tells tells' player.report after.report)) stands.settings played.flush));
      }

    -- one that is cut off
    pub stands-cut : (written written' : Option (List ℕ)) (tells' : LinkTold) → CutsRound round player written written' tells tells'
        → ForSomeOrders player.pages round (λ orders. GrewByPrefix written written' (round_text first.settings player.pages round orders))
    stands-cut written written' tells' cut =
        subst (λ (s : SettingsText). ForSomeOrders player.pages round (λ orders. GrewByPrefix written written' (round_text s player.pages round orders))) stands.settings cut.page
