-- A round from its parts, and the rounds of a script one after another.
use Rattle.std.proofs.Common.{◌≡◌, ℕ, ◌+◌, ◌<◌, List, [], ◌∷◌, length, map, drop, drop-cons, get_or, suc, add-one, refl, sym, ap, subst, ◌∙◌}
use Rattle.std.specs.Prelude.{Option}
use Rattle.metrics_core.specs.Outside.{GrewBy, GrewByPrefix, GrewUpTo}
use Rattle.metrics_core.proofs.Grown.{grew_none, grew_up_to-append, grew_up_to-end, grew_up_to-prefix, grew_up_to-start}
use Rattle.prom_format.specs.Pages.{page_text}
use Rattle.prom_exporter.specs.State.{page_step}
use Rattle.prom_exporter.specs.Families.{families_at}
use Rattle.prom_exporter.specs.Exporter.{families_shown}
use Rattle.dsd_addresses.specs.Remotes.{RemoteText}
use Rattle.dsd_exporter.specs.State.{FlushItem, flush_items, flush_step}
use Rattle.dsd_exporter.specs.declared.sending.FlushReport.{FlushReport}
use Rattle.drive_script.specs.Script.{RoundText, ScriptText, SettingsText}
use Rattle.drive_script.specs.Texts.{round_of}
use Rattle.drive_script.specs.declared.script.Round.{Round}
use Rattle.script_player.specs.Flushes.{AreFlushOrders, FlushPlay, IsFlushCalled, after_line_calls, after_registers, before_flush, dogstatsd_settings, flush_of}
use Rattle.script_player.specs.Play.{PlayState, RoundOrders, AreOrdersAlong, AreOrdersOf, after_calls, after_round, after_setup, exporter_settings, play_start}
use Rattle.script_player.specs.Player.{PlayerText, SendsNothing}
use Rattle.script_player.specs.InTurn.{orders_along, orders_in_turn}
use Rattle.script_player.specs.Orders.{ForSomeOrders, ForSomeRounds, ForSomeRun, IsCalled, round_text, rounds_text}
use Rattle.script_player.specs.Rounds.{CutsPage, CutsRound, EndsRound, PlaysRound, player_page}
use Rattle.script_player.specs.Sent.{Delivers, LinkTold}
use Rattle.script_player.proofs.RunPages.{orders_legal, orders_of_kind}

-- ---- a round

-- A round from its parts: a is the player behind its setup, and b that behind its calls.
module _ (round : RoundText) (p a b : PlayerText) (set_up : SendsNothing p a) (call : SendsNothing a b) (stepped : a.pages ≡ after_setup p.pages round) (called : IsCalled a.pages round b.pages) where
  asked : b.settings ≡ p.settings
  asked = call.settings ∙ set_up.settings

  state : b.pages ≡ after_calls (after_setup p.pages round) round called.0
  state = called.2 ∙ ap (λ s. after_calls s round called.0) stepped

  legal : AreOrdersOf (after_setup p.pages round) round called.0
  legal = subst (λ s. AreOrdersOf s round called.0) stepped called.1

  page_is : player_page round.moment b ≡ round_text p.settings p.pages round called.0
  page_is =
      ap (λ (s : SettingsText). page_text (families_shown (exporter_settings s) round.moment b.pages.prometheus)) asked
      ∙ ap (λ (x : PlayState). page_text (families_at (exporter_settings p.settings) round.moment (page_step (exporter_settings p.settings).idle round.moment x.prometheus))) state

  -- its page was cut off
  pub round_cut : (written written' : Option (List ℕ)) (told tells : LinkTold) → CutsPage round.moment b written written' told tells → CutsRound round p written written' told tells
  round_cut written written' told tells cut = record { page = (called.0, legal, subst (GrewByPrefix written written') page_is cut.prefix); unsent = cut.unsent }

  -- it was played
  module _ (registered : a.flushes ≡ after_registers p.flushes round) (lines_called : IsFlushCalled a.flushes round b.flushes) where
    lines_state : b.flushes ≡ before_flush p.flushes round lines_called.0
    lines_state = lines_called.2 ∙ ap (λ s. after_line_calls s round lines_called.0) registered

    module _ (q : PlayerText) (written written' : Option (List ℕ)) (told tells : LinkTold) (ends : EndsRound round.moment b q written written' told tells) where
      abbrev items : SettingsText → FlushPlay → List (List FlushItem)
      items s x = flush_items (dogstatsd_settings s) s.dsd_globals round.moment [] x.dogstatsd ∷ []

      delivered : Delivers p.settings p.to (flush_of p.settings p.flushes round lines_called.0 ∷ []) told tells p.report q.report
      delivered =
          subst (λ (x : FlushPlay). Delivers p.settings p.to (items p.settings x) told tells p.report q.report) lines_state
          (subst (λ (r : FlushReport). Delivers p.settings p.to (items p.settings b.flushes) told tells r q.report) (call.report ∙ set_up.report)
          (subst (λ (t : RemoteText). Delivers p.settings t (items p.settings b.flushes) told tells b.report q.report) (call.to ∙ set_up.to)
          (subst (λ (s : SettingsText). Delivers s b.to (items s b.flushes) told tells b.report q.report) asked ends.sent)))

      pub round_played : PlaysRound round p q written written' told tells
      round_played = record {
        settings = ends.settings ∙ asked;
        to = ends.to ∙ (call.to ∙ set_up.to);
        none_waits = ends.none_waits;
        page = (
          called.0,
          legal,
          (
            ends.pages
                ∙ (ap (λ (s : SettingsText). record b.pages { prometheus = page_step (exporter_settings s).idle round.moment b.pages.prometheus }) asked
                ∙ ap (λ (x : PlayState). record x { prometheus = page_step (exporter_settings p.settings).idle round.moment x.prometheus }) state),
            subst (GrewBy written written') page_is ends.page,
          ),
        );
        flush = (
          lines_called.0,
          subst (λ s. AreFlushOrders s round lines_called.0) registered lines_called.1,
          (ends.flushes ∙ ap (λ (x : FlushPlay). record x { dogstatsd = flush_step x.dogstatsd }) lines_state, delivered),
        );
      }

-- where no page was begun
pub round_unbegun : (settings : SettingsText) (p : PlayState) (round : RoundText) (told : Option (List ℕ)) → ForSomeOrders p round (λ orders. GrewByPrefix told told (round_text settings p round orders))
round_unbegun settings p round told = (orders_in_turn p round, (λ kind. orders_of_kind (after_setup p round) round kind), grew_none told _)

-- ---- rounds

-- What was written so far, from a state and rounds on, is all that is written but for the rounds to come, whatever orders these have.
abbrev pub IsSoFar : SettingsText → PlayState → List RoundText → PlayState → List RoundText → Option (List ℕ) → Option (List ℕ) → Type 0
IsSoFar settings start all p rounds written written' =
    (rest : List RoundOrders) → AreOrdersAlong settings p rounds rest
    → (choice : List RoundOrders) × AreOrdersAlong settings start all choice × GrewUpTo written written' (rounds_text settings start all choice) (rounds_text settings p rounds rest)

pub so_far-start : (settings : SettingsText) (start : PlayState) (all : List RoundText) (told : Option (List ℕ)) → IsSoFar settings start all start all told told
so_far-start settings start all told rest legal = (rest, legal, grew_up_to-start told (rounds_text settings start all rest))

pub so_far-round : (settings : SettingsText) (start : PlayState) (all : List RoundText) (p q : PlayState) (round : RoundText) (rounds : List RoundText) (a b c : Option (List ℕ)) → IsSoFar settings start all p (round ∷ rounds) a b
    → ForSomeOrders p round (λ orders. (q ≡ after_round settings p round orders) × GrewBy b c (round_text settings p round orders)) → IsSoFar settings start all q rounds a c
so_far-round settings start all p q round rounds a b c so_far (orders, legal, (state, grew)) = subst (λ s. IsSoFar settings start all s rounds a c) (sym state) (λ rest legal_rest.
    let longer = so_far (orders ∷ rest) (legal, legal_rest) in
    (longer.0, longer.1, grew_up_to-append a b c (rounds_text settings start all longer.0) (round_text settings p round orders) (rounds_text settings (after_round settings p round orders) rounds rest) longer.2 grew))

pub so_far-cut : (settings : SettingsText) (start : PlayState) (all : List RoundText) (p : PlayState) (round : RoundText) (rounds : List RoundText) (a b c : Option (List ℕ)) → IsSoFar settings start all p (round ∷ rounds) a b
    → ForSomeOrders p round (λ orders. GrewByPrefix b c (round_text settings p round orders)) → ForSomeRounds settings start all (GrewByPrefix a c)
so_far-cut settings start all p round rounds a b c so_far (orders, legal, grew) =
    let after = after_round settings p round orders in
    let rest = orders_along settings after rounds in
    let whole = so_far (orders ∷ rest) (legal, orders_legal settings after rounds) in
    (whole.0, whole.1, grew_up_to-prefix a b c (rounds_text settings start all whole.0) (round_text settings p round orders) (rounds_text settings after rounds rest) whole.2 grew)

pub so_far-end : (settings : SettingsText) (start : PlayState) (all : List RoundText) (p : PlayState) (rounds : List RoundText) (a b : Option (List ℕ)) → rounds ≡ [] → IsSoFar settings start all p rounds a b → ForSomeRounds settings start all (GrewBy a b)
so_far-end settings start all p rounds a b none so_far =
    let whole = subst (λ rs. IsSoFar settings start all p rs a b) none so_far [] tt in
    (whole.0, whole.1, grew_up_to-end a b (rounds_text settings start all whole.0) [] refl whole.2)

-- a run of which nothing was written
pub unbegun : (script : ScriptText) (told : Option (List ℕ)) → ForSomeRun script (GrewByPrefix told told)
unbegun script told = (orders_along script.settings (play_start script.settings) script.rounds, orders_legal script.settings (play_start script.settings) script.rounds, grew_none told _)

-- a round and those behind it
pub rounds_behind : (rounds : List Round) (i : ℕ) (round : Round) → i < length rounds → round ≡ get_or rounds i round → map round_of (drop i rounds) ≡ round_of round ∷ map round_of (drop (i + 1) rounds)
rounds_behind rounds i round within found = ap (map round_of) here
  where
    here : drop i rounds ≡ round ∷ drop (i + 1) rounds
    here = rw add-one (drop-cons rounds i round within ∙ ap (λ r. r ∷ drop (suc i) rounds) (sym found))
