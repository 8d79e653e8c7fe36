-- Rounds that are played one after another without pages between, and what is shown of the exporter behind them.
use Rattle.std.proofs.Common.{◌≡◌, ℕ, zero, suc, ◌+◌, ◌-◌, ⊎_elim, List, [], ◌∷◌, ◌++◌, append-nil, length, take, refl, sym, ap, subst, ◌∙◌, arith}
use Rattle.std.specs.Prelude.{Option, Some, None, IfSome, All, ◌%◌, ◌^◌, Result, Ok, Err, IfErr, OnOk}
use Rattle.std.proofs.lemmas.List.{take_all}
use Rattle.std.proofs.lemmas.List.Elements.{All-nil}
use Rattle.net_addresses.specs.Addresses.{NetworkText}
use Rattle.metrics_core.specs.declared.kinds.SeriesId.{SeriesId}
use Rattle.prom_exporter.specs.Exporter.{Exporter, AllHome, AreTimely, body_shown, page_body, state_of}
use Rattle.prom_exporter.specs.Families.{ExporterSettings}
use Rattle.prom_serve.specs.Connections.{Ended, CountedOn}
use Rattle.prom_serve.specs.Refusals.{excepted}
use Rattle.prom_exporter.proofs.TimelyPages.{timely_page}
use Rattle.prom_serve.specs.Serving.{IsRendered, Listening, MayRender, Renders, Serves, ServesInPart, ShowsPage}
use Rattle.prom_serve.specs.declared.errors.ServeError.{ServeError}
use Rattle.drive_script.specs.Script.{RoundText, ScriptText}
use Rattle.script_player.specs.Flushes.{FlushPlay, IsFlushCalled, after_registers}
use Rattle.script_player.specs.InTurn.{orders_in_turn}
use Rattle.script_player.specs.Orders.{ForSomeOrders, IsCalled}
use Rattle.script_player.specs.Play.{PlayState, RoundOrders, AreOrdersOf, after_calls, after_setup, play_start}
use Rattle.script_player.specs.Resting.{AllRest}
use Rattle.script_player.specs.Rounds.{RestsOn}
use Rattle.script_player.specs.Served.{Answers, AnswersInPart, AreServedOrdersAlong, ForSomePage, ForSomeServed, IsShownPage, listed, moment_from, served_along, served_body}
use Rattle.script_player.specs.Timely.{IsTimelyState, RiseFrom}
use Rattle.script_player.proofs.Rendered.{timely_exporter}
use Rattle.script_player.proofs.RestingSteps.{page_rests_on, rest_home, upkeep_rests_on}
use Rattle.script_player.proofs.RunPages.{orders_of_kind}
use Rattle.script_player.proofs.TimelyRounds.{later_timely, shown_timely}

-- ---- orders

-- the orders in which each series' calls stand as in the script
in_turn : PlayState → List RoundText → List RoundOrders
in_turn p [] = []
in_turn p (round ∷ rounds) = orders_in_turn p round ∷ in_turn (after_calls (after_setup p round) round (orders_in_turn p round)) rounds

in_turn_legal : (p : PlayState) (rounds : List RoundText) → AreServedOrdersAlong p rounds (in_turn p rounds)
unfolding in_turn
in_turn_legal p [] = tt
in_turn_legal p (round ∷ rounds) = (
  λ kind. orders_of_kind (after_setup p round) round kind,
  in_turn_legal (after_calls (after_setup p round) round (orders_in_turn p round)) rounds,
)

-- what is so of every state is so for some orders
pub served_any : (p : PlayState) (rounds : List RoundText) (P : PlayState → Type 0) → ((q : PlayState) → P q) → ForSomeServed p rounds P
served_any p rounds P every = (in_turn p rounds, in_turn_legal p rounds, every (served_along p rounds (in_turn p rounds)))

pub page_any : (script : ScriptText) (P : List ℕ → Type 0) → ((page : List ℕ) → P page) → ForSomePage script P
page_any script P every =
    let choice = in_turn (play_start script.settings) script.rounds in
    (choice, in_turn_legal (play_start script.settings) script.rounds, every (served_body script choice))

-- ---- rounds

-- The state behind all rounds is that behind the rounds to come, whatever orders these have.
abbrev pub IsServedSoFar : PlayState → List RoundText → PlayState → List RoundText → Type 0
IsServedSoFar start all p rounds =
    (rest : List RoundOrders) → AreServedOrdersAlong p rounds rest
    → (choice : List RoundOrders) × AreServedOrdersAlong start all choice × (served_along start all choice ≡ served_along p rounds rest)

pub served_so_far-start : (start : PlayState) (all : List RoundText) → IsServedSoFar start all start all
served_so_far-start start all rest legal = (rest, legal, refl)

pub served_so_far-round : (start : PlayState) (all : List RoundText) (p q : PlayState) (round : RoundText) (rounds : List RoundText) → IsServedSoFar start all p (round ∷ rounds)
    → ForSomeOrders p round (λ orders. q ≡ after_calls (after_setup p round) round orders) → IsServedSoFar start all q rounds
served_so_far-round start all p q round rounds so_far (orders, legal, state) =
    subst (λ s. IsServedSoFar start all s rounds) (sym state) (λ rest legal_rest. so_far (orders ∷ rest) (legal, legal_rest))

pub served_so_far-end : (start : PlayState) (all : List RoundText) (p : PlayState) (rounds : List RoundText) → rounds ≡ [] → IsServedSoFar start all p rounds → ForSomeServed start all (λ play. p ≡ play)
served_so_far-end start all p rounds none so_far =
    let whole = subst (λ rs. IsServedSoFar start all p rs) none so_far [] tt in
    (whole.0, whole.1, sym whole.2)

-- a round from its parts: q is the state after its setup
pub called_round : (p q r : PlayState) (round : RoundText) → q ≡ after_setup p round → IsCalled q round r → ForSomeOrders p round (λ orders. r ≡ after_calls (after_setup p round) round orders)
called_round p q r round set_up called =
    (called.0, subst (λ s. AreOrdersOf s round called.0) set_up called.1, called.2 ∙ ap (λ s. after_calls s round called.0) set_up)

-- the handles of the flushes behind it
pub called_handles : (p q r : FlushPlay) (round : RoundText) → q ≡ after_registers p round → IsFlushCalled q round r → r.handles ≡ (after_registers p round).handles
called_handles p q r round set_up called = ap (λ (x : FlushPlay). x.handles) called.2 ∙ ap (λ (x : FlushPlay). x.handles) set_up

-- ---- moments

-- behind the calls of a round
pub unshown_timely : (p q : PlayState) (round : RoundText) → IsTimelyState round.moment p.prometheus → ForSomeOrders p round (λ orders. q ≡ after_calls (after_setup p round) round orders)
    → IsTimelyState round.moment q.prometheus
unshown_timely p q round timely (orders, legal, is) = shown_timely p (after_setup p round) q round timely refl (orders, legal, is)

-- moments that rise do so behind the rounds, too
pub served_timely : (moment : ℕ) (p : PlayState) (rounds : List RoundText) (choice : List RoundOrders) → RiseFrom moment rounds → IsTimelyState moment p.prometheus → AreServedOrdersAlong p rounds choice
    → IsTimelyState (moment_from moment rounds) (served_along p rounds choice).prometheus
served_timely moment p [] choice rises timely legal = timely
served_timely moment p (round ∷ rounds) [] rises timely legal = absurd legal
served_timely moment p (round ∷ rounds) (orders ∷ choice) rises timely legal =
    let q = after_setup p round in
    served_timely round.moment (after_calls q round orders) rounds choice rises.1
    (shown_timely p q (after_calls q round orders) round (later_timely moment round.moment p.prometheus rises.0 timely) refl (orders, legal.0, refl)) legal.1

-- ---- networks

pub none_listed : (networks : List NetworkText) → length networks ≡ 0 → listed networks ≡ None
none_listed [] none = refl
none_listed (n ∷ networks) none = absurd (omega (arith, none))

pub some_listed : (networks : List NetworkText) → ¬ (length networks ≡ 0) → listed networks ≡ Some networks
some_listed [] some = absurd (some refl)
some_listed (n ∷ networks) some = refl

-- ---- answers

-- what was shown of an exporter is this page, where that is its page
pub answers_page : (networks : List NetworkText) (moment accepted last : ℕ) (e : Exporter) (page : List ℕ) (old new : Listening) → page_body moment e ≡ page → AllHome e → AreTimely moment e
    → CountedOn old.given new.given accepted → ShowsPage (listed networks) moment accepted last e old.finished new.finished → Answers networks page accepted last old new
answers_page networks moment accepted last e page old new same home timely counted shows =
    subst (λ text. Answers networks text accepted last old new) (timely_page moment e timely ∙ same) (record { given = counted; finished = shows home })

-- a listener that was told nothing
none_finished : (networks : List NetworkText) (page : List ℕ) (last : ℕ) (told : Option (List Ended)) → IfSome told (λ before.
    (ended : List Ended) × (told ≡ Some (before ++ ended)) × (length ended ≡ 0) × All (IsShownPage networks page) (take (0 - last) ended))
none_finished networks page last None = tt
none_finished networks page last (Some before) =
    ([], ap Some (sym (append-nil before)), refl, subst (All (IsShownPage networks page)) (sym (take_all (0 - last) [] (omega arith))) (All-nil (IsShownPage networks page)))

pub none_answered : (networks : List NetworkText) (page : List ℕ) (count last : ℕ) (told : Listening) → AnswersInPart networks page count last told told
none_answered networks page count last told =
    let same : told.given ≡ told.given + 0 = omega arith in
    (0, omega arith, record { given = ap (λ n. n % 2 ^ 64) same; finished = none_finished networks page last told.finished })

-- ---- the exporter behind the rounds

module _ (networks : List NetworkText) (asked : Option (List NetworkText)) (start : PlayState) (rounds : List RoundText) (settings : ExporterSettings) (moment : ℕ) (e : Exporter) (handles : List SeriesId) where
  -- what is known of the exporter behind the rounds, and of what it is asked
  pub record IsBehind : Type 0 where
    pub asked_is : asked ≡ listed networks
    pub moment_is : moment ≡ moment_from 0 rounds
    pub settings_are : e.settings ≡ settings
    pub rests : AllRest e
    pub rises : RiseFrom 0 rounds
    pub timely : IsTimelyState 0 start.prometheus
    pub played : ForSomeServed start rounds (λ play. record { prometheus = state_of e; handles = handles } ≡ play)

  -- what it showed is the page of the state behind the rounds
  pub answers_behind : (accepted last : ℕ) (old new : Listening) → IsBehind → CountedOn old.given new.given accepted → ShowsPage asked moment accepted last e old.finished new.finished
      → ForSomeServed start rounds (λ play. Answers networks (body_shown settings (moment_from 0 rounds) play.prometheus) accepted last old new)
  answers_behind accepted last old new behind counted shows =
      let (choice, legal, same) = behind.played in
      let timely : AreTimely (moment_from 0 rounds) e =
      timely_exporter (moment_from 0 rounds) e (subst (λ (x : PlayState). IsTimelyState (moment_from 0 rounds) x.prometheus) (sym same) (served_timely 0 start rounds choice behind.rises behind.timely legal)) in
      let page : page_body moment e ≡ body_shown settings (moment_from 0 rounds) (served_along start rounds choice).prometheus =
      ap (λ n. page_body n e) behind.moment_is
      ∙ ap (λ s. body_shown s (moment_from 0 rounds) (state_of e)) behind.settings_are
      ∙ ap (λ (x : PlayState). body_shown settings (moment_from 0 rounds) x.prometheus) same in (
        choice,
        legal,
        answers_page networks moment accepted last e _ old new page (rest_home e behind.rests) (subst (λ n. AreTimely n e) (sym behind.moment_is) timely) counted
            (subst (λ a. ShowsPage a moment accepted last e old.finished new.finished) behind.asked_is shows),
      )

  pub served_behind : {T E : Type 0} (r : Result T E) (count : ℕ) (f : Exporter) (old new : Listening) → IsBehind → OnOk r (Serves asked moment count 0 e f old new)
      → OnOk r (ForSomeServed start rounds (λ play. Answers networks (body_shown settings (moment_from 0 rounds) play.prometheus) count 0 old new))
  served_behind (Ok v) count f old new behind serves = answers_behind count 0 old new behind serves.accepts.given serves.pages
  served_behind (Err v) count f old new behind serves = tt

  pub served_behind_in_part : {T : Type 0} (r : Result T ServeError) (count : ℕ) (f : Exporter) (old new : Listening) → IsBehind → IfErr r (λ error. ServesInPart asked moment count (excepted error) e f old new)
      → IfErr r (λ error. ForSomeServed start rounds (λ play. AnswersInPart networks (body_shown settings (moment_from 0 rounds) play.prometheus) count (excepted error) old new))
  served_behind_in_part (Ok v) count f old new behind part = tt
  served_behind_in_part (Err error) count f old new behind (accepted, few, serves) =
      let answered = answers_behind accepted (excepted error) old new behind serves.accepts.given serves.pages in
      (answered.0, answered.1, (accepted, few, answered.2))

-- ---- what serving leaves

may_rest : (moment : ℕ) (e f : Exporter) → AllRest e → MayRender moment e f → RestsOn e f
may_rest moment e f rest may =
    ⊎_elim (λ (same : f ≡ e). record { rest = subst AllRest (sym same) rest; settings = ap (λ (x : Exporter). x.settings) same })
    (λ (rendered : IsRendered moment e f). ⊎_elim (page_rests_on moment e f rest) (upkeep_rests_on e f rest) rendered.steps) may

renders_rest : (moment most : ℕ) (e f : Exporter) → AllRest e → Renders moment most e f → RestsOn e f
renders_rest moment zero e f rest same = record { rest = subst AllRest (sym same) rest; settings = ap (λ (x : Exporter). x.settings) same }
renders_rest moment (suc most) e f rest (middle, before, last) =
    let first = renders_rest moment most e middle rest before in
    let then_on = may_rest moment middle f first.rest last in
    record { rest = then_on.rest; settings = then_on.settings ∙ first.settings }

-- an exporter at rest is so behind connections, however they ended
pub served_rests : {T : Type 0} (asked : Option (List NetworkText)) (moment count : ℕ) (e f : Exporter) (old new : Listening) (r : Result T ServeError) → AllRest e → OnOk r (Serves asked moment count 0 e f old new)
    → IfErr r (λ error. ServesInPart asked moment count (excepted error) e f old new) → RestsOn e f
served_rests asked moment count e f old new (Ok v) rest all part = renders_rest moment count e f rest all.accepts.renders
served_rests asked moment count e f old new (Err error) rest all (accepted, few, part) = renders_rest moment accepted e f rest part.accepts.renders
