-- What a play of a script does whose page is served: to the exporter of the pages, and to those who fetch the page (this project's
-- rule).
use Rattle.std.specs.Prelude.{◌≡◌, ℕ, ◌-◌, ◌≤◌, List, [], ◌∷◌, ◌++◌, length, take, Option, Some, None, IfSome, All}
use Rattle.net_addresses.specs.Addresses.{NetworkText}
use Rattle.prom_format.specs.Pages.{Family, body_text}
use Rattle.prom_exporter.specs.Exporter.{families_shown}
use Rattle.prom_serve.specs.Connections.{Ended, CountedOn}
use Rattle.prom_serve.specs.Serving.{IsAnswered, Listening}
use Rattle.prom_serve.specs.declared.errors.ServeError.{ServeError}
use Rattle.prom_serve.specs.declared.errors.ServeError.TheVariants as errors
use Rattle.drive_script.specs.Script.{ScriptText, RoundText}
use Rattle.script_player.specs.Play.{PlayState, RoundOrders, AreOrdersOf, after_calls, after_setup, exporter_settings, play_start}

-- ---- the play without pages

-- one order for each series that is live in it, for each round, along one chain of states; between rounds no page is rendered
abbrev pub AreServedOrdersAlong : PlayState → List RoundText → List RoundOrders → Type 0
AreServedOrdersAlong p [] [] = Unit {0}
AreServedOrdersAlong p [] (_ ∷ _) = ⊥
AreServedOrdersAlong p (_ ∷ _) [] = ⊥
AreServedOrdersAlong p (round ∷ rounds) (orders ∷ choice) =
    AreOrdersOf (after_setup p round) round orders × AreServedOrdersAlong (after_calls (after_setup p round) round orders) rounds choice

-- the state behind the rounds: of each its setup, and its calls in these orders
abbrev pub served_along : PlayState → List RoundText → List RoundOrders → PlayState
served_along p [] _ = p
served_along p (_ ∷ _) [] = p
served_along p (round ∷ rounds) (orders ∷ choice) = served_along (after_calls (after_setup p round) round orders) rounds choice

-- the moment of the last round, or this one without rounds
abbrev pub moment_from : ℕ → List RoundText → ℕ
moment_from moment [] = moment
moment_from moment (round ∷ rounds) = moment_from round.moment rounds

-- so of a script: 0 without rounds
abbrev pub last_moment : ScriptText → ℕ
last_moment script = moment_from 0 script.rounds

-- one order for each round and each series that is live in it
abbrev pub AreServedOrders : ScriptText → List RoundOrders → Type 0
AreServedOrders script choice = AreServedOrdersAlong (play_start script.settings) script.rounds choice

abbrev pub served_state : ScriptText → List RoundOrders → PlayState
served_state script choice = served_along (play_start script.settings) script.rounds choice

-- the families that are served: those of one page step at the last round's moment, and the body of their page, which has no line `# EOF`
abbrev pub served_families : ScriptText → List RoundOrders → List Family
served_families script choice = families_shown (exporter_settings script.settings) (last_moment script) (served_state script choice).prometheus

abbrev pub served_body : ScriptText → List RoundOrders → List ℕ
served_body script choice = body_text (served_families script choice)

-- it is so of the state behind some rounds, and of the page of a script, for some orders of each round
abbrev pub ForSomeServed : PlayState → List RoundText → (PlayState → Type 0) → Type 0
ForSomeServed p rounds P = (choice : List RoundOrders) × AreServedOrdersAlong p rounds choice × P (served_along p rounds choice)

abbrev pub ForSomePage : ScriptText → (List ℕ → Type 0) → Type 0
ForSomePage script P = (choice : List RoundOrders) × AreServedOrders script choice × P (served_body script choice)

-- ---- the answers

-- the networks whose peers are shown the page: every peer is where none is given
abbrev pub listed : List NetworkText → Option (List NetworkText)
listed [] = None
listed (network ∷ networks) = Some (network ∷ networks)

-- a connection that was given back without faults was answered by this page
abbrev pub IsShownPage : List NetworkText → List ℕ → Ended → Type 0
IsShownPage networks page ended = ended.faults ≡ 0 → IsAnswered (listed networks) page ended.who ended.told

-- so many connections were accepted and given back, and each peer of theirs but the last few was answered by this page
pub record Answers (networks : List NetworkText) (page : List ℕ) (accepted last : ℕ) (old new : Listening) : Type 0 where
  pub given : CountedOn old.given new.given accepted
  pub finished : IfSome old.finished (λ before.
      (ended : List Ended) × (new.finished ≡ Some (before ++ ended)) × (length ended ≡ accepted) × All (IsShownPage networks page) (take (accepted - last) ended))

-- at most so many were accepted, and each peer of theirs but the last few was answered so
abbrev pub AnswersInPart : List NetworkText → List ℕ → ℕ → ℕ → Listening → Listening → Type 0
AnswersInPart networks page count last old new = (accepted : ℕ) × (accepted ≤ count) × Answers networks page accepted last old new

-- ---- causes

-- why the page wasn't served to the last connection: the listener failed, or memory was refused
abbrev pub HasListenerCause : Type 0 → ServeError → Type 0
HasListenerCause ListenerFailed errors.FailedToCreateHTTPListener = ListenerFailed
HasListenerCause ListenerFailed errors.Memory = Unit {0}
