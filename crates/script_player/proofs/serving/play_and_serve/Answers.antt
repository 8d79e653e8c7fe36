use Rattle.std.proofs.Common.{ℕ, List, map, subst, sym}
use Rattle.std.specs.Prelude.{IfErr, OnOk}
use Rattle.metrics_core.specs.Outside.{Rose}
use Rattle.prom_serve.specs.Refusals.{excepted}
use Rattle.prom_serve.specs.Serving.{Listening}
use Rattle.prom_serve.specs.declared.errors.ServeError.{ServeError}
use Rattle.prom_serve.specs.declared.errors.ServeError.TheVariants as errors
use Rattle.drive_script.specs.Texts.{script_of, round_of}
use Rattle.script_player.specs.Player.{Awaits, PlayerText}
use Rattle.script_player.specs.Served.{Answers, AnswersInPart, ForSomePage, HasListenerCause}
use Rattle.script_player.specs.Shown.{ForSomeShown}
use Rattle.script_player.proofs.Returned.{if_handed_on}
use Rattle.script_player.proofs.ServingRounds.{none_answered, page_any}
use Rattle.script_player.proofs.Standing.{first_awaits}
use Rattle.script_player.proofs.PlayFaults.{on_every_err}
use Rattle.script_player.proofs.serving.play_and_serve.Goals as goal

pub serve_rounds-served-requires-clause-awaits : goal.serve_rounds-served-requires-clause-awaits
serve_rounds-served-requires-clause-awaits g c κs within = subst (Awaits 0 (map round_of c.args.script.rounds.items)) (sym c.in_ok-player.ensures) (first_awaits _ _ (script_of c.args.script) c.requires.can)

pub returns-in_err-player-clause-in_part : goal.returns-in_err-player-clause-in_part
returns-in_err-player-clause-in_part g c =
    let told : Listening = record { given = g.N.Listener.given c.args.listener.now; finished = g.N.Listener.finished c.args.listener.now } in
    let script = script_of c.args.script in
    let P : ServeError → List ℕ → Type 0 = λ error page. AnswersInPart c.args.networks.now page c.args.count (excepted error) told told in
    on_every_err c.from_residual.result (λ error. ForSomePage script (P error)) (λ error. page_any script (P error) (λ page. none_answered c.args.networks.now page c.args.count (excepted error) told))

pub returns-in_err-player-clause-cause : goal.returns-in_err-player-clause-cause
returns-in_err-player-clause-cause g c =
    if_handed_on c.from_residual.result errors.Memory (HasListenerCause (Rose (g.N.Listener.faults c.args.listener.now) (g.N.Listener.faults c.args.listener.now))) c.from_residual.ensures.1 tt

pub returns-clause-served : goal.returns-clause-served
returns-clause-served g c =
    let rounds = map round_of c.args.script.rounds.items in
    let old : Listening = record { given = g.N.Listener.given c.args.listener.now; finished = g.N.Listener.finished c.args.listener.now } in
    let new : Listening = record { given = g.N.Listener.given c.serve_rounds-served.new.listener; finished = g.N.Listener.finished c.serve_rounds-served.new.listener } in
    subst (λ (p : PlayerText). OnOk c.serve_rounds-served.result (ForSomeShown rounds p (λ page. Answers c.args.networks.now page c.args.count 0 old new)))
    c.in_ok-player.ensures c.serve_rounds-served.ensures.served

pub returns-clause-in_part : goal.returns-clause-in_part
returns-clause-in_part g c =
    let rounds = map round_of c.args.script.rounds.items in
    let old : Listening = record { given = g.N.Listener.given c.args.listener.now; finished = g.N.Listener.finished c.args.listener.now } in
    let new : Listening = record { given = g.N.Listener.given c.serve_rounds-served.new.listener; finished = g.N.Listener.finished c.serve_rounds-served.new.listener } in
    subst (λ (p : PlayerText). IfErr c.serve_rounds-served.result (λ error. ForSomeShown rounds p (λ page. AnswersInPart c.args.networks.now page c.args.count (excepted error) old new)))
    c.in_ok-player.ensures c.serve_rounds-served.ensures.in_part
