use Rattle.std.proofs.Common.{map, ap, ◌∙◌}
use Rattle.std.specs.Prelude.{option_copied}
use Rattle.metrics_core.specs.Outside.{Rose}
use Rattle.prom_exporter.specs.Exporter.{body_shown}
use Rattle.prom_serve.specs.Refusals.{excepted}
use Rattle.prom_serve.specs.Serving.{Listening}
use Rattle.prom_serve.specs.declared.errors.ServeError.{ServeError}
use Rattle.prom_serve.specs.declared.errors.ServeError.TheVariants as errors
use Rattle.drive_script.specs.Texts.{round_of}
use Rattle.script_player.specs.Play.{PlayState, exporter_settings}
use Rattle.script_player.specs.Player.{PlayerText}
use Rattle.script_player.specs.Served.{AnswersInPart, ForSomeServed, HasListenerCause, moment_from}
use Rattle.script_player.proofs.Returned.{if_handed_on}
use Rattle.script_player.proofs.ServingRounds.{IsBehind, none_answered, served_any, served_behind, served_behind_in_part, served_rests}
use Rattle.script_player.proofs.PlayFaults.{listener_failed, on_every_err}
use Rattle.script_player.proofs.play.Player.serve_rounds.Goals as goal

pub returns-in_err-moment-clause-in_part : goal.returns-in_err-moment-clause-in_part
returns-in_err-moment-clause-in_part g c =
    let rounds = map round_of c.args.rounds.items in
    let player = c.args.self.now in
    let own = exporter_settings player.settings in
    let told : Listening = record { given = g.N.Listener.given c.args.listener.now; finished = g.N.Listener.finished c.args.listener.now } in
    let P : ServeError → PlayState → Type 0 = λ error play. AnswersInPart c.args.networks.now (body_shown own (moment_from 0 rounds) play.prometheus) c.args.count (excepted error) told told in
    on_every_err c.from_residual.result (λ error. ForSomeServed player.pages rounds (P error))
    (λ error. served_any player.pages rounds (P error) (λ q. none_answered c.args.networks.now (body_shown own (moment_from 0 rounds) q.prometheus) c.args.count (excepted error) told))

pub returns-in_err-moment-clause-cause : goal.returns-in_err-moment-clause-cause
returns-in_err-moment-clause-cause g c =
    if_handed_on c.from_residual.result errors.Memory (HasListenerCause (Rose (g.N.Listener.faults c.args.listener.now) (g.N.Listener.faults c.args.listener.now))) c.from_residual.ensures.1 tt

pub invariant_of-self : goal.invariant_of-self
invariant_of-self g c =
    let own = c.self.invariant in
    let on = served_rests (option_copied c.listed.result) _ c.args.count c.self.inside.exporters.prometheus c.serve.new.state _ _ c.serve.result own.rest c.serve.ensures.served c.serve.ensures.refused in
    record {
      rest = on.rest;
      lines_rest = own.lines_rest;
      built = on.settings ∙ own.built;
      lines_built = own.lines_built;
      limit = own.limit;
      on_stream = own.on_stream;
      tags = own.tags;
    }

pub returns-clause-served : goal.returns-clause-served
returns-clause-served g c =
    let e = c.self.inside.exporters.prometheus in
    let player = c.args.self.now in
    let settings = exporter_settings player.settings in
    let rounds = map round_of c.args.rounds.items in
    let asked = option_copied c.listed.result in
    let handles = c.self.inside.handles.items in
    let behind : IsBehind c.args.networks.now asked player.pages rounds settings c.in_ok-moment.moment e handles = record {
      asked_is = c.listed.ensures;
      moment_is = c.in_ok-moment.ensures.moment;
      settings_are = c.self.invariant.built ∙ ap (λ (p : PlayerText). exporter_settings p.settings) c.self.view_is ∙ ap exporter_settings c.in_ok-moment.ensures.settings;
      rests = c.self.invariant.rest;
      rises = c.requires.awaits.rises;
      timely = c.requires.awaits.timely;
      played = (c.in_ok-moment.ensures.played.0, c.in_ok-moment.ensures.played.1, ap (λ (p : PlayerText). p.pages) c.self.view_is ∙ c.in_ok-moment.ensures.played.2);
    } in
    served_behind c.args.networks.now asked player.pages rounds settings c.in_ok-moment.moment e handles c.serve.result c.args.count _ _ _ behind c.serve.ensures.served

pub returns-clause-in_part : goal.returns-clause-in_part
returns-clause-in_part g c =
    let e = c.self.inside.exporters.prometheus in
    let player = c.args.self.now in
    let settings = exporter_settings player.settings in
    let rounds = map round_of c.args.rounds.items in
    let asked = option_copied c.listed.result in
    let handles = c.self.inside.handles.items in
    let behind : IsBehind c.args.networks.now asked player.pages rounds settings c.in_ok-moment.moment e handles = record {
      asked_is = c.listed.ensures;
      moment_is = c.in_ok-moment.ensures.moment;
      settings_are = c.self.invariant.built ∙ ap (λ (p : PlayerText). exporter_settings p.settings) c.self.view_is ∙ ap exporter_settings c.in_ok-moment.ensures.settings;
      rests = c.self.invariant.rest;
      rises = c.requires.awaits.rises;
      timely = c.requires.awaits.timely;
      played = (c.in_ok-moment.ensures.played.0, c.in_ok-moment.ensures.played.1, ap (λ (p : PlayerText). p.pages) c.self.view_is ∙ c.in_ok-moment.ensures.played.2);
    } in
    served_behind_in_part c.args.networks.now asked player.pages rounds settings c.in_ok-moment.moment e handles c.serve.result c.args.count _ _ _ behind c.serve.ensures.refused

pub returns-clause-cause : goal.returns-clause-cause
returns-clause-cause g c = listener_failed c.serve.result _ c.serve.ensures.cause
