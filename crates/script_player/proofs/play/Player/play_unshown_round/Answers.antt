use Rattle.std.proofs.Common.{refl, ◌∙◌}
use Rattle.std.proofs.lemmas.Result.{on_ok_weaker}
use Rattle.drive_script.specs.Texts.{round_of}
use Rattle.script_player.proofs.ServingRounds.{called_handles, called_round}
use Rattle.script_player.proofs.Standing.{calls_awaited}
use Rattle.script_player.proofs.play.Player.play_unshown_round.Goals as goal

pub make_calls-requires-clause-fit : goal.make_calls-requires-clause-fit
make_calls-requires-clause-fit g c κs within =
    calls_awaited c.args.self.now c.set_up.new.self (round_of c.args.round) c.args.round.calls.items refl c.requires.awaits c.in_ok-set_up.ensures.stepped c.in_ok-set_up.ensures.registered

pub returns-in_err-set_up-clause-settings : goal.returns-in_err-set_up-clause-settings
returns-in_err-set_up-clause-settings g c = c.set_up.ensures.unsent.settings

pub returns-clause-settings : goal.returns-clause-settings
returns-clause-settings g c = c.make_calls.ensures.unsent.settings ∙ c.in_ok-set_up.ensures.unsent.settings

pub returns-clause-played : goal.returns-clause-played
returns-clause-played g c =
    let round = round_of c.args.round in
    on_ok_weaker c.make_calls.result (λ called. called_round c.args.self.now.pages c.set_up.new.self.pages c.make_calls.new.self.pages round c.in_ok-set_up.ensures.stepped (called round refl refl)) c.make_calls.ensures.called

pub returns-clause-lines_handles : goal.returns-clause-lines_handles
returns-clause-lines_handles g c =
    let round = round_of c.args.round in
    on_ok_weaker c.make_calls.result (λ called. called_handles c.args.self.now.flushes c.set_up.new.self.flushes c.make_calls.new.self.flushes round c.in_ok-set_up.ensures.registered (called round refl refl))
    c.make_calls.ensures.flush_called
