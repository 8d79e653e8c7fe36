use Rattle.std.proofs.Common.{refl, sym, ap, ◌∙◌}
use Rattle.std.specs.Prelude.{Some}
use Rattle.std.proofs.lemmas.Result.{on_ok_weaker, on_err_weaker}
use Rattle.drive_script.specs.Texts.{round_of}
use Rattle.script_player.proofs.Returned.{on_handed_on}
use Rattle.script_player.proofs.RoundSteps.{round_cut, round_played, round_unbegun}
use Rattle.script_player.proofs.Standing.{calls_awaited}
use Rattle.script_player.proofs.TimelyRounds.{shown_timely}
use Rattle.script_player.proofs.play.Player.play_round.Goals as goal

pub returns-in_err-set_up-clause-cut : goal.returns-in_err-set_up-clause-cut
returns-in_err-set_up-clause-cut g c =
    let player = c.args.self.now in
    on_handed_on c.from_residual.result _ (record { page = round_unbegun player.settings player.pages (round_of c.args.round) _; unsent = refl })

pub make_calls-requires-clause-fit : goal.make_calls-requires-clause-fit
make_calls-requires-clause-fit g c κs within =
    calls_awaited c.args.self.now c.set_up.new.self (round_of c.args.round) c.args.round.calls.items refl c.requires.ready.awaits c.in_ok-set_up.ensures.stepped c.in_ok-set_up.ensures.registered

pub returns-in_err-make_calls-clause-cut : goal.returns-in_err-make_calls-clause-cut
returns-in_err-make_calls-clause-cut g c =
    let player = c.args.self.now in
    on_handed_on c.from_residual-in_err-make_calls.result _ (record { page = round_unbegun player.settings player.pages (round_of c.args.round) _; unsent = refl })

pub end_round-requires-clause-timely : goal.end_round-requires-clause-timely
end_round-requires-clause-timely g c κs within =
    shown_timely c.args.self.now.pages c.set_up.new.self.pages _ (round_of c.args.round) c.requires.ready.awaits.timely c.in_ok-set_up.ensures.stepped
    (c.in_ok-make_calls.ensures.called (round_of c.args.round) refl refl)

pub end_round-requires-clause-sends : goal.end_round-requires-clause-sends
end_round-requires-clause-sends g c κs within =
    let before = c.in_ok-set_up.ensures.unsent in
    let behind = c.in_ok-make_calls.ensures.unsent in
    let sends = c.requires.ready.sends in
    record { none_waits = behind.waiting ∙ before.waiting ∙ sends.none_waits; aims = sends.aims ∙ ap Some (sym (behind.to ∙ before.to)) }

pub returns-clause-played : goal.returns-clause-played
returns-clause-played g c =
    let round = round_of c.args.round in
    let set_up = c.in_ok-set_up.ensures in
    let calls = c.in_ok-make_calls.ensures in
    on_ok_weaker c.end_round.result
    (round_played round c.args.self.now c.set_up.new.self c.make_calls.new.self set_up.unsent calls.unsent set_up.stepped (calls.called round refl refl) set_up.registered (calls.flush_called round refl refl)
    c.end_round.new.self _ _ _ _) c.end_round.ensures.ended

pub returns-clause-cut : goal.returns-clause-cut
returns-clause-cut g c =
    let round = round_of c.args.round in
    let set_up = c.in_ok-set_up.ensures in
    let calls = c.in_ok-make_calls.ensures in
    on_err_weaker c.end_round.result
    (round_cut round c.args.self.now c.set_up.new.self c.make_calls.new.self set_up.unsent calls.unsent set_up.stepped (calls.called round refl refl) _ _ _ _) c.end_round.ensures.cut
