use Rattle.std.proofs.Common.{map, refl, subst, sym, ◌∙◌}
use Rattle.std.proofs.lemmas.List.{length-map}
use Rattle.dsd_addresses.specs.Remotes.{remote_text}
use Rattle.drive_script.specs.Texts.{script_of, settings_of, round_of}
use Rattle.dsd_exporter.specs.declared.sending.FlushReport.{FlushReport}
use Rattle.script_player.specs.Flushes.{ForSomeFlushes, flush_start}
use Rattle.script_player.specs.Play.{play_start}
use Rattle.script_player.specs.Player.{IsReadyFor, PlayerText}
use Rattle.script_player.specs.Rounds.{CutsRounds, PlaysRounds}
use Rattle.script_player.specs.Sent.{Delivers, LinkTold, none_sent}
use Rattle.script_player.proofs.PagesSoFar.{none_within}
use Rattle.script_player.proofs.Returned.{on_handed_on}
use Rattle.script_player.proofs.RoundSteps.{unbegun}
use Rattle.script_player.proofs.Standing.{first_awaits}
use Rattle.script_player.proofs.play.play_script.Goals as goal

pub play_rounds-played-requires-clause-ready : goal.play_rounds-played-requires-clause-ready
play_rounds-played-requires-clause-ready g c κs within =
    subst (IsReadyFor 0 (map round_of c.args.script.rounds.items) _) (sym c.in_ok-player.ensures)
    (record { awaits = first_awaits _ _ (script_of c.args.script) c.requires.can; sends = record { none_waits = refl; aims = c.requires.aimed } })

pub returns-in_err-player-clause-cut : goal.returns-in_err-player-clause-cut
returns-in_err-player-clause-cut g c =
    let told : LinkTold = record { sent = g.L.Link.sent c.args.link.now; faults = g.L.Link.faults c.args.link.now } in
    let written = g.K.Sink.written c.args.out.now in
    on_handed_on c.from_residual.result _ (record {
      prefix = unbegun (script_of c.args.script) written;
      in_part = none_within (settings_of c.args.script.settings) (remote_text c.args.to.now) (play_start (settings_of c.args.script.settings)) flush_start (map round_of c.args.script.rounds.items) written told none_sent;
    })

pub returns-in_err-played-clause-cut : goal.returns-in_err-played-clause-cut
returns-in_err-played-clause-cut g c =
    let told : LinkTold = record { sent = g.L.Link.sent c.args.link.now; faults = g.L.Link.faults c.args.link.now } in
    let tells : LinkTold = record { sent = g.L.Link.sent c.play_rounds-played.new.link; faults = g.L.Link.faults c.play_rounds-played.new.link } in
    let written = g.K.Sink.written c.args.out.now in
    let written' = g.K.Sink.written c.play_rounds-played.new.out in
    let cut = subst (λ (p : PlayerText). CutsRounds (map round_of c.args.script.rounds.items) p written written' told tells) c.in_ok-player.ensures c.in_err-played.ensures.cut in
    on_handed_on c.from_residual-in_err-played.result _ (record { prefix = cut.prefix; in_part = cut.in_part })

pub returns-clause-played : goal.returns-clause-played
returns-clause-played g c =
    let rounds = map round_of c.args.script.rounds.items in
    let told : LinkTold = record { sent = g.L.Link.sent c.args.link.now; faults = g.L.Link.faults c.args.link.now } in
    let tells : LinkTold = record { sent = g.L.Link.sent c.play_rounds-played.new.link; faults = g.L.Link.faults c.play_rounds-played.new.link } in
    let written = g.K.Sink.written c.args.out.now in
    let written' = g.K.Sink.written c.play_rounds-played.new.out in
    let played = subst (λ (p : PlayerText). PlaysRounds rounds p c.play_rounds-played.new.self written written' told tells) c.in_ok-player.ensures c.in_ok-played.ensures.played in
    let P : FlushReport → Type 0 = λ now. ForSomeFlushes (settings_of c.args.script.settings) flush_start rounds (λ flushes. Delivers (settings_of c.args.script.settings) (remote_text c.args.to.now) flushes told tells none_sent now) in
    record {
      pages = played.pages;
      sent = record {
        pages = c.len-pages.ensures ∙ c.args.script.rounds.ok.0 ∙ sym (length-map c.args.script.rounds.items round_of);
        flushed = subst P (sym c.end-report.ensures) played.sent;
      };
    }
