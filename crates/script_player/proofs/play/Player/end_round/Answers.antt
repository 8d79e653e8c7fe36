use Rattle.std.proofs.Common.{[], refl, sym, ap, ◌∙◌, subst}
use Rattle.std.specs.Prelude.{Some}
use Rattle.metrics_core.specs.Outside.{GrewByPrefix}
use Rattle.dsd_addresses.specs.Remotes.{remote_text}
use Rattle.dsd_exporter.specs.Exporter.{state_seen}
use Rattle.dsd_exporter.specs.State.{flush_items}
use Rattle.drive_script.specs.Texts.{settings_of}
use Rattle.script_player.specs.Flushes.{dogstatsd_settings}
use Rattle.script_player.specs.Player.{PlayerText, lines_state, rows_state}
use Rattle.script_player.specs.Rounds.{EndsRound, player_page}
use Rattle.script_player.specs.Sent.{LinkTold}
use Rattle.script_player.specs.Timely.{IsTimelyState}
use Rattle.script_player.proofs.Returned.{on_handed_on}
use Rattle.script_player.proofs.RoundEnds.{made_again, made_on, made_ready, page_was, round_ends}
use Rattle.script_player.proofs.play.Player.end_round.Goals as goal

pub write_both-requires-clause-pages : goal.write_both-requires-clause-pages
write_both-requires-clause-pages g c κs within = record {
  rest = c.self.invariant.rest;
  timely = subst (λ (p : PlayerText). IsTimelyState c.args.moment p.pages.prometheus) (sym c.self.view_is) c.requires.timely;
}

pub write_both-requires-clause-lines : goal.write_both-requires-clause-lines
write_both-requires-clause-lines g c κs within = c.self.invariant.lines_rest

pub invariant_of-self : goal.invariant_of-self
invariant_of-self g c = made_on _ _ _ _ _ c.self.invariant _ _ _ _ _ c.write_both.ensures.rest.pages_rest c.write_both.ensures.rest.lines_rest

pub returns-in_err-dropped-clause-cut : goal.returns-in_err-dropped-clause-cut
returns-in_err-dropped-clause-cut g c =
    let own = c.self.inside in
    let settings = settings_of own.made_for.value in
    let to = remote_text own.aimed_at.value in
    let both = c.write_both.ensures in
    let written = g.K.Sink.written c.args.out.now in
    let written' = g.K.Sink.written c.write_both.new.out in
    let page = page_was settings to own.exporters.prometheus own.exporters.dogstatsd own.flushes.writer c.self.invariant own.flushes.report _ _ _ _ both.rest.pages_rest both.rest.lines_rest c.args.moment own.handles.items own.line_handles.items own.flushes.marks in
    on_handed_on c.from_residual.result _ (record {
      prefix = subst (λ (p : PlayerText). GrewByPrefix written written' (player_page c.args.moment p)) c.self.view_is (subst (GrewByPrefix written written') page c.in_err-dropped.ensures.prefix);
      unsent = refl;
    })

pub invariant_of-self-2 : goal.invariant_of-self-2
invariant_of-self-2 g c =
    let own = c.self.inside in
    let settings = settings_of own.made_for.value in
    let to = remote_text own.aimed_at.value in
    let both = c.write_both.ensures in
    let none = ap (λ (p : PlayerText). p.waiting) c.self.view_is ∙ c.requires.sends.none_waits in
    let ready = made_ready settings to own.exporters.prometheus own.exporters.dogstatsd own.flushes.writer c.self.invariant own.flushes.report none in
    let written = c.in_ok-dropped.ensures.ended.flushed.written settings to ready c.self.invariant.lines_built in
    made_again settings to own.exporters.prometheus own.exporters.dogstatsd own.flushes.writer c.self.invariant own.flushes.report _ _ _ _ both.rest.pages_rest both.rest.lines_rest _ (c.hand_out.ensures.ready settings to _ written)

pub returns-clause-ended : goal.returns-clause-ended
returns-clause-ended g c =
    let own = c.self.inside in
    let settings = settings_of own.made_for.value in
    let to = remote_text own.aimed_at.value in
    let both = c.write_both.ensures in
    let none = ap (λ (p : PlayerText). p.waiting) c.self.view_is ∙ c.requires.sends.none_waits in
    let ready = made_ready settings to own.exporters.prometheus own.exporters.dogstatsd own.flushes.writer c.self.invariant own.flushes.report none in
    let items = flush_items (dogstatsd_settings settings) settings.dsd_globals c.args.moment [] (state_seen own.flushes.marks own.exporters.dogstatsd) in
    let written = c.in_ok-dropped.ensures.ended.flushed.written settings to ready c.self.invariant.lines_built in
    let aims = c.requires.sends.aims ∙ ap (λ (p : PlayerText). Some p.to) (sym c.self.view_is) in
    let told : LinkTold = record { sent = g.L.Link.sent c.args.link.now; faults = g.L.Link.faults c.args.link.now } in
    let tells : LinkTold = record { sent = g.L.Link.sent c.hand_out.new.link; faults = g.L.Link.faults c.hand_out.new.link } in
    let flushes = c.hand_out.new.self in
    let new : PlayerText = record {
      settings = settings;
      to = to;
      pages = rows_state c.write_both.new.pages own.handles.items;
      flushes = lines_state flushes.marks c.write_both.new.lines own.line_handles.items;
      waiting = flushes.writer.lines;
      report = flushes.report;
    } in
    subst (λ (p : PlayerText). EndsRound c.args.moment p new (g.K.Sink.written c.args.out.now) (g.K.Sink.written c.write_both.new.out) told tells) c.self.view_is
    (round_ends settings to own.exporters.prometheus own.exporters.dogstatsd own.flushes.writer c.self.invariant own.flushes.report _ _ _ _ both.rest.pages_rest both.rest.lines_rest
    c.args.moment own.handles.items own.line_handles.items own.flushes.marks _ _ _ _ _ _ _ _ _ c.in_ok-dropped.ensures.ended.shown c.in_ok-dropped.ensures.ended.flushed c.hand_out.ensures.marks
    (c.hand_out.ensures.ready settings to items written) (c.hand_out.ensures.sent settings to items written aims))
