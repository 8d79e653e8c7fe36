use Rattle.std.proofs.Common.{◌≡◌, ◌∷◌, [], subst, sym, ap, ◌∙◌, map, arith, refl}
use Rattle.std.proofs.lemmas.List.{nil_from_length}
use Rattle.std.specs.Vec.Iter.{into_iter_items}
use Rattle.metrics_core.specs.Outside.{Rose}
use Rattle.drive_script.specs.Texts.{round_of}
use Rattle.script_player.specs.Faults.{IsPlayFault}
use Rattle.script_player.specs.Sent.{LinkTold}
use Rattle.script_player.proofs.Delivered.{FlushedSoFar, flushed-end}
use Rattle.script_player.proofs.PlayFaults.{play_fault_later}
use Rattle.script_player.proofs.PagesSoFar.{PagedSoFar, ends_within, paged-round, paged-start}
use Rattle.script_player.proofs.Returned.{if_handed_on, on_handed_on}
use Rattle.script_player.proofs.RoundSteps.{IsSoFar, so_far-cut, so_far-end, so_far-round, so_far-start}
use Rattle.script_player.proofs.Standing.{StandsBefore, stands-cut, stands-page, stands-ready, stands-round, stands-start}
use Rattle.script_player.proofs.play.Player.play_rounds.Goals as goal

pub play_round-requires-clause-ready : goal.play_round-requires-clause-ready
play_round-requires-clause-ready g c κs within =
    let told : LinkTold = record { sent = g.L.Link.sent c.args.link.now; faults = g.L.Link.faults c.args.link.now } in
    let middle : LinkTold = record { sent = g.L.Link.sent c.loop-round.link; faults = g.L.Link.faults c.loop-round.link } in
    let first = c.args.self.now in
    let all = map round_of c.args.rounds.items in
    let steps : into_iter_items c.loop-round.round-iterator ≡ c.in-Some.round ∷ into_iter_items c.next.new.self = c.in-Some.ensures.steps.0 in
    let stands = subst (StandsBefore first all told middle c.loop-round.self) (ap (map round_of) steps) c.loop-round.invariant.stands in
    stands-ready first all told middle c.loop-round.self (round_of c.in-Some.round) (map round_of (into_iter_items c.next.new.self)) stands _ (c.loop-round.invariant.aims ∙ c.requires.ready.sends.aims)

pub loop-round-init : goal.loop-round-init
loop-round-init g c =
    let all : into_iter_items c.into_iter-round-iterator.result ≡ c.args.rounds.items = c.into_iter-round-iterator.ensures.into_iter_gives.0 in
    let rounds = map round_of c.args.rounds.items in
    let first = c.args.self.now in
    let ready = c.requires.ready in
    let written = g.K.Sink.written c.args.out.now in
    let told : LinkTold = record { sent = g.L.Link.sent c.args.link.now; faults = g.L.Link.faults c.args.link.now } in
    record {
      stands = subst (λ rs. StandsBefore first rounds told told first (map round_of rs)) (sym all) (stands-start first rounds told 0 ready.sends.none_waits ready.awaits);
      so_far = subst (λ rs. IsSoFar first.settings first.pages rounds first.pages (map round_of rs) written written) (sym all) (so_far-start first.settings first.pages rounds written);
      paged = subst (λ rs. PagedSoFar first.settings first.pages rounds first.pages (map round_of rs) written written) (sym all) (paged-start first.settings first.pages rounds written);
      aims = refl;
      never_falls = omega arith;
    }

pub loop-round-preserved : goal.loop-round-preserved
loop-round-preserved g c =
    let told : LinkTold = record { sent = g.L.Link.sent c.args.link.now; faults = g.L.Link.faults c.args.link.now } in
    let middle : LinkTold = record { sent = g.L.Link.sent c.loop-round.link; faults = g.L.Link.faults c.loop-round.link } in
    let tells : LinkTold = record { sent = g.L.Link.sent c.play_round.new.link; faults = g.L.Link.faults c.play_round.new.link } in
    let first = c.args.self.now in
    let all = map round_of c.args.rounds.items in
    let player = c.loop-round.self in
    let after = c.play_round.new.self in
    let round = round_of c.in-Some.round in
    let left = map round_of (into_iter_items c.next.new.self) in
    let steps : into_iter_items c.loop-round.round-iterator ≡ c.in-Some.round ∷ into_iter_items c.next.new.self = c.in-Some.ensures.steps.0 in
    let behind = ap (map round_of) steps in
    let inv = c.loop-round.invariant in
    let a = g.K.Sink.written c.args.out.now in
    let b = g.K.Sink.written c.loop-round.out in
    let w = g.K.Sink.written c.play_round.new.out in
    let stands = subst (StandsBefore first all told middle player) behind inv.stands in
    let played = c.in_ok-play_round.ensures.played in
    let page = stands-page first all told middle player round left stands after b w tells played in
    record {
      stands = stands-round first all told middle player round left stands after b w tells played;
      so_far = so_far-round first.settings first.pages all player.pages after.pages round left a b w (subst (λ rs. IsSoFar first.settings first.pages all player.pages rs a b) behind inv.so_far) page;
      paged = paged-round first.settings first.pages all player.pages after.pages round left a b w (subst (λ rs. PagedSoFar first.settings first.pages all player.pages rs a b) behind inv.paged) page;
      aims = c.in_ok-play_round.ensures.aims ∙ inv.aims;
      never_falls = omega (arith, inv.never_falls, c.in_ok-play_round.ensures.never_falls);
    }

pub returns-in_err-play_round-clause-cut : goal.returns-in_err-play_round-clause-cut
returns-in_err-play_round-clause-cut g c =
    let told : LinkTold = record { sent = g.L.Link.sent c.args.link.now; faults = g.L.Link.faults c.args.link.now } in
    let middle : LinkTold = record { sent = g.L.Link.sent c.loop-round.link; faults = g.L.Link.faults c.loop-round.link } in
    let tells : LinkTold = record { sent = g.L.Link.sent c.play_round.new.link; faults = g.L.Link.faults c.play_round.new.link } in
    let first = c.args.self.now in
    let all = map round_of c.args.rounds.items in
    let player = c.loop-round.self in
    let round = round_of c.in-Some.round in
    let left = map round_of (into_iter_items c.next.new.self) in
    let steps : into_iter_items c.loop-round.round-iterator ≡ c.in-Some.round ∷ into_iter_items c.next.new.self = c.in-Some.ensures.steps.0 in
    let behind = ap (map round_of) steps in
    let inv = c.loop-round.invariant in
    let a = g.K.Sink.written c.args.out.now in
    let b = g.K.Sink.written c.loop-round.out in
    let w = g.K.Sink.written c.play_round.new.out in
    let stands = subst (StandsBefore first all told middle player) behind inv.stands in
    let cut = c.in_err-play_round.ensures.cut in
    let begun = stands-cut first all told middle player round left stands b w tells cut in
    let flushed = subst (λ (t : LinkTold). FlushedSoFar first.settings first.to first.flushes all player.flushes (round ∷ left) told t first.report player.report) (sym cut.unsent) stands.flushed in
    on_handed_on c.from_residual.result _ (record {
      prefix = so_far-cut first.settings first.pages all player.pages round left a b w (subst (λ rs. IsSoFar first.settings first.pages all player.pages rs a b) behind inv.so_far) begun;
      in_part = ends_within first.settings first.to first.pages player.pages first.flushes player.flushes all round left a b w told tells first.report player.report
          (subst (λ rs. PagedSoFar first.settings first.pages all player.pages rs a b) behind inv.paged) flushed begun;
    })

pub returns-in_err-play_round-clause-cause : goal.returns-in_err-play_round-clause-cause
returns-in_err-play_round-clause-cause g c =
    if_handed_on c.from_residual.result _ (IsPlayFault (Rose (g.K.Sink.faults c.args.out.now) (g.K.Sink.faults c.play_round.new.out))) c.from_residual.ensures.1
    (play_fault_later _ (g.K.Sink.faults c.loop-round.out) _ _ c.loop-round.invariant.never_falls c.in_err-play_round.ensures.cause)

pub returns-in_err-play_round-clause-aims : goal.returns-in_err-play_round-clause-aims
returns-in_err-play_round-clause-aims g c = c.in_err-play_round.ensures.aims ∙ c.loop-round.invariant.aims

pub returns-clause-aims : goal.returns-clause-aims
returns-clause-aims g c = c.loop-round.invariant.aims

pub returns-clause-played : goal.returns-clause-played
returns-clause-played g c =
    let none : into_iter_items c.loop-round.round-iterator ≡ [] = nil_from_length _ (sym c.loop-round.round-iterator.rest.ok.0 ∙ c.in-None.ensures.steps.0) in
    let first = c.args.self.now in
    let all = map round_of c.args.rounds.items in
    let end = ap (map round_of) none in
    record {
      pages = so_far-end first.settings first.pages all c.loop-round.self.pages _ _ _ end c.loop-round.invariant.so_far;
      sent = flushed-end first.settings first.to first.flushes all c.loop-round.self.flushes _ _ _ _ _ end c.loop-round.invariant.stands.flushed;
    }
