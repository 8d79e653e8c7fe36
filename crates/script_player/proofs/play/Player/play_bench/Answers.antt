use Rattle.std.proofs.Common.{◌≡◌, ◌+◌, ◌<◌, [], sym, ap, subst, ◌∙◌, arith, refl}
use Rattle.std.specs.Prelude.{Some}
use Rattle.std.proofs.lemmas.Result.{on_ok_weaker, on_err_weaker}
use Rattle.metrics_core.specs.Outside.{Rose}
use Rattle.drive_script.specs.Texts.{round_of}
use Rattle.bench_scripts.specs.Bench.{bench_script}
use Rattle.script_player.specs.Faults.{IsPlayFault}
use Rattle.script_player.specs.Player.{PlayerText}
use Rattle.script_player.specs.Sent.{LinkTold}
use Rattle.script_player.proofs.BenchSteps.{StandsAt, last_cut, last_sent, last_written, left_from, no_write_fault, stands_first, stands_last, stands_next, stands_round, unbenched}
use Rattle.script_player.proofs.Returned.{if_handed_on, on_handed_on}
use Rattle.script_player.proofs.Standing.{stands-ready}
use Rattle.script_player.proofs.play.Player.play_bench.Goals as goal

pub loop-played-init : goal.loop-played-init
loop-played-init g c =
    let told : LinkTold = record { sent = g.L.Link.sent c.args.link.now; faults = g.L.Link.faults c.args.link.now } in
    record {
      number = omega (arith, c.new-rounds.ensures);
      aimed = refl;
      stands = subst (λ n. StandsAt c.args.count c.args.self.now told told c.args.self.now (left_from n c.args.count)) (sym c.new-rounds.ensures)
          (stands_first c.args.count c.args.self.now told (c.script_is_valid.ensures c.args.count c.requires.count.1) c.requires.start);
    }

pub play_round-requires-clause-ready : goal.play_round-requires-clause-ready
play_round-requires-clause-ready g c κs lifetimes =
    let count = c.args.count in
    let n = c.loop-played.rounds in
    let told : LinkTold = record { sent = g.L.Link.sent c.args.link.now; faults = g.L.Link.faults c.args.link.now } in
    let middle : LinkTold = record { sent = g.L.Link.sent c.loop-played.link; faults = g.L.Link.faults c.loop-played.link } in
    let round = round_of c.in_ok-round.round in
    let within : n < count = omega (arith, c.loop-played.invariant.number, c.loop-played-test.true) in
    let at = stands_next count c.args.self.now told middle c.loop-played.self n round c.in_ok-round.ensures.round c.loop-played.invariant.stands within in
    stands-ready c.args.self.now (bench_script count).rounds told middle c.loop-played.self round (left_from (n + 1) count) at.stands _
    (c.loop-played.invariant.aimed ∙ (c.requires.aimed ∙ ap (λ (p : PlayerText). Some p.to) (sym c.requires.start)))

pub loop-played-preserved : goal.loop-played-preserved
loop-played-preserved g c =
    let count = c.args.count in
    let n = c.loop-played.rounds in
    let told : LinkTold = record { sent = g.L.Link.sent c.args.link.now; faults = g.L.Link.faults c.args.link.now } in
    let middle : LinkTold = record { sent = g.L.Link.sent c.loop-played.link; faults = g.L.Link.faults c.loop-played.link } in
    let tells : LinkTold = record { sent = g.L.Link.sent c.play_round.new.link; faults = g.L.Link.faults c.play_round.new.link } in
    let round = round_of c.in_ok-round.round in
    let within : n < count = omega (arith, c.loop-played.invariant.number, c.loop-played-test.true) in
    let at = stands_next count c.args.self.now told middle c.loop-played.self n round c.in_ok-round.ensures.round c.loop-played.invariant.stands within in
    record {
      number = omega (arith, c.in_ok-round.ensures.next, c.loop-played.invariant.number);
      aimed = c.in_ok-play_round.ensures.aims ∙ c.loop-played.invariant.aimed;
      stands = subst (λ k. StandsAt count c.args.self.now told tells c.play_round.new.self (left_from k count)) (sym c.in_ok-round.ensures.next)
          (stands_round count c.args.self.now told middle tells c.loop-played.self c.play_round.new.self round (left_from (n + 1) count) _ _ at c.in_ok-play_round.ensures.played);
    }

pub returns-in_err-round-clause-prefix : goal.returns-in_err-round-clause-prefix
returns-in_err-round-clause-prefix g c = on_handed_on c.from_residual.result _ (unbenched c.args.count c.requires.count.0 _)

pub returns-in_err-play_round-clause-prefix : goal.returns-in_err-play_round-clause-prefix
returns-in_err-play_round-clause-prefix g c = on_handed_on c.from_residual-in_err-play_round.result _ (unbenched c.args.count c.requires.count.0 _)

pub returns-in_err-play_round-clause-cause : goal.returns-in_err-play_round-clause-cause
returns-in_err-play_round-clause-cause g c =
    let Failed : Type 0 = Rose (g.K.Sink.faults c.args.out.now) (g.K.Sink.faults c.args.out.now) in
    if_handed_on c.from_residual-in_err-play_round.result _ (IsPlayFault Failed) c.from_residual-in_err-play_round.ensures.1 (no_write_fault Failed _ c.in_err-play_round.ensures.cause)

pub returns-in_err-last-clause-prefix : goal.returns-in_err-last-clause-prefix
returns-in_err-last-clause-prefix g c = on_handed_on c.from_residual-in_err-last.result _ (unbenched c.args.count c.requires.count.0 _)

pub play_round-requires-2-clause-ready : goal.play_round-requires-2-clause-ready
play_round-requires-2-clause-ready g c κs lifetimes =
    let count = c.args.count in
    let n = c.loop-played.rounds in
    let told : LinkTold = record { sent = g.L.Link.sent c.args.link.now; faults = g.L.Link.faults c.args.link.now } in
    let middle : LinkTold = record { sent = g.L.Link.sent c.loop-played.link; faults = g.L.Link.faults c.loop-played.link } in
    let round = round_of c.in_ok-last.last in
    let end : n + 1 ≡ count = omega (arith, c.loop-played.invariant.number, c.loop-played-test.false, c.loop-played.auto._played-end c.requires.count.0) in
    let at = stands_last count c.args.self.now told middle c.loop-played.self n round c.in_ok-last.ensures.round c.loop-played.invariant.stands end in
    stands-ready c.args.self.now (bench_script count).rounds told middle c.loop-played.self round [] at.stands _
    (c.loop-played.invariant.aimed ∙ (c.requires.aimed ∙ ap (λ (p : PlayerText). Some p.to) (sym c.requires.start)))

pub returns-clause-played : goal.returns-clause-played
returns-clause-played g c =
    let count = c.args.count in
    let n = c.loop-played.rounds in
    let told : LinkTold = record { sent = g.L.Link.sent c.args.link.now; faults = g.L.Link.faults c.args.link.now } in
    let middle : LinkTold = record { sent = g.L.Link.sent c.loop-played.link; faults = g.L.Link.faults c.loop-played.link } in
    let tells : LinkTold = record { sent = g.L.Link.sent c.play_round-2.new.link; faults = g.L.Link.faults c.play_round-2.new.link } in
    let round = round_of c.in_ok-last.last in
    let end : n + 1 ≡ count = omega (arith, c.loop-played.invariant.number, c.loop-played-test.false, c.loop-played.auto._played-end c.requires.count.0) in
    let at = stands_last count c.args.self.now told middle c.loop-played.self n round c.in_ok-last.ensures.round c.loop-played.invariant.stands end in
    on_ok_weaker c.play_round-2.result (λ played. record {
      page = last_written count c.args.self.now told c.requires.start middle tells c.loop-played.self round _ _ at c.play_round-2.new.self played;
      sent = last_sent count c.args.self.now told c.requires.start middle tells c.loop-played.self round _ _ at c.play_round-2.new.self played;
    }) c.play_round-2.ensures.played

pub returns-clause-prefix : goal.returns-clause-prefix
returns-clause-prefix g c =
    let count = c.args.count in
    let n = c.loop-played.rounds in
    let told : LinkTold = record { sent = g.L.Link.sent c.args.link.now; faults = g.L.Link.faults c.args.link.now } in
    let middle : LinkTold = record { sent = g.L.Link.sent c.loop-played.link; faults = g.L.Link.faults c.loop-played.link } in
    let round = round_of c.in_ok-last.last in
    let end : n + 1 ≡ count = omega (arith, c.loop-played.invariant.number, c.loop-played-test.false, c.loop-played.auto._played-end c.requires.count.0) in
    let at = stands_last count c.args.self.now told middle c.loop-played.self n round c.in_ok-last.ensures.round c.loop-played.invariant.stands end in
    on_err_weaker c.play_round-2.result (last_cut count c.args.self.now told c.requires.start middle _ c.loop-played.self round _ _ at) c.play_round-2.ensures.cut
