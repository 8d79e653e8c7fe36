use Rattle.std.proofs.Common.{◌≡◌, ◌∷◌, [], subst, sym, ap, ◌∙◌, map, refl}
use Rattle.std.proofs.lemmas.List.{nil_from_length}
use Rattle.std.specs.Vec.Iter.{into_iter_items}
use Rattle.drive_script.specs.Texts.{round_of}
use Rattle.script_player.specs.Play.{PlayState}
use Rattle.script_player.specs.Player.{Awaits}
use Rattle.script_player.specs.Served.{moment_from}
use Rattle.script_player.proofs.ServingRounds.{IsServedSoFar, served_so_far-end, served_so_far-round, served_so_far-start, unshown_timely}
use Rattle.script_player.proofs.Standing.{first_awaited, next_awaited}
use Rattle.script_player.proofs.play.Player.play_unshown.Goals as goal

pub play_unshown_round-requires-clause-awaits : goal.play_unshown_round-requires-clause-awaits
play_unshown_round-requires-clause-awaits g c κs within =
    let steps : into_iter_items c.loop-round.round-iterator ≡ c.in-Some.round ∷ into_iter_items c.next.new.self = c.in-Some.ensures.steps.0 in
    let (m, awaits) = c.loop-round.invariant.awaits in
    first_awaited m c.loop-round.self (round_of c.in-Some.round) (map round_of (into_iter_items c.next.new.self)) (subst (λ rs. Awaits m rs c.loop-round.self) (ap (map round_of) steps) awaits)

pub loop-round-init : goal.loop-round-init
loop-round-init g c =
    let all : into_iter_items c.into_iter-round-iterator.result ≡ c.args.rounds.items = c.into_iter-round-iterator.ensures.into_iter_gives.0 in
    let start = c.args.self.now.pages in
    record {
      settings = refl;
      awaits = (0, subst (λ rs. Awaits 0 (map round_of rs) c.args.self.now) (sym all) c.requires.awaits);
      so_far = subst (λ rs. IsServedSoFar start (map round_of c.args.rounds.items) start (map round_of rs)) (sym all) (served_so_far-start start (map round_of c.args.rounds.items));
      moment = ap (λ rs. moment_from 0 (map round_of rs)) all;
    }

pub loop-round-preserved : goal.loop-round-preserved
loop-round-preserved g c =
    let steps : into_iter_items c.loop-round.round-iterator ≡ c.in-Some.round ∷ into_iter_items c.next.new.self = c.in-Some.ensures.steps.0 in
    let behind = ap (map round_of) steps in
    let round = round_of c.in-Some.round in
    let left = map round_of (into_iter_items c.next.new.self) in
    let player = c.loop-round.self in
    let after = c.play_unshown_round.new.self in
    let start = c.args.self.now.pages in
    let all = map round_of c.args.rounds.items in
    let done = c.in_ok-play_unshown_round.ensures in
    let (m, before) = c.loop-round.invariant.awaits in
    let awaits = subst (λ rs. Awaits m rs player) behind before in
    record {
      settings = done.settings ∙ c.loop-round.invariant.settings;
      awaits = (
        c.in-Some.round.moment,
        next_awaited m player after round left awaits (unshown_timely player.pages after.pages round (first_awaited m player round left awaits).timely done.played)
            (ap (λ (p : PlayState). p.handles) done.played.2) done.lines_handles,
      );
      so_far = served_so_far-round start all player.pages _ round left (subst (λ rounds. IsServedSoFar start all player.pages rounds) behind c.loop-round.invariant.so_far) done.played;
      moment = sym (ap (moment_from c.loop-round.moment) behind) ∙ c.loop-round.invariant.moment;
    }

pub returns-clause-played : goal.returns-clause-played
returns-clause-played g c =
    let none : into_iter_items c.loop-round.round-iterator ≡ [] = nil_from_length _ (sym c.loop-round.round-iterator.rest.ok.0 ∙ c.in-None.ensures.steps.0) in
    served_so_far-end c.args.self.now.pages (map round_of c.args.rounds.items) c.loop-round.self.pages _ (ap (map round_of) none) c.loop-round.invariant.so_far

pub returns-clause-moment : goal.returns-clause-moment
returns-clause-moment g c =
    let none : into_iter_items c.loop-round.round-iterator ≡ [] = nil_from_length _ (sym c.loop-round.round-iterator.rest.ok.0 ∙ c.in-None.ensures.steps.0) in
    sym (ap (λ rounds. moment_from c.loop-round.moment (map round_of rounds)) none) ∙ c.loop-round.invariant.moment
