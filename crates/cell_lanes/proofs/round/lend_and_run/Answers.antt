use Rattle.std.proofs.Common.{inl, inr, ◌≡◌, ◌≤◌, length, drop, sym, ap, ◌∙◌, subst, arith}
use Rattle.std.proofs.lemmas.Result.{on_err_weaker}
use mathlib.Core.Option.{some}
use lib.ListN.{get_elem?}
use Rattle.cell_lanes.specs.Lanes.{Stays, Owns, Lends, JobsFit, JobsRan, SomeLeft, Unfinished, done_of, lent_on}
use Rattle.legal_history.proofs.Steps.{some_below}
use Rattle.cell_lanes.specs.Things.{root_of, fixed_of}
use Rattle.cell_lanes.proofs.Lists.{below_some, front_of}
use Rattle.cell_lanes.proofs.Jobs.{done_none}
use Rattle.cell_lanes.proofs.Running.{jobs_fresh, ready, ran_lent, ran_jobs, ran_fit}
use Rattle.cell_lanes.proofs.round.lend_and_run.Goals as goal

pub returns-in-Err-clause-ran : goal.returns-in-Err-clause-ran
returns-in-Err-clause-ran g c = jobs_fresh g.S.Lenders.knows g.S.Lenders.stands_as c.args.lanes.now c.lend_all.new.jobs.items c.lend_all.ensures.fresh.0

pub returns-in-Err-clause-refused : goal.returns-in-Err-clause-refused
returns-in-Err-clause-refused g c = inr
    (done_none c.lend_all.new.jobs.items
    (λ l x e. let a = below_some c.args.lanes.now l (let b = some_below c.lend_all.new.jobs.items l x e in omega (arith, c.lend_all.ensures.fresh.1)) in (c.lend_all.ensures.fresh.0 l a.0 x a.1 e).2))

pub all_done-requires-clause-done : goal.all_done-requires-clause-done
all_done-requires-clause-done g c κs within = λ l a x e f.
    let m = c.as_mut_slice.ensures in
    let jobs = c.lend_all.new.jobs.items in
    let news = c.run_all.new.jobs in
    let len : length news ≡ length jobs = c.run_all.auto.jobs ∙ ap length m.value in
    let front = front_of news (drop (length news) jobs) c.lend_all.new.jobs.len (c.run_all.auto.jobs ∙ m.len) in
    let at : get_elem? news l ≡ some x = subst (λ xs. get_elem? xs l ≡ some x) (c.as_slice.ensures.value ∙ front) f in
    let old = below_some jobs l (let b = some_below news l x at in omega arith) in
    (c.run_all.ensures.ran l a old.0 x e (subst (λ xs. get_elem? xs l ≡ some old.0) (sym m.value) old.1) at).2

pub returns-clause-refused : goal.returns-clause-refused
returns-clause-refused g c =
    on_err_weaker c.all_done.result (λ (left : SomeLeft c.args.lanes.now (done_of c.as_slice.result.now)). subst (λ xs. Unfinished c.args.lanes.now (done_of xs)) c.as_slice.ensures.value (inl left)) c.all_done.ensures.refused

pub run_all-requires-clause-ready : goal.run_all-requires-clause-ready
run_all-requires-clause-ready g c κs within = λ l a x e f.
    let at = subst (λ xs. get_elem? xs l ≡ some x) c.as_mut_slice.ensures.value f in
    ready root_of g.S.Lenders.lasts fixed_of g.S.Lenders.knows g.S.Lenders.owns g.S.Lenders.takes g.S.Lenders.takes_on (λ j. lent_on j c.lend_all.new.jobs.items) (g.S.Lenders.things c.args.shared.now) (g.S.Lenders.things c.lend_all.new.shared) c.args.lanes.now l a x e c.lend_all.ensures.many c.lend_all.ensures.lends
    (c.requires.fit l a e) c.requires.taken (c.lend_all.ensures.fresh.0 l a x e at).1 (c.in-Ok.ensures.ok.1 l a x e at) (c.lend_all.ensures.fit l x at)

pub returns-clause-lends : goal.returns-clause-lends
returns-clause-lends g c =
    let m = c.as_mut_slice.ensures in
    let jobs = c.lend_all.new.jobs.items in
    let news = c.run_all.new.jobs in
    let len : length news ≡ length jobs = c.run_all.auto.jobs ∙ ap length m.value in
    let front = front_of news (drop (length news) jobs) c.lend_all.new.jobs.len (c.run_all.auto.jobs ∙ m.len) in
    λ j a b e f. subst (λ n. Lends root_of (Stays g.S.Lenders.lasts fixed_of) n a b)
    (sym (ap (lent_on j) front ∙ ran_lent g.S.Lenders.knows g.S.Lenders.stands_as g.S.Lenders.owns c.args.lanes.now jobs news len c.in-Ok.ensures.ok.0 c.in-Ok.ensures.ok.1
    (λ l x y z p q r. c.run_all.ensures.ran l x y z p (subst (λ xs. get_elem? xs l ≡ some y) (sym m.value) q) r) j))
    (c.lend_all.ensures.lends j a b e f)

pub returns-clause-fit : goal.returns-clause-fit
returns-clause-fit g c =
    let m = c.as_mut_slice.ensures in
    let jobs = c.lend_all.new.jobs.items in
    let news = c.run_all.new.jobs in
    let len : length news ≡ length jobs = c.run_all.auto.jobs ∙ ap length m.value in
    let front = front_of news (drop (length news) jobs) c.lend_all.new.jobs.len (c.run_all.auto.jobs ∙ m.len) in (
      subst (JobsFit (Owns fixed_of g.S.Lenders.owns) (g.S.Lenders.things c.lend_all.new.shared)) (sym front)
          (ran_fit fixed_of g.S.Lenders.knows g.S.Lenders.stands_as g.S.Lenders.owns c.args.lanes.now jobs news len c.in-Ok.ensures.ok.0
          (λ l x y z p q r. c.run_all.ensures.ran l x y z p (subst (λ xs. get_elem? xs l ≡ some y) (sym m.value) q) r) (g.S.Lenders.things c.lend_all.new.shared) c.lend_all.ensures.fit),
      subst (λ xs. length xs ≤ length c.args.lanes.now) (sym front) (omega (arith, len, c.lend_all.ensures.fresh.1)),
    )

pub returns-clause-ran : goal.returns-clause-ran
returns-clause-ran g c =
    let m = c.as_mut_slice.ensures in
    let jobs = c.lend_all.new.jobs.items in
    let news = c.run_all.new.jobs in
    let len : length news ≡ length jobs = c.run_all.auto.jobs ∙ ap length m.value in
    let front = front_of news (drop (length news) jobs) c.lend_all.new.jobs.len (c.run_all.auto.jobs ∙ m.len) in
    subst (JobsRan g.S.Lenders.knows g.S.Lenders.stands_as c.args.lanes.now) (sym front)
    (ran_jobs g.S.Lenders.knows g.S.Lenders.stands_as g.S.Lenders.owns c.args.lanes.now jobs news len c.in-Ok.ensures.ok.0 c.in-Ok.ensures.ok.1
    (λ l x y z p q r. c.run_all.ensures.ran l x y z p (subst (λ xs. get_elem? xs l ≡ some y) (sym m.value) q) r))
