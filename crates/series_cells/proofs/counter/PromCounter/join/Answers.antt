use Rattle.std.proofs.Common.{◌∙◌, ap, sym, subst, arith}
use mathlib.Core.List.{IsPrefix}
use Rattle.legal_history.specs.declared.history.View.{View}
use Rattle.legal_history.specs.History.{Sees}
use Rattle.legal_history.proofs.Placed.{came_back}
use Rattle.series_cells.specs.Cell.{Seen, history_of}
use Rattle.series_cells.specs.Values.{counter_step, itself}
use Rattle.metrics_core.specs.declared.calls.SeriesCall.{SeriesCall}
use Rattle.series_cells.proofs.CellSteps.{peeks, takes_back}
use Rattle.series_cells.proofs.counter.PromCounter.join.Goals as goal

pub join_seat-requires : goal.join_seat-requires
join_seat-requires c =
    let p = c.args.pass.now in
    let o = c.args.child in
    (c.requires.pass, c.requires.child, o.empty, omega (arith, c.args.self.now.two), takes_back counter_step 0 itself p.seat.id p.seat.me.0 o.seat.id o.seat.me.0 p.live c.requires.root o.live o.counted)

pub load-requires : goal.load-requires
load-requires c =
    let e = c.join_seat.ensures in
    let q = c.join_seat.new.seat in
    (e.0 ∙ c.requires.pass, omega (arith, c.args.self.now.two), peeks counter_step 0 itself _ q.id q.me (ap (λ (m : Seen). m.0.history.live) e.2 ∙ c.args.pass.now.live))

pub returns-clause-seen : goal.returns-clause-seen
returns-clause-seen c =
    let e = c.join_seat.ensures in
    let told = c.load.ensures.2 in
    let joined = ap (λ (m : Seen). history_of m.0) e.2 in
    let now = ap (λ (m : Seen). history_of m.0) told.0 ∙ joined in
    subst (λ (v : View SeriesCall). IsPrefix (history_of c.args.child.seat.me.0).seen v.seen) (sym now)
    (came_back (history_of c.args.pass.now.seat.me.0) (history_of c.args.child.seat.me.0) told.1.0 (subst (λ (v : View SeriesCall). Sees v told.1.0) joined told.1.1))
