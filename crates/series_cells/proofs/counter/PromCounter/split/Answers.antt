use Rattle.std.proofs.Common.{◌<◌, sym, ap, arith, subst, ne_eqb}
use Rattle.series_cells.specs.Values.{counter_step, itself}
use Rattle.series_cells.specs.declared.views.CellView.{CellView}
use Rattle.series_cells.specs.Cell.{Seen}
use Rattle.series_cells.proofs.CellSteps.{lends}
use Rattle.series_cells.proofs.counter.PromCounter.split.Goals as goal

pub split_seat-seat-requires : goal.split_seat-seat-requires
split_seat-seat-requires c =
    let p = c.args.pass.now in
    (c.requires.pass, omega (arith, c.args.self.now.two), lends counter_step 0 itself p.seat.id p.seat.me.0 p.live c.requires.root)

pub invariant_of-result : goal.invariant_of-result
invariant_of-result c =
    let p = c.args.pass.now in
    let e = c.split_seat-seat.ensures in
    let v = ap (λ (m : Seen). m.0) e.4 in
    record {
      live = ap (λ (x : CellView). x.history.live) v;
      counted = ap (λ (x : CellView). x.waits) v;
      empty = ap (λ (m : Seen). m.1) e.4;
      made = subst (λ n. 0 < n) (sym (ap (λ (x : CellView). x.history.made) v)) (omega arith);
      root_is = sym (ne_eqb _ 0 (λ z. let n = ap (λ (x : CellView). x.history.number) v in let m : 0 < p.seat.me.0.history.made = p.made in omega arith));
    }
