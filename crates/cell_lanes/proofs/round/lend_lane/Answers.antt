use Rattle.std.proofs.Common.{◌<◌, [], ◌∷◌, ◌++◌, set, length, sym, ap, ◌∙◌, subst, arith, length-append}
use Rattle.std.specs.Prelude.{slice_index_or}
use Rattle.std.proofs.Math.ListN.{length-set}
use Rattle.std.proofs.lemmas.List.{take_more}
use Rattle.atomic_table.proofs.Lists.{set_here}
use Rattle.legal_history.specs.declared.history.View.{View}
use Rattle.legal_history.specs.Order.{times}
use Rattle.cell_lanes.specs.declared.lane.Slot.{Slot}
use Rattle.cell_lanes.specs.Things.{Thing, root_of, fixed_of}
use Rattle.cell_lanes.specs.Lanes.{Owns, Stays, Each, Lends, SlotsFit, Fresh, cells_of}
use Rattle.cell_lanes.proofs.Lists.{at_or, below_some}
use Rattle.cell_lanes.proofs.Lending.{stays_none, stays_then, owned, cells_one, lends_more, roots_lent, fit_set, fit_one, fresh_one}
use Rattle.cell_lanes.proofs.round.lend_lane.Goals as goal

pub lend-requires-clause-here : goal.lend-requires-clause-here
lend-requires-clause-here g c =
    let t = slice_index_or c.args.named.now c.loop-cell.cell-index 0 in
    let b : t < length (g.S.Lenders.things c.args.shared.now) = c.requires.named c.loop-cell.cell-index t (at_or c.args.named.now c.loop-cell.cell-index 0 c.loop-cell-test.true) in
    omega (arith, c.loop-cell.invariant.len)

pub lend-requires-clause-root : goal.lend-requires-clause-root
lend-requires-clause-root g c =
    let i = c.loop-cell.invariant in
    roots_lent root_of (Stays g.S.Lenders.lasts fixed_of) (stays_none g.S.Lenders.lasts fixed_of g.S.Lenders.lasts_on) (stays_then g.S.Lenders.lasts fixed_of g.S.Lenders.lasts_then) (λ j. times j (cells_of c.loop-cell.slots.items)) (g.S.Lenders.things c.args.shared.now) (g.S.Lenders.things c.loop-cell.shared) i.len i.lends c.requires.roots
    (slice_index_or c.args.named.now c.loop-cell.cell-index 0)

pub returns-in-Err-clause-lends : goal.returns-in-Err-clause-lends
returns-in-Err-clause-lends g c =
    subst (Each (λ j. Lends root_of (Stays g.S.Lenders.lasts fixed_of) (times j (cells_of c.loop-cell.slots.items))) (g.S.Lenders.things c.args.shared.now)) (sym c.in-Err.ensures.refused) c.loop-cell.invariant.lends

pub returns-in-Err-clause-slots : goal.returns-in-Err-clause-slots
returns-in-Err-clause-slots g c =
    let i = c.loop-cell.invariant in
    (subst (λ things. SlotsFit (Owns fixed_of g.S.Lenders.owns) things c.loop-cell.slots.items) (sym c.in-Err.ensures.refused) i.slots, i.fresh)

pub loop-cell-preserved : goal.loop-cell-preserved
loop-cell-preserved g c =
    let i = c.loop-cell.invariant in
    let things = g.S.Lenders.things c.loop-cell.shared in
    let t = slice_index_or c.args.named.now c.loop-cell.cell-index 0 in
    let b : t < length (g.S.Lenders.things c.args.shared.now) = c.requires.named c.loop-cell.cell-index t (at_or c.args.named.now c.loop-cell.cell-index 0 c.loop-cell-test.true) in
    let k : t < length things = omega (arith, i.len) in
    let found = below_some things t k in
    let q = found.0 in
    let at = found.1 in
    let e = c.in-Ok.ensures.lent q at in
    let r : Thing _ _ = e.0 in
    let out = e.5 in
    let old = c.loop-cell.slots.items in
    let slot : Slot _ = record { cell = t; lent = c.in-Ok.lent } in
    let p = c.push_reserved.ensures in
    let cells = ap cells_of p.items ∙ cells_one old slot in
    let more = take_more c.args.named.now c.loop-cell.cell-index 0 c.loop-cell-test.true in
    record {
      frame = c.lend.ensures.frame ∙ i.frame;
      len = ap length out ∙ length-set things t r ∙ i.len;
      lends = subst (Each (λ j. Lends root_of (Stays g.S.Lenders.lasts fixed_of) (times j (cells_of c.push_reserved.new.self.items))) (g.S.Lenders.things c.args.shared.now)) (sym out)
          (subst (λ l. Each (λ j. Lends root_of (Stays g.S.Lenders.lasts fixed_of) (times j l)) (g.S.Lenders.things c.args.shared.now) (set things t r)) (sym cells)
          (lends_more root_of (Stays g.S.Lenders.lasts fixed_of) (stays_none g.S.Lenders.lasts fixed_of g.S.Lenders.lasts_on) (stays_then g.S.Lenders.lasts fixed_of g.S.Lenders.lasts_then) (g.S.Lenders.things c.args.shared.now) things (cells_of old) t q r at e.1 e.2 i.lends));
      cells = cells ∙ (ap (λ l. l ++ t ∷ []) i.cells ∙ sym more);
      slots = subst (λ ds. SlotsFit (Owns fixed_of g.S.Lenders.owns) ds c.push_reserved.new.self.items) (sym out)
          (subst (SlotsFit (Owns fixed_of g.S.Lenders.owns) (set things t r)) (sym p.items)
          (fit_one (Stays g.S.Lenders.lasts fixed_of) (stays_none g.S.Lenders.lasts fixed_of g.S.Lenders.lasts_on) (stays_then g.S.Lenders.lasts fixed_of g.S.Lenders.lasts_then) (Owns fixed_of g.S.Lenders.owns) (owned g.S.Lenders.lasts fixed_of g.S.Lenders.owns g.S.Lenders.owns_on) (set things t r) old slot r (set_here things t r k) e.3
          (fit_set (Stays g.S.Lenders.lasts fixed_of) (stays_none g.S.Lenders.lasts fixed_of g.S.Lenders.lasts_on) (stays_then g.S.Lenders.lasts fixed_of g.S.Lenders.lasts_then) (Owns fixed_of g.S.Lenders.owns) (owned g.S.Lenders.lasts fixed_of g.S.Lenders.owns g.S.Lenders.owns_on) things old t q r at e.2 i.slots)));
      fresh = subst (Fresh g.S.Lenders.knows) (sym p.items) (fresh_one g.S.Lenders.knows old slot (ap (λ (v : View _). v.mine) e.4) i.fresh);
      items = ap length p.items ∙ omega (arith, i.items, length-append old (slot ∷ []));
      count = omega (arith, p.len, i.count);
      room = p.capacity ∙ i.room;
    }
