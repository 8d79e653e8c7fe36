use Rattle.std.proofs.Common.{◌≡◌, [], length, refl, sym, ap, ◌∙◌, subst}
use Rattle.std.proofs.Math.ListN.{length-set}
use Rattle.cell_lanes.specs.Lanes.{Stays, Owns, Each, SlotsFit, given}
use Rattle.cell_lanes.specs.Things.{root_of, fixed_of}
use Rattle.cell_lanes.proofs.Lists.{below_some, each_same}
use Rattle.cell_lanes.proofs.Lending.{stays_none, stays_then, owned, fit_set}
use Rattle.cell_lanes.proofs.Returning.{Taking, taking_none, takes_more, roots_taking, fit_front, fit_last}
use Rattle.cell_lanes.proofs.round.take_lane.Goals as goal

pub loop-slot-init : goal.loop-slot-init
loop-slot-init g c =
    record {
      frame = refl;
      len = refl;
      slots = c.requires.slots;
      takes = each_same (Taking root_of (Stays g.S.Lenders.lasts fixed_of) (λ j. given g.S.Lenders.knows j c.args.lane c.args.slots.items) (λ j. given g.S.Lenders.knows j c.args.lane c.args.slots.items)) (g.S.Lenders.things c.args.shared.now) (taking_none root_of (Stays g.S.Lenders.lasts fixed_of) (stays_none g.S.Lenders.lasts fixed_of g.S.Lenders.lasts_on) (stays_then g.S.Lenders.lasts fixed_of g.S.Lenders.lasts_then) (λ j. given g.S.Lenders.knows j c.args.lane c.args.slots.items));
    }

pub take_back-requires-clause-here : goal.take_back-requires-clause-here
take_back-requires-clause-here g c =
    let things = g.S.Lenders.things c.loop-slot.shared in
    let all = subst (SlotsFit (Owns fixed_of g.S.Lenders.owns) things) c.in-Some.ensures.items c.loop-slot.invariant.slots in
    (fit_last (Owns fixed_of g.S.Lenders.owns) things c.pop.new.self.items c.in-Some.slot all).0

pub take_back-requires-clause-root : goal.take_back-requires-clause-root
take_back-requires-clause-root g c =
    let i = c.loop-slot.invariant in
    roots_taking root_of (Stays g.S.Lenders.lasts fixed_of) (stays_none g.S.Lenders.lasts fixed_of g.S.Lenders.lasts_on) (stays_then g.S.Lenders.lasts fixed_of g.S.Lenders.lasts_then) (λ j. given g.S.Lenders.knows j c.args.lane c.loop-slot.slots.items) (λ j. given g.S.Lenders.knows j c.args.lane c.args.slots.items)
    (g.S.Lenders.things c.args.shared.now) (g.S.Lenders.things c.loop-slot.shared) i.len i.takes c.requires.roots c.in-Some.slot.cell

pub take_back-requires-clause-lent : goal.take_back-requires-clause-lent
take_back-requires-clause-lent g c =
    let things = g.S.Lenders.things c.loop-slot.shared in
    let all = subst (SlotsFit (Owns fixed_of g.S.Lenders.owns) things) c.in-Some.ensures.items c.loop-slot.invariant.slots in
    (fit_last (Owns fixed_of g.S.Lenders.owns) things c.pop.new.self.items c.in-Some.slot all).1

pub loop-slot-preserved : goal.loop-slot-preserved
loop-slot-preserved g c =
    let i = c.loop-slot.invariant in
    let things = g.S.Lenders.things c.loop-slot.shared in
    let x = c.in-Some.slot in
    let all = subst (SlotsFit (Owns fixed_of g.S.Lenders.owns) things) c.in-Some.ensures.items i.slots in
    let k = (fit_last (Owns fixed_of g.S.Lenders.owns) things c.pop.new.self.items x all).0 in
    let found = below_some things x.cell k in
    let q = found.0 in
    let at = found.1 in
    let t = c.take_back.ensures.taken q at in
    let r = t.0 in
    let out = t.3 in
    let kept = subst (g.S.Lenders.lasts q.fixed) (sym t.2) (g.S.Lenders.lasts_on q.fixed) in
    record {
      frame = c.take_back.ensures.frame ∙ i.frame;
      len = ap length out ∙ length-set things x.cell r ∙ i.len;
      slots = subst (λ ds. SlotsFit (Owns fixed_of g.S.Lenders.owns) ds c.pop.new.self.items) (sym out)
          (fit_set (Stays g.S.Lenders.lasts fixed_of) (stays_none g.S.Lenders.lasts fixed_of g.S.Lenders.lasts_on) (stays_then g.S.Lenders.lasts fixed_of g.S.Lenders.lasts_then) (Owns fixed_of g.S.Lenders.owns) (owned g.S.Lenders.lasts fixed_of g.S.Lenders.owns g.S.Lenders.owns_on) things c.pop.new.self.items x.cell q r at kept
          (fit_front (Owns fixed_of g.S.Lenders.owns) things c.pop.new.self.items x all));
      takes = subst (Each (Taking root_of (Stays g.S.Lenders.lasts fixed_of) (λ j. given g.S.Lenders.knows j c.args.lane c.pop.new.self.items) (λ j. given g.S.Lenders.knows j c.args.lane c.args.slots.items)) (g.S.Lenders.things c.args.shared.now)) (sym out)
          (takes_more root_of (Stays g.S.Lenders.lasts fixed_of) (stays_none g.S.Lenders.lasts fixed_of g.S.Lenders.lasts_on) (stays_then g.S.Lenders.lasts fixed_of g.S.Lenders.lasts_then) g.S.Lenders.knows c.args.lane (λ j. given g.S.Lenders.knows j c.args.lane c.args.slots.items) (g.S.Lenders.things c.args.shared.now) things c.pop.new.self.items x q r at t.1 kept
          (subst (λ l. Each (Taking root_of (Stays g.S.Lenders.lasts fixed_of) (λ j. given g.S.Lenders.knows j c.args.lane l) (λ j. given g.S.Lenders.knows j c.args.lane c.args.slots.items)) (g.S.Lenders.things c.args.shared.now) things) c.in-Some.ensures.items i.takes));
    }

pub returns : goal.returns
returns g c =
    let i = c.loop-slot.invariant in
    let none : c.loop-slot.slots.items ≡ [] = Rattle.legal_history.proofs.Steps.empty_list c.loop-slot.slots.items (sym c.loop-slot.slots.ok.0 ∙ c.in_default.ensures.cases.0) in
    record {
      frame = i.frame;
      many = i.len;
      takes = Rattle.cell_lanes.proofs.Returning.taken_all root_of (Stays g.S.Lenders.lasts fixed_of) (stays_none g.S.Lenders.lasts fixed_of g.S.Lenders.lasts_on) (stays_then g.S.Lenders.lasts fixed_of g.S.Lenders.lasts_then) (λ j. given g.S.Lenders.knows j c.args.lane c.args.slots.items) (λ j. given g.S.Lenders.knows j c.args.lane c.loop-slot.slots.items)
          (g.S.Lenders.things c.args.shared.now) (g.S.Lenders.things c.loop-slot.shared) (λ j. ap (given g.S.Lenders.knows j c.args.lane) none) i.takes;
    }
