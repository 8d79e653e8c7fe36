use Rattle.std.proofs.Common.{◌≡◌, ◌<◌, length, refl}
use Rattle.std.specs.Prelude.{slice_index_or}
use Rattle.std.proofs.lemmas.Result.{on_ok_weaker, on_err_weaker}
use mathlib.Core.Option.{some}
use lib.ListN.{get_elem?}
use Rattle.cell_lanes.specs.declared.lane.Slot.{Slot}
use Rattle.cell_lanes.proofs.Lists.{at_or, in_some}
use Rattle.cell_lanes.proofs.Running.{kept_none, kept_set, made_more, made_past, made_same}
use Rattle.cell_lanes.proofs.round.make_line.Goals as goal

pub returns-in_default-clause-made : goal.returns-in_default-clause-made
returns-in_default-clause-made g c = made_past g.S.Lenders.knows g.S.Lenders.stands_as c.args.slots.now c.args.line.now c.in_default.is

pub make-requires : goal.make-requires
make-requires g c =
    let slots = c.args.slots.now in
    let y = slice_index_or slots c.in-Some.index c.index-slots-index.result in
    in_some c.args.line.now.slot c.in-Some.index (λ s. (z : Slot _) → get_elem? slots s ≡ some z → (f : _) × g.S.Lenders.owns f z.lent × g.S.Lenders.takes f c.args.line.now.call) c.in-Some.is c.requires.taken y
    (at_or slots c.in-Some.index c.index-slots-index.result (in_some c.args.line.now.slot c.in-Some.index (λ s. s < length slots) c.in-Some.is c.requires.slot))

pub returns-clause-kept : goal.returns-clause-kept
returns-clause-kept g c =
    let slots = c.args.slots.now in
    let y = slice_index_or slots c.in-Some.index c.index-slots-index.result in
    let z : Slot _ = record { cell = y.cell; lent = c.make.new.lent } in
    kept_set g.S.Lenders.owns slots slots c.in-Some.index y z
    (at_or slots c.in-Some.index c.index-slots-index.result (in_some c.args.line.now.slot c.in-Some.index (λ s. s < length slots) c.in-Some.is c.requires.slot)) refl c.make.ensures.kept (kept_none g.S.Lenders.owns slots)

pub returns-clause-made : goal.returns-clause-made
returns-clause-made g c =
    let slots = c.args.slots.now in
    let y = slice_index_or slots c.in-Some.index c.index-slots-index.result in
    let z : Slot _ = record { cell = y.cell; lent = c.make.new.lent } in
    on_ok_weaker c.make.result (made_more g.S.Lenders.knows g.S.Lenders.stands_as slots c.args.line.now c.in-Some.index y z c.in-Some.is
    (at_or slots c.in-Some.index c.index-slots-index.result (in_some c.args.line.now.slot c.in-Some.index (λ s. s < length slots) c.in-Some.is c.requires.slot))) c.make.ensures.made

pub returns-clause-refused : goal.returns-clause-refused
returns-clause-refused g c =
    let slots = c.args.slots.now in
    let y = slice_index_or slots c.in-Some.index c.index-slots-index.result in
    let z : Slot _ = record { cell = y.cell; lent = c.make.new.lent } in
    on_err_weaker c.make.result (made_same g.S.Lenders.knows g.S.Lenders.stands_as slots c.in-Some.index y z
    (at_or slots c.in-Some.index c.index-slots-index.result (in_some c.args.line.now.slot c.in-Some.index (λ s. s < length slots) c.in-Some.is c.requires.slot))) c.make.ensures.refused
