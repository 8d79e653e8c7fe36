use Rattle.std.proofs.Common.{◌-◌, ◌∙◌, get_or, pos, Some, sym, ap, rules, arith, w64}
use Rattle.std.specs.Prelude.{FitsSigned, option_map, slice_get}
use Rattle.std.proofs.lemmas.Int.{to_z-of_z}
use Rattle.metrics_core.specs.Fixed.{of_billionths}
use Rattle.metrics_registry.specs.Bags.{repeated}
use Rattle.metrics_registry.proofs.Chunked.{walk-here, walk-past}
use Rattle.metrics_registry.proofs.chunks.Chunk.value_at.Goals as goal

pub returns-then-left-count : goal.returns-then-left-count
returns-then-left-count c =
    let es = c.as_slice-value-items.result.now in
    let i = c.loop-value.value-index in
    let e = get_or es i (pos 0, 0) in
    let fits : FitsSigned w64 (get_or c.as_slice-value-items.result.now c.loop-value.value-index (pos 0, 0)).0 = search rules in
    let own = to_z-of_z w64 e.0 fits in
    ap (λ v. Some (of_billionths v)) own
    ∙ sym (ap (option_map of_billionths) (
    ap (λ l. slice_get (repeated l) (c.args.rank - 1)) (sym c.as_slice-value-items.ensures.value)
    ∙ c.loop-value.invariant.1
    ∙ walk-here es i c.loop-value.left (pos 0, 0) c.loop-value-test.true c.loop-value.invariant.0 c.if-left-count.true))

pub loop-value-preserved : goal.loop-value-preserved
loop-value-preserved c =
    let es = c.as_slice-value-items.result.now in
    (omega (arith, c.if-left-count.false), c.loop-value.invariant.1 ∙ walk-past es c.loop-value.value-index c.loop-value.left (pos 0, 0) c.loop-value-test.true c.if-left-count.false)
