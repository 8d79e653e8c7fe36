use Rattle.std.proofs.Common.{◌∙◌, length, refl, sym, ap, arith}
use Rattle.std.specs.Prelude.{option_map}
use Rattle.std.proofs.lemmas.Option.{slice_get_read}
use Rattle.metrics_core.specs.Fixed.{of_billionths}
use Rattle.metrics_registry.proofs.Chunked.{chunk-here, chunk-past}
use Rattle.metrics_registry.proofs.chunks.value_at.Goals as goal

pub returns-then-left-chunk : goal.returns-then-left-chunk
returns-then-left-chunk c =
    let cs = c.args.chunks.now in
    let i = c.loop-chunk.chunk-index in
    let chunk = c.chunk-item.result in
    let at = slice_get_read cs (length cs) i chunk refl c.loop-chunk-test.true c.chunk-item.is in
    c.value_at.ensures
    ∙ ap (option_map of_billionths) (sym (c.loop-chunk.invariant.1 ∙ chunk-here cs i c.loop-chunk.left chunk at c.requires.ordered c.loop-chunk.invariant.0 c.if-left-chunk.true))

pub loop-chunk-preserved : goal.loop-chunk-preserved
loop-chunk-preserved c =
    let cs = c.args.chunks.now in
    let i = c.loop-chunk.chunk-index in
    let chunk = c.chunk-item.result in
    let at = slice_get_read cs (length cs) i chunk refl c.loop-chunk-test.true c.chunk-item.is in
    (omega (arith, c.if-left-chunk.false), c.loop-chunk.invariant.1 ∙ chunk-past cs i c.loop-chunk.left chunk at c.requires.ordered c.if-left-chunk.false)
