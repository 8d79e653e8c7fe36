use Rattle.std.proofs.Common.{ℕ, get_or, pos, arith}
use Rattle.std.specs.Prelude.{ℤ, replicate}
use Rattle.std.proofs.lemmas.List.{length-replicate}
use Rattle.std.proofs.lemmas.List.Folds.{length-flat_map-take}
use Rattle.metrics_registry.proofs.chunks.count_of.Goals as goal

pub overflow_add-total : goal.overflow_add-total
overflow_add-total c =
    let es = c.args.entries.now in
    let i = c.loop-count.count-index in
    let e = get_or es i (pos 0, 0) in
    omega (arith, length-flat_map-take (λ (e : ℤ × ℕ). replicate e.1 e.0) es i (pos 0, 0) c.loop-count-test.true, length-replicate e.1 e.0, c.loop-count.invariant, c.requires)
