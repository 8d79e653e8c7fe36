use Rattle.std.proofs.Common.{cond, get_or, pos, take, ap, rules, arith, w64}
use Rattle.std.specs.Prelude.{FitsSigned}
use Rattle.std.specs.Ordering.{int_eq}
use Rattle.std.proofs.lemmas.Int.{to_z-of_z}
use Rattle.std.proofs.lemmas.List.{take_all}
use Rattle.metrics_registry.specs.Bags.{copies}
use Rattle.metrics_registry.specs.Chunks.{entries_of}
use Rattle.metrics_registry.proofs.Bagged.{length-merged}
use Rattle.metrics_registry.proofs.Chunked.{copies-next, length-next}
use Rattle.metrics_registry.proofs.chunks.add_entries.Goals as goal

pub raise-requires-clause-fits : goal.raise-requires-clause-fits
raise-requires-clause-fits c =
    let es = c.args.entries.now in
    let i = c.loop-value.value-index in
    omega (arith, length-merged (entries_of c.args.chunks.now.items) (take i es) (entries_of c.loop-value.chunks.items) c.loop-value.invariant.added, length-next es i (pos 0, 0) c.loop-value-test.true, c.requires.fits)

pub loop-value-preserved : goal.loop-value-preserved
loop-value-preserved c =
    let es = c.args.entries.now in
    let i = c.loop-value.value-index in
    let e = get_or es i (pos 0, 0) in
    let fits : FitsSigned w64 (get_or c.args.entries.now c.loop-value.value-index (pos 0, 0)).0 = search rules in
    let own = to_z-of_z w64 e.0 fits in
    record {
      ordered = c.raise.ensures.ordered;
      added = λ v. omega (arith, c.loop-value.invariant.added v, c.in_ok-raise.ensures.raised v, copies-next v es i (pos 0, 0) c.loop-value-test.true, ap (λ k. cond (int_eq v k) e.1 0) own);
    }

pub returns-clause-added : goal.returns-clause-added
returns-clause-added c = λ v.
    omega (arith, c.loop-value.invariant.added v, ap (copies v) (take_all c.loop-value.value-index c.args.entries.now c.loop-value-test.false))
