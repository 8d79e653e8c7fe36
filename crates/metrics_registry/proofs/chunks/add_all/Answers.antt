use Rattle.std.proofs.Common.{length, take, refl, ap, arith}
use Rattle.std.proofs.lemmas.List.{take_all}
use Rattle.std.proofs.lemmas.Option.{slice_get_read}
use Rattle.metrics_registry.specs.Bags.{copies, repeated}
use Rattle.metrics_registry.specs.Chunks.{entries_of}
use Rattle.metrics_registry.proofs.Bagged.{length-merged}
use Rattle.metrics_registry.proofs.Chunked.{copies-next_chunk, length-next_chunk}
use Rattle.metrics_registry.proofs.chunks.add_all.Goals as goal

pub add_entries-requires-clause-fits : goal.add_entries-requires-clause-fits
add_entries-requires-clause-fits c =
    let cs = c.args.others.now in
    let i = c.loop-other.other-index in
    let at = slice_get_read cs (length cs) i c.other-item.result refl c.loop-other-test.true c.other-item.is in
    omega (
      arith,
      length-merged (entries_of c.args.chunks.now.items) (entries_of (take i cs)) (entries_of c.loop-other.chunks.items) c.loop-other.invariant.added,
      length-next_chunk cs i c.other-item.result at,
      ap (λ es. length (repeated es)) c.as_slice.ensures.value,
      c.requires.fits,
    )

pub loop-other-preserved : goal.loop-other-preserved
loop-other-preserved c =
    let cs = c.args.others.now in
    let i = c.loop-other.other-index in
    record {
      ordered = c.add_entries.ensures.ordered;
      added = λ v. omega (arith, c.loop-other.invariant.added v, c.in_ok-add_entries.ensures.added v, copies-next_chunk v cs i c.other-item.result c.other-item.is c.loop-other-test.true, ap (copies v) c.as_slice.ensures.value);
    }

pub returns-clause-added : goal.returns-clause-added
returns-clause-added c = λ v.
    omega (arith, c.loop-other.invariant.added v, ap (λ l. copies v (entries_of l)) (take_all c.loop-other.other-index c.args.others.now c.loop-other-test.false))
