use Rattle.std.proofs.Common.{[], ◌∷◌, refl, arith}
use lib.Utf8.{encode}
use Rattle.dsd_writer.proofs.Tags.{length-next_tag}
use Rattle.dsd_writer.proofs.parts.behind_tags.Goals as goal

pub loop-tag-preserved : goal.loop-tag-preserved
unfolding encode
loop-tag-preserved c =
    let next = length-next_tag c.loop-tag.before.now c.args.tags.now c.loop-tag.tag-index c.tag-item.result c.loop-tag-test.true c.tag-item.is in
    (omega (arith, next, c.loop-tag.invariant.0, c.in_ok-left.ensures, c.in_ok-behind.ensures), (44 ∷ [], (refl, refl)))
