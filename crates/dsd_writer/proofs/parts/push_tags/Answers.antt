use Rattle.std.proofs.Common.{[], ◌∷◌, ◌++◌, refl, sym, ap, ◌∙◌, arith, ◌+◌, length, append_assoc, length-append, drop}
use Rattle.std.specs.Prelude.{codes}
use Rattle.dsd_writer.specs.Lines.{tag_text, tags_behind}
use lib.Utf8.{encode}
use Rattle.dsd_writer.proofs.Tags.{next_tag, length-next_tag}
use Rattle.dsd_writer.proofs.parts.push_tags.Goals as goal

pub push-requires : goal.push-requires
push-requires c =
    let next = length-next_tag c.loop-tag.before.now c.args.tags.now c.loop-tag.tag-index c.tag-item.result c.loop-tag-test.true c.tag-item.is in
    let whole = ap length c.loop-tag.invariant.whole in
    let now = length-append c.loop-tag.bytes.items (tags_behind c.loop-tag.before.now (drop c.loop-tag.tag-index c.args.tags.now)) in
    let before = length-append c.args.bytes.now.items (tags_behind c.args.first.now c.args.tags.now) in
    omega (arith, next, whole, now, before)

pub push_tag-requires : goal.push_tag-requires
push_tag-requires c =
    let next = length-next_tag c.loop-tag.before.now c.args.tags.now c.loop-tag.tag-index c.tag-item.result c.loop-tag-test.true c.tag-item.is in
    let whole = ap length c.loop-tag.invariant.whole in
    let now = length-append c.loop-tag.bytes.items (tags_behind c.loop-tag.before.now (drop c.loop-tag.tag-index c.args.tags.now)) in
    let before = length-append c.args.bytes.now.items (tags_behind c.args.first.now c.args.tags.now) in
    omega (arith, next, whole, now, before)

pub loop-tag-preserved : goal.loop-tag-preserved
unfolding encode
loop-tag-preserved c =
    let next = next_tag c.loop-tag.before.now c.args.tags.now c.loop-tag.tag-index c.tag-item.result c.loop-tag-test.true c.tag-item.is in
    let rest = tags_behind (codes ",") (drop (c.loop-tag.tag-index + 1) c.args.tags.now) in
    let written = c.push_tag.ensures.items ∙ ap (λ t. t ++ tag_text c.tag-item.result) c.push.ensures.items in
    record {
      whole = ap (λ t. t ++ rest) written
          ∙ (simp append_assoc)
          ∙ ap (λ t. c.loop-tag.bytes.items ++ t) (sym next)
          ∙ c.loop-tag.invariant.whole;
      utf8 = (44 ∷ [], (refl, refl));
      capacity = omega arith;
    }
