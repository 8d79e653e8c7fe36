use Rattle.std.proofs.Common.{◌≡◌, ◌+◌, ◌++◌, length, ap, arith}
use Rattle.dsd_writer.specs.Lines.{tags_behind, tags_text}
use Rattle.dsd_writer.proofs.Tags.{leaves-behind, length-kept_tags}
use Rattle.dsd_writer.proofs.parts.behind_kept_tags.Goals as goal

pub returns : goal.returns
returns c =
    let labels = c.args.key.now.labels in
    let globals = c.args.global_tags.now in
    let own = ap length c.tags.ensures in
    let before = ap (λ first. length (tags_behind first globals)) c.before_next.ensures in
    let all : length (tags_text (labels ++ globals)) ≡ length c.tags.result.now + length (tags_behind c.before_next.result.now globals) = omega (arith, own, before, length-kept_tags labels globals) in
    leaves-behind c.behind_tags.result c.args.room c.in_ok-left.left (length c.tags.result.now) (length (tags_behind c.before_next.result.now globals)) (length (tags_text (labels ++ globals))) c.in_ok-left.ensures all c.behind_tags.ensures
