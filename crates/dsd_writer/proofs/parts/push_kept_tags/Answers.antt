use Rattle.std.proofs.Common.{◌++◌, sym, ap, ◌∙◌, append_assoc, arith, length}
use Rattle.dsd_writer.specs.Lines.{tags_behind}
use Rattle.dsd_writer.proofs.Tags.{kept_tags-append, length-kept_tags}
use Rattle.dsd_writer.proofs.parts.push_kept_tags.Goals as goal

pub push_bytes-requires : goal.push_bytes-requires
push_bytes-requires c =
    let own = ap length c.tags.ensures in
    omega (arith, c.requires, own, length-kept_tags c.args.key.now.labels c.args.global_tags.now)

pub push_tags-requires : goal.push_tags-requires
push_tags-requires c =
    let labels = c.args.key.now.labels in
    let globals = c.args.global_tags.now in
    let own = ap length c.tags.ensures in
    let before = ap (λ first. length (tags_behind first globals)) c.before_next.ensures in
    omega (arith, c.requires, own, before, c.push_bytes.ensures.len, c.push_bytes.ensures.capacity, length-kept_tags labels globals)

pub returns-clause-items : goal.returns-clause-items
returns-clause-items c =
    let labels = c.args.key.now.labels in
    let globals = c.args.global_tags.now in
    let old = c.args.bytes.now.items in
    let rest = tags_behind c.before_next.result.now globals in
    c.push_tags.ensures.items
    ∙ ap (λ t. t ++ rest) c.push_bytes.ensures.items
    ∙ append_assoc old c.tags.result.now rest
    ∙ (λ j. old ++ (c.tags.ensures j ++ tags_behind (c.before_next.ensures j) globals))
    ∙ ap (λ t. old ++ t) (sym (kept_tags-append labels globals))

pub returns-clause-len : goal.returns-clause-len
returns-clause-len c =
    let labels = c.args.key.now.labels in
    let globals = c.args.global_tags.now in
    let own = ap length c.tags.ensures in
    let before = ap (λ first. length (tags_behind first globals)) c.before_next.ensures in
    omega (arith, c.push_tags.ensures.len, c.push_bytes.ensures.len, own, before, length-kept_tags labels globals)
