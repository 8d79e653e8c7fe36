use Rattle.std.proofs.Common.{◌++◌, sym, ap, ◌∙◌, append_assoc}
use Rattle.std.specs.Prelude.{codes}
use Rattle.dsd_writer.specs.Lines.{tags_behind, before_next}
use Rattle.dsd_writer.proofs.Tags.{tags_text-append}
use Rattle.dsd_writer.proofs.parts.push_all_tags.Goals as goal

pub returns-clause-items : goal.returns-clause-items
returns-clause-items c =
    let before = c.args.bytes.now.items in
    let own = tags_behind (codes "|#") c.args.tags.now in
    let global = c.args.global_tags.now in
    c.push_tags-2.ensures.items
    ∙ ap (λ t. t ++ tags_behind c.before_next.result.now global) c.push_tags.ensures.items
    ∙ ap (λ first. (before ++ own) ++ tags_behind first global) c.before_next.ensures
    ∙ append_assoc before own (tags_behind (before_next (codes "|#") c.args.tags.now) global)
    ∙ ap (λ t. before ++ t) (sym (tags_text-append c.args.tags.now global))
