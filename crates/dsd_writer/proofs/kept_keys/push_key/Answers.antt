use Rattle.std.proofs.Common.{◌++◌, length, length-append, append_assoc, ap, ◌∙◌, arith}
use Rattle.std.specs.Prelude.{codes}
use Rattle.metrics_core.specs.Keys.{KeyText}
use Rattle.dsd_writer.specs.Lines.{tags_behind, tags_text}
use Rattle.dsd_writer.proofs.Tags.{labels_text}
use Rattle.dsd_writer.proofs.kept_keys.push_key.Goals as goal

pub push_tags-requires : goal.push_tags-requires
push_tags-requires c =
    let labels = c.args.key.now.labels in
    let tags = ap length (labels_text c.as_slice-tags.result.now labels (c.as_slice-tags.ensures.value ∙ c.labels.ensures.rest)) in
    let name = ap length c.name.ensures.text in
    omega (arith, c.requires, c.push.ensures.len, c.push.ensures.capacity, tags, name, length-append c.args.key.now.name (tags_text labels))

pub returns-clause-items : goal.returns-clause-items
returns-clause-items c =
    let labels = c.args.key.now.labels in
    let old = c.args.text.now.items in
    let text = tags_behind (codes "|#") c.as_slice-tags.result.now in
    let tags = labels_text c.as_slice-tags.result.now labels (c.as_slice-tags.ensures.value ∙ c.labels.ensures.rest) in
    let name = c.name.ensures.text in
    c.push_tags.ensures.items ∙ ap (λ t. t ++ text) c.push.ensures.items ∙ append_assoc old c.name.result.now text ∙ (λ j. old ++ (name j ++ tags j))

pub returns-clause-stands : goal.returns-clause-stands
returns-clause-stands c =
    let labels = c.args.key.now.labels in
    let tags = ap length (labels_text c.as_slice-tags.result.now labels (c.as_slice-tags.ensures.value ∙ c.labels.ensures.rest)) in
    let name = ap length c.name.ensures.text in
    let kept = c.of.ensures in
    record {
      begins = c.len-begin.ensures ∙ c.args.text.now.ok.0;
      name = omega (arith, c.len-middle.ensures, c.push.ensures.len, c.args.text.now.ok.0, name, ap (λ (key : KeyText). length key.name) kept);
      tags = omega (arith, c.len-end.ensures, c.len-middle.ensures, c.push_tags.ensures.len, tags, ap (λ (key : KeyText). length (tags_text key.labels)) kept);
    }
