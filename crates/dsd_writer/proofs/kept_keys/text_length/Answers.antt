use Rattle.std.proofs.Common.{◌≡◌, ◌+◌, ℕ, length, length-append, ap, ◌∙◌, arith}
use Rattle.dsd_writer.specs.Lines.{tags_text}
use Rattle.dsd_writer.specs.Kept.{kept_text}
use Rattle.dsd_writer.proofs.Tags.{labels_text}
use Rattle.dsd_writer.proofs.kept_keys.text_length.Goals as goal

pub returns-in_err-left : goal.returns-in_err-left
returns-in_err-left c =
    let labels = c.args.key.now.labels in
    let tags = ap length (labels_text c.as_slice-tags.result.now labels (c.as_slice-tags.ensures.value ∙ c.labels.ensures.rest)) in
    let name = ap length c.name.ensures.text in
    rw c.from_residual-in_err-left.ensures (omega (arith, c.in_ok-behind_name.ensures, c.in_err-left.ensures, tags, name, length-append c.args.key.now.name (tags_text labels)))

pub returns : goal.returns
returns c =
    let labels = c.args.key.now.labels in
    let tags = ap length (labels_text c.as_slice-tags.result.now labels (c.as_slice-tags.ensures.value ∙ c.labels.ensures.rest)) in
    let name = ap length c.name.ensures.text in
    omega (arith, c.in_ok-behind_name.ensures, c.in_ok-left.ensures, tags, name, length-append c.args.key.now.name (tags_text labels))
