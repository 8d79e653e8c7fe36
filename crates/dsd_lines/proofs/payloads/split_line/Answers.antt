use Rattle.std.proofs.Common.{Some, None, refl, sym, ap, ◌∙◌}
use Rattle.std.specs.Prelude.{option_copied}
use Rattle.dsd_lines.proofs.PayloadLines.{first_line}
use Rattle.dsd_lines.proofs.payloads.split_line.Goals as goal

pub returns-in_default-clause-lines : goal.returns-in_default-clause-lines
returns-in_default-clause-lines c =
    (first_line c.args.bytes.now c.cut.result.0.now _ None c.requires c.cut.ensures.front (sym (ap option_copied c.in_default.is) ∙ c.cut.ensures.back) refl).0

pub returns-clause-lines : goal.returns-clause-lines
returns-clause-lines c =
    (first_line c.args.bytes.now c.cut.result.0.now c.in-Some.rest.now (Some c.in-Some.rest.now) c.requires c.cut.ensures.front (sym (ap option_copied c.in-Some.is) ∙ c.cut.ensures.back) refl).0

pub returns-clause-shorter : goal.returns-clause-shorter
returns-clause-shorter c =
    (first_line c.args.bytes.now c.cut.result.0.now c.in-Some.rest.now (Some c.in-Some.rest.now) c.requires c.cut.ensures.front (sym (ap option_copied c.in-Some.is) ∙ c.cut.ensures.back) refl).1
