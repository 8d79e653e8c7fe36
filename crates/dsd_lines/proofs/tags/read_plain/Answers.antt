use Rattle.std.proofs.Common.{◌<◌, Some, length, ap, sym, ◌∙◌, rules}
use Rattle.dsd_lines.proofs.Plain.{plain_read, plain_refused}
use Rattle.dsd_lines.proofs.tags.read_plain.Goals as goal

pub returns-in_ok-from_str-in-Ok : goal.returns-in_ok-from_str-in-Ok
returns-in_ok-from_str-in-Ok c =
    let text = c.args.text.now in
    let utf8 = c.in-Ok.ensures.cases in
    let some : 0 < length text = search rules in
    ap Some (c.in_ok-from_str-in-Ok.ensures.ok ∙ utf8.0) ∙ sym (plain_read text some (sym c.contains.ensures.value ∙ c.if-contains.false) utf8.1)

pub returns-in-Err : goal.returns-in-Err
returns-in-Err c = sym (plain_refused c.args.text.now c.in-Err.ensures.cases.0)
