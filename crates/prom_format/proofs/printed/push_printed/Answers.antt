use Rattle.std.proofs.Common.{arith, sym, ap, ◌∙◌, ◌++◌, string_bytes}
use Rattle.prom_format.proofs.Kept.{IsCharBoundary-kept}
use Rattle.prom_format.proofs.Plain.{printed_text-plain}
use Rattle.prom_format.proofs.printed.push_printed.Goals as goal

pub returns-then-is_plain-clause-ok : goal.returns-then-is_plain-clause-ok
returns-then-is_plain-clause-ok c =
    let same = printed_text-plain c.args.in_label c.args.text.now (sym c.is_plain.ensures ∙ c.if-is_plain.true) in
    c.in_ok-push_str.ensures.bytes ∙ ap (λ t. string_bytes c.args.buffer.now ++ t) (sym same)

pub undo_refused-requires : goal.undo_refused-requires
undo_refused-requires c = IsCharBoundary-kept c.args.buffer.now c.push_escaped-outcome.new.buffer _ (omega arith) c.push_escaped-outcome.ensures.kept
