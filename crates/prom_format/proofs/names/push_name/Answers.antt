use Rattle.std.proofs.Common.{arith, sym, ap, ◌∙◌, ◌++◌, string_bytes}
use Rattle.prom_format.proofs.Kept.{IsCharBoundary-kept}
use Rattle.prom_format.proofs.NameLemmas.{name_kept}
use Rattle.prom_format.proofs.names.push_name.Goals as goal

pub returns-then-is_name-clause-ok : goal.returns-then-is_name-clause-ok
returns-then-is_name-clause-ok c =
    let same = name_kept c.args.kind c.args.text.now (sym c.is_name.ensures ∙ c.if-is_name.true) in
    c.in_ok-push_str.ensures.bytes ∙ ap (λ t. string_bytes c.args.buffer.now ++ t) (sym same)

pub undo_refused-requires : goal.undo_refused-requires
undo_refused-requires c = IsCharBoundary-kept c.args.buffer.now c.push_sanitized-outcome.new.buffer _ (omega arith) c.push_sanitized-outcome.ensures.kept
