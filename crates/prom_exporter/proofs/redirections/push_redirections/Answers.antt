use lib.Utf8.{encode}
use Rattle.std.proofs.Common.{◌++◌, [], ◌∷◌, take, sym, ap, ◌∙◌, append_assoc, arith}
use Rattle.std.specs.Prelude.{string_bytes}
use Rattle.std.proofs.lemmas.List.{take_all}
use Rattle.metrics_core.specs.Characters.{line}
use Rattle.prom_format.specs.Pages.{row_text, type_line_text}
use Rattle.prom_format.specs.declared.families.FamilyType.TheVariants as types
use Rattle.name_counts.specs.Counts.{NameCount}
use Rattle.prom_exporter.specs.Families.{overflow_name, overflow_row}
use Rattle.prom_exporter.proofs.Printing.{blocks-next}
use Rattle.prom_exporter.proofs.RedirectedRows.{rows_text, some-overflow, block-pushed, none_past}
use Rattle.prom_exporter.proofs.redirections.push_redirections.Goals as goal

pub unreachable-requires : goal.unreachable-requires
unreachable-requires c =
    none_past c.args.redirections.now.entries c.loop-index.index (omega (arith, c.loop-index-test.true, c.len-index-end.ensures)) c.in_default.ensures

pub loop-index-preserved : goal.loop-index-preserved
loop-index-preserved c =
    let counted : NameCount = record { kind = c.in-Some.kind; name = c.in-Some.name.now; count = c.in-Some.count } in
    c.in_ok-push_redirection.ensures
    ∙ ap (λ b. b ++ row_text (overflow_row counted)) c.loop-index.invariant
    ∙ append_assoc _ _ (row_text (overflow_row counted))
    ∙ ap (λ rows. string_bytes c.write_type_line.new.buffer ++ rows) (sym (blocks-next (λ redirected. row_text (overflow_row redirected)) c.args.redirections.now.entries c.loop-index.index counted (sym c.in-Some.ensures)))

pub returns : goal.returns
unfolding encode
returns c =
    let all = c.args.redirections.now.entries in
    let before = string_bytes c.args.buffer.now in
    let type = type_line_text overflow_name types.Counter in
    let rows = c.loop-index.invariant ∙ (λ j. c.in_ok-write_type_line.ensures.ok j ++ rows_text (take_all c.loop-index.index all (omega (arith, c.len-index-end.ensures)) j)) in
    c.in_ok-push.ensures.bytes
    ∙ ap (λ b. b ++ line []) rows
    ∙ block-pushed before type (rows_text all)
    ∙ ap (λ text. before ++ text) (sym (some-overflow all (λ none. c.if-len-eq0.false (c.len.ensures ∙ none))))
