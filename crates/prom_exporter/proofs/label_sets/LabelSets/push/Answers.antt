use Rattle.std.proofs.Common.{◌≡◌, ◌∷◌, [], ◌++◌, length, sym, ap, subst, ◌∙◌}
use Rattle.std.specs.Prelude.{string_bytes}
use Rattle.std.specs.Str.{IsCharBoundary}
use Rattle.prom_exporter.specs.Pieces.{pieces, AreCuts}
use Rattle.prom_format.specs.LabelSets.{labels_of}
use Rattle.prom_exporter.specs.Rows.{label_set_of}
use Rattle.prom_exporter.proofs.PieceTexts.{cuts-more, pieces-more, split-there}
use Rattle.prom_exporter.proofs.label_sets.LabelSets.push.Goals as goal

pub truncate-requires : goal.truncate-requires
truncate-requires c =
    let bytes = string_bytes c.self.inside.text in
    let begin : c.len-begin.result ≡ length bytes = c.len-begin.ensures ∙ c.self.inside.text.bytes.ok.0 in
    λ within. split-there _ _ _ begin c.in_ok-push_row_labels.ensures.begins

pub invariant_of-self-in-Ok : goal.invariant_of-self-in-Ok
invariant_of-self-in-Ok c =
    let bytes = string_bytes c.self.inside.text in
    let ends = c.self.inside.ends.items in
    let text = c.in_ok-push_row_labels.ensures.labels in
    let end : c.len-end.result ≡ length (bytes ++ (label_set_of (labels_of c.args.globals.now.entries) c.args.key.now)) = c.len-end.ensures ∙ c.push_row_labels.new.buffer.bytes.ok.0 ∙ ap length text in
    let items = c.in-Ok.ensures.items ∙ ap (λ n. ends ++ n ∷ []) end in
    subst (λ l. AreCuts l 0 c.push.new.self.items) (sym text) (subst (AreCuts (bytes ++ (label_set_of (labels_of c.args.globals.now.entries) c.args.key.now)) 0) (sym items) (cuts-more bytes (label_set_of (labels_of c.args.globals.now.entries) c.args.key.now) 0 ends (subst (λ l. IsCharBoundary l (length bytes)) text c.in_ok-push_row_labels.ensures.begins) c.self.invariant))

pub returns-clause-pushed : goal.returns-clause-pushed
returns-clause-pushed c =
    let bytes = string_bytes c.self.inside.text in
    let ends = c.self.inside.ends.items in
    let text = c.in_ok-push_row_labels.ensures.labels in
    let end : c.len-end.result ≡ length (bytes ++ (label_set_of (labels_of c.args.globals.now.entries) c.args.key.now)) = c.len-end.ensures ∙ c.push_row_labels.new.buffer.bytes.ok.0 ∙ ap length text in
    let items = c.in-Ok.ensures.items ∙ ap (λ n. ends ++ n ∷ []) end in
    (λ j. pieces (text j) 0 (items j)) ∙ pieces-more bytes (label_set_of (labels_of c.args.globals.now.entries) c.args.key.now) 0 ends c.self.invariant ∙ ap (λ l. l ++ (label_set_of (labels_of c.args.globals.now.entries) c.args.key.now) ∷ []) c.self.view_is
