use lib.Utf8.{encode}
use Rattle.std.proofs.Common.{[], ◌∷◌, ◌++◌, sym, ap, ◌∙◌}
use Rattle.std.specs.Prelude.{codes, decimal, string_bytes}
use Rattle.metrics_core.specs.Kinds.{kind_text}
use Rattle.metrics_core.specs.Numbers.{page_number, whole}
use Rattle.prom_format.specs.Printed.{escaped_label_value, printed_label_value}
use Rattle.prom_exporter.specs.Families.{overflow_name}
use Rattle.prom_exporter.proofs.RedirectedRows.{kind-plain, row-pushed}
use Rattle.prom_exporter.proofs.redirections.push_redirection.Goals as goal

pub returns : goal.returns
unfolding encode
returns c =
    let before = string_bytes c.args.buffer.now in
    let value = c.as_str.ensures.value ∙ c.in_ok-name.ensures in
    let word = c.kind_word.ensures ∙ sym (kind-plain c.args.kind) in
    c.in_ok-push.ensures.bytes
    ∙ ap (λ b. b ++ 10 ∷ [])
    (c.in_ok-push_count.ensures.ok
    ∙ ap (λ b. b ++ decimal c.args.count)
    (c.in_ok-push_str-6.ensures.bytes
    ∙ ap (λ b. b ++ codes "\"} ")
    (c.in_ok-push_str-5.ensures.bytes
    ∙ ap (λ b. b ++ c.kind_word.result.now)
    (c.in_ok-push_str-4.ensures.bytes
    ∙ ap (λ b. b ++ codes "\",kind=\"")
    (c.in_ok-push_str-3.ensures.bytes
    ∙ ap (λ b. b ++ c.as_str.result.now) (c.in_ok-push_str-2.ensures.bytes ∙ ap (λ b. b ++ codes "{metric=\"") c.in_ok-push_str.ensures.bytes))))))
    ∙ (λ j. (((((((before ++ overflow_name) ++ codes "{metric=\"") ++ value j) ++ codes "\",kind=\"") ++ word j) ++ codes "\"} ") ++ sym c.push_count.ensures.number j) ++ 10 ∷ [])
    ∙ row-pushed before (printed_label_value c.args.name.now) (escaped_label_value (kind_text c.args.kind)) (page_number (whole c.args.count))
