use Rattle.std.proofs.Common.{◌≡◌, ℕ, List, [], ◌∷◌, ◌++◌, map, ap, ◌∙◌, rules, append_assoc}
use Rattle.std.specs.Int.{w128}
use Rattle.std.specs.Int.RustNames.{FitsSigned}
use Rattle.std.proofs.lemmas.Int.{to_z-of_z}
use Rattle.std.specs.Prelude.{decimal, string_bytes}
use Rattle.metrics_core.specs.Numbers.{page_number}
use Rattle.prom_format.specs.Pages.{labels_text}
use Rattle.page_relay.specs.Values.{label_of}
use Rattle.drive_script.specs.Words.{quoted}
use Rattle.rule_eval.specs.FiringText.{labels_of}
use Rattle.rule_eval.proofs.writer.push_line.Goals as goal

-- the parts of a line, one behind another
parts : (old number title labels value : List ℕ) → (((((((old ++ number) ++ 32 ∷ []) ++ title) ++ 32 ∷ []) ++ ((123 ∷ [] ++ labels) ++ 125 ∷ [])) ++ 32 ∷ []) ++ value) ++ 10 ∷ []
    ≡ old ++ (((((((number ++ 32 ∷ []) ++ title) ++ 32 ∷ 123 ∷ []) ++ labels) ++ 125 ∷ 32 ∷ []) ++ value) ++ 10 ∷ [])
parts old number title labels value = simp append_assoc

pub returns : goal.returns
returns c =
    let old = c.args.text.now.items in
    let rule = c.args.rule.now in
    let firing = c.args.firing.now in
    let group = map string_bytes firing.group.items in
    let text_of : List ℕ = labels_text (labels_of (map string_bytes rule.keys.items) group) in
    let number : c.as_bytes.result.now ≡ decimal c.args.page = c.as_bytes.ensures.value ∙ c.in_ok-push_count.ensures.ok ∙ ap (λ l. l ++ decimal c.args.page) c.new-number.ensures.bytes in
    let fits : FitsSigned w128 firing.value = search rules in
    let same = to_z-of_z w128 firing.value fits in
    let pushed = rw same at c.in_ok-push_fixed.ensures.ok in
    let value : c.as_bytes-2.result.now ≡ page_number firing.value = c.as_bytes-2.ensures.value ∙ pushed ∙ ap (λ l. l ++ page_number firing.value) c.new-value.ensures.bytes in
    let labels : labels_text (map label_of c.as_slice-3.result.now) ≡ text_of = ap (λ l. labels_text (map label_of l)) c.as_slice-3.ensures.value ∙ ap labels_text (c.in_ok-labels.ensures ∙ (λ j. labels_of (map string_bytes (c.as_slice.ensures.value j)) (map string_bytes (c.as_slice-2.ensures.value j)))) in
    let numbered = c.in_ok-extend_from_slice.ensures.items ∙ ap (λ l. old ++ l) number in
    let spaced = c.in_ok-push.ensures.items ∙ ap (λ l. l ++ 32 ∷ []) numbered in
    let titled = c.in_ok-push_quoted.ensures ∙ (λ j. spaced j ++ quoted (c.as_str.ensures.value j)) in
    let behind = c.in_ok-push-2.ensures.items ∙ ap (λ l. l ++ 32 ∷ []) titled in
    let labelled = c.in_ok-push_braces.ensures ∙ (λ j. behind j ++ ((123 ∷ [] ++ labels j) ++ 125 ∷ [])) in
    let before = c.in_ok-push-3.ensures.items ∙ ap (λ l. l ++ 32 ∷ []) labelled in
    let valued = c.in_ok-extend_from_slice-2.ensures.items ∙ (λ j. before j ++ value j) in
    c.in_ok-push-4.ensures.items ∙ ap (λ l. l ++ 10 ∷ []) valued ∙ parts old (decimal c.args.page) (quoted (string_bytes rule.title)) text_of (page_number firing.value)
