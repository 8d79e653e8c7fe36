use Rattle.std.proofs.Common.{◌≡◌, [], ◌∷◌, ◌++◌, ◌+◌, map, take, get_or, ap, sym, ◌∙◌, append_assoc}
use Rattle.std.proofs.lemmas.List.{take_more, map_push}
use Rattle.prom_format.specs.Pages.{label_text}
use Rattle.page_relay.specs.Values.{label_of}
use Rattle.page_relay.proofs.Writing.{opened, mark, opened_push, mark_push}
use Rattle.rule_eval.proofs.writer.push_braces.Goals as goal

pub loop-label-preserved : goal.loop-label-preserved
loop-label-preserved c =
    let old = c.args.text.now.items in
    let labels = c.args.labels.now in
    let i = c.loop-label.label-index in
    let item = c.label-item.result in
    let xs = map label_of (take i labels) in
    let last : map label_of (take (i + 1) labels) ≡ xs ++ label_of item ∷ [] =
    ap (map label_of) (take_more labels i item c.loop-label-test.true) ∙ map_push label_of (take i labels) (get_or labels i item) ∙ ap (λ y. xs ++ label_of y ∷ []) (sym c.label-item.is) in
    let text : c.push_label.new.text.items ≡ old ++ opened (xs ++ label_of item ∷ []) =
    c.in_ok-push_label.ensures ∙ ap (λ l. l ++ label_text (label_of item)) (c.in_ok-push.ensures.items ∙ (λ j. c.loop-label.invariant.0 j ++ c.loop-label.invariant.1 j ∷ []))
    ∙ append_assoc (old ++ opened xs) (mark xs ∷ []) (label_text (label_of item)) ∙ append_assoc old (opened xs) (mark xs ∷ label_text (label_of item))
    ∙ ap (λ l. old ++ l) (sym (opened_push xs (label_of item))) in
    (text ∙ ap (λ ls. old ++ opened ls) (sym last), sym (ap mark last ∙ mark_push xs (label_of item)))
