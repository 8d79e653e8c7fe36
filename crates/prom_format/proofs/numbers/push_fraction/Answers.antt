use Rattle.std.proofs.Common.{[], ◌∷◌, ◌++◌, string_bytes, length, drop, refl, sym, ap, ◌∙◌, arith, append_assoc}
use Rattle.std.specs.Char.{encode_utf8}
use Rattle.std.proofs.lemmas.Slice.{pushed}
use Rattle.metrics_core.specs.Numbers.{without_trailing_zeros}
use Rattle.metrics_core.proofs.Digits.{decimal-one_before, trim-zeros, fraction_text-some}
use Rattle.prom_format.proofs.numbers.push_fraction.Goals as goal

pub range_from-padded-requires : goal.range_from-padded-requires
range_from-padded-requires c =
    let text = c.format.ensures.text ∙ decimal-one_before c.args.fraction c.requires in
    let longer = ap length text in
    λ _. (omega arith, λ _ high. absurd (omega (arith, high, c.format.ensures.ascii 1)))

pub returns-clause-ok : goal.returns-clause-ok
returns-clause-ok c =
    let before = c.args.text.now in
    let text = c.format.ensures.text ∙ decimal-one_before c.args.fraction c.requires in
    let digits = c.range_from-padded.ensures.value ∙ ap (drop 1) text in
    let cut = trim-zeros _ _ c.trim_end_matches.ensures.matches ∙ ap without_trailing_zeros digits in
    let point = pushed {was = string_bytes before} (encode_utf8 46) refl c.in_ok-push.was c.push.ensures.bytes ∙ ap (λ t. string_bytes before ++ t) (c.push.ensures.ascii (omega arith)) in
    pushed _ point c.in_ok-push_str.was c.push_str.ensures.bytes
    ∙ append_assoc (string_bytes before) (46 ∷ []) _
    ∙ ap (λ t. string_bytes before ++ 46 ∷ t) cut
    ∙ ap (λ t. string_bytes before ++ t) (sym (fraction_text-some [] c.args.fraction c.if-fraction-eq0.false))
