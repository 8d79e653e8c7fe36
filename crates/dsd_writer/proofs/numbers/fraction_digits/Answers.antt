use Rattle.std.proofs.Common.{[], ◌∷◌, length, drop, sym, ap, ◌∙◌, arith}
use Rattle.metrics_core.specs.Numbers.{without_trailing_zeros}
use Rattle.metrics_core.proofs.Digits.{decimal-one_before, trim-zeros, fraction_text-some}
use Rattle.dsd_writer.proofs.numbers.fraction_digits.Goals as goal

pub range_from-padded-requires : goal.range_from-padded-requires
range_from-padded-requires c =
    let text = c.format.ensures.text ∙ decimal-one_before c.args.fraction c.requires in
    let longer = ap length text in
    λ _. (omega arith, λ _ high. absurd (omega (arith, high, c.format.ensures.ascii 1)))

pub returns : goal.returns
returns c =
    let text = c.format.ensures.text ∙ decimal-one_before c.args.fraction c.requires in
    let digits = c.range_from-padded.ensures.value ∙ ap (drop 1) text in
    let cut = trim-zeros _ _ c.trim_end_matches.ensures.matches ∙ ap without_trailing_zeros digits in
    (ap (λ t. 46 ∷ t) cut ∙ sym (fraction_text-some (46 ∷ 48 ∷ []) c.args.fraction c.if-fraction-eq0.false), omega arith)
