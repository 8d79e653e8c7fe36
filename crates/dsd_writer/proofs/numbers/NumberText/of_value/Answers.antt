use Rattle.std.proofs.Common.{ℕ, Bor, List, ◌≤◌, ◌++◌, [], ◌∷◌, ap, arith, length, length-append}
use Rattle.dsd_writer.proofs.numbers.NumberText.of_value.Goals as goal
use Rattle.dsd_writer.proofs.numbers.NumberText.of_value.Goals.{then-value-lt0, else-value-lt0}

pub invariant_of-result : goal.invariant_of-result
invariant_of-result c =
    let sign = c.if-value-lt0.result.now in
    let before = sign ++ c.format.result.now in
    let short : length sign ≤ 1 =
    elim c.if-value-lt0.branch [
      | then-value-lt0 w ↦ omega (arith, ap (λ (text : Bor (List ℕ)). length text.now) w.result-is)
      | else-value-lt0 w ↦ omega (arith, ap (λ (text : Bor (List ℕ)). length text.now) w.result-is)
    ] in
    let whole = length-append sign c.format.result.now in
    let point = length-append before (46 ∷ []) in
    let all = length-append (before ++ 46 ∷ []) c.fraction_digits.result.now in
    (omega (arith, point, all), omega (arith, short, whole, point, all, c.format.ensures.short, c.fraction_digits.ensures.short))
