use Rattle.std.proofs.Common.{◌++◌, ap, arith, length, length-append, rules, []}
use Rattle.std.proofs.lemmas.Fmt.{decimal_nonempty}
use Rattle.dsd_writer.proofs.numbers.NumberText.of_count.Goals as goal

pub invariant_of-result : goal.invariant_of-result
invariant_of-result c =
    let whole = c.format.result.now in
    let some = decimal_nonempty c.args.count c.ranges.count.fits in
    (omega (arith, ap length c.format.ensures.text, some, length-append (whole ++ []) [], length-append whole []), search rules)
