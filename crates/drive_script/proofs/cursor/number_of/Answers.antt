use Rattle.std.proofs.Common.{◌≡◌, ◌≢◌, ◌<◌, length, get_or, arith, ◌∙◌, sym, ap, rules}
use Rattle.std.specs.Prelude.{decimal}
use Rattle.std.proofs.lemmas.Fmt.{decimal_nonempty}
use Rattle.drive_script.proofs.Fields.{no_zero_in_front, short_decimal}
use Rattle.drive_script.proofs.cursor.number_of.Goals as goal
use Rattle.drive_script.proofs.cursor.number_of.Goals.{else-digits-gt1-via-then-digits-gt1+else-digits-eq48, else-digits-gt1-via-else-digits-gt1}

pub returns-then-digits-eq48 : goal.returns-then-digits-eq48
returns-then-digits-eq48 c = λ n small is. no_zero_in_front n c.args.digits.now small c.if-digits-gt1.true c.if-digits-eq48.true is

pub parsed_number-requires-clause-plain : goal.parsed_number-requires-clause-plain
parsed_number-requires-clause-plain c =
    elim c.else-digits-gt1.branch [ else-digits-gt1-via-then-digits-gt1+else-digits-eq48 w ↦ λ _. w.if-digits-eq48.false | else-digits-gt1-via-else-digits-gt1 w ↦ λ long. absurd (omega arith) ]

pub returns : goal.returns
returns c =
    let some : 0 < length c.args.digits.now = search rules in
    let plain : 1 < length c.args.digits.now → get_or c.args.digits.now 0 0 ≢ 48 =
    elim c.else-digits-gt1.branch [ else-digits-gt1-via-then-digits-gt1+else-digits-eq48 w ↦ λ _. w.if-digits-eq48.false | else-digits-gt1-via-else-digits-gt1 w ↦ λ long. absurd (omega arith) ] in
    short_decimal c.args.digits.now c.requires some c.if-digits-gt-MOST_SHORT.false plain ∙ ap decimal (sym c.short_value.ensures.value)

pub returns-then-is_empty : goal.returns-then-is_empty
returns-then-is_empty c = λ n small is.
    let some = decimal_nonempty n small in
    let same = ap length is in
    let none : length c.args.digits.now ≡ 0 = search rules in
    omega (arith, some, same, none)
