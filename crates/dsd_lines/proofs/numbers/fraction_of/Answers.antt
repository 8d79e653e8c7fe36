use Rattle.std.proofs.Common.{◌≡◌, ◌*◌, ◌^◌, ◌-◌, ◌<◌, Some, length, arith, ap, subst, sym, ◌∙◌}
use Rattle.std.specs.Str.Parse.{digits_value}
use Rattle.dsd_lines.proofs.Digits.{digits_all, few_digits, fraction_empty, fraction_read, fraction_small}
use Rattle.dsd_lines.proofs.numbers.fraction_of.Goals as goal
use Rattle.dsd_lines.proofs.numbers.fraction_of.Goals.{After-pow}

pub digits_value-requires : goal.digits_value-requires
digits_value-requires c = digits_all c.args.digits.now (sym c.are_digits.ensures ∙ c.if-not-are_digits.false)

pub returns-in_err-digits_value-clause-value : goal.returns-in_err-digits_value-clause-value
returns-in_err-digits_value-clause-value c =
    let told = few_digits c.args.digits.now c.digits_value.result (sym c.are_digits.ensures ∙ c.if-not-are_digits.false) c.if-digits-gt-PLACES.false c.digits_value.ensures in
    c.from_residual.ensures ∙ sym (fraction_empty c.args.digits.now (rw c.in_err-digits_value.was at told))

-- what the digits say, one at least
told : (c : After-pow) → (0 < length c.args.digits.now) × (c.in_ok-digits_value.field-0 ≡ digits_value 10 c.args.digits.now)
told c = rw c.in_ok-digits_value.was at (few_digits c.args.digits.now c.digits_value.result (sym c.are_digits.ensures ∙ c.if-not-are_digits.false) c.if-digits-gt-PLACES.false c.digits_value.ensures)

product : (c : After-pow) → c.in_ok-digits_value.field-0 * c.pow.result ≡ digits_value 10 c.args.digits.now * 10 ^ (9 - length c.args.digits.now)
product c = λ j. (told c).1 j * c.pow.ensures j

below_one : (c : After-pow) → c.in_ok-digits_value.field-0 * c.pow.result < 1000000000
below_one c = subst (λ n. n < 1000000000) (sym (product c)) (fraction_small c.args.digits.now c.if-digits-gt-PLACES.false (sym c.are_digits.ensures ∙ c.if-not-are_digits.false))

pub overflow_mul-result : goal.overflow_mul-result
overflow_mul-result c = let small = below_one c in omega arith

pub returns-clause-value : goal.returns-clause-value
returns-clause-value c =
    ap Some (product c) ∙ sym (fraction_read c.args.digits.now (sym c.are_digits.ensures ∙ c.if-not-are_digits.false) (told c).0 c.if-digits-gt-PLACES.false)

pub returns-clause-below : goal.returns-clause-below
returns-clause-below c = below_one c
