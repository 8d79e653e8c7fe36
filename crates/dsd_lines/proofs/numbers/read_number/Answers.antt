use Rattle.std.proofs.Common.{sym, ◌∙◌}
use Rattle.dsd_lines.proofs.Digits.{digits_all, no_digits, zero_in_front, digits_read}
use Rattle.dsd_lines.proofs.numbers.read_number.Goals as goal

pub returns-then-not-are_digits : goal.returns-then-not-are_digits
returns-then-not-are_digits c = sym (no_digits c.args.text.now (sym c.are_digits.ensures ∙ c.if-not-are_digits.true))

pub digits_value-requires : goal.digits_value-requires
digits_value-requires c = digits_all c.args.text.now (sym c.are_digits.ensures ∙ c.if-not-are_digits.false)

pub returns-then-has_zero_in_front : goal.returns-then-has_zero_in_front
returns-then-has_zero_in_front c = let h = c.if-has_zero_in_front.ensures in sym (zero_in_front c.args.text.now h.0 h.1)

pub returns : goal.returns
returns c =
    digits_read c.args.text.now c.digits_value.result (digits_all c.args.text.now (sym c.are_digits.ensures ∙ c.if-not-are_digits.false)) c.if-has_zero_in_front.ensures c.digits_value.ensures
