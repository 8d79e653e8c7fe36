use Rattle.std.proofs.Common.{◌∙◌, ap, take, drop, arith}
use Rattle.drive_script.proofs.Fields.{digits_front, number_none, number_past, number_read}
use Rattle.drive_script.proofs.cursor.Cursor.any_number.Goals as goal

pub number_of-requires : goal.number_of-requires
number_of-requires c = rw (c.split_at.ensures.front, c.digit_count.ensures.count) (digits_front c.args.self.now.rest.now)

pub returns-in_err-value-clause-value : goal.returns-in_err-value-clause-value
returns-in_err-value-clause-value c =
    rw c.from_residual.ensures (number_none c.args.most c.args.self.now.rest.now c.split_at.result.0.now (omega arith) (c.split_at.ensures.front ∙ ap (λ n. take n c.args.self.now.rest.now) c.digit_count.ensures.count) c.in_err-value.ensures)

pub returns-then-value-most-clause-value : goal.returns-then-value-most-clause-value
returns-then-value-most-clause-value c =
    number_past c.args.most c.in_ok-value.value c.args.self.now.rest.now c.split_at.result.0.now (omega arith) (c.split_at.ensures.front ∙ ap (λ n. take n c.args.self.now.rest.now) c.digit_count.ensures.count) c.in_ok-value.ensures c.if-value-most.true

pub returns-clause-value : goal.returns-clause-value
returns-clause-value c =
    number_read c.args.most c.in_ok-value.value c.args.self.now.rest.now c.split_at.result.0.now c.split_at.result.1.now (omega arith)
    (c.split_at.ensures.front ∙ ap (λ n. take n c.args.self.now.rest.now) c.digit_count.ensures.count) (c.split_at.ensures.back ∙ ap (λ n. drop n c.args.self.now.rest.now) c.digit_count.ensures.count) c.in_ok-value.ensures c.if-value-most.false
