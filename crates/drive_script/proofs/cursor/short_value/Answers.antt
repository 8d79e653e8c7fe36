use Rattle.std.proofs.Common.{arith}
use Rattle.drive_script.proofs.Fields.{at_end, has_room}
use Rattle.drive_script.proofs.cursor.short_value.Goals as goal

pub overflow_mul-value : goal.overflow_mul-value
overflow_mul-value c =
    let room = has_room c.args.digits.now c.loop-rest.rest.now c.loop-rest.value c.requires.all c.requires.few c.loop-rest.invariant.0 c.loop-rest.invariant.1 (omega (arith, c.in-len1-up.len_at_least)) in
    omega (arith, room.0)

pub overflow_add-value : goal.overflow_add-value
overflow_add-value c =
    let room = has_room c.args.digits.now c.loop-rest.rest.now c.loop-rest.value c.requires.all c.requires.few c.loop-rest.invariant.0 c.loop-rest.invariant.1 (omega (arith, c.in-len1-up.len_at_least)) in
    omega (arith, room.1, c.from.ensures)

pub returns-clause-below : goal.returns-clause-below
returns-clause-below c = at_end c.args.digits.now c.loop-rest.rest.now c.loop-rest.value c.requires.all c.requires.few c.loop-rest.invariant.1 (omega (arith, c.in_default.len_below))
