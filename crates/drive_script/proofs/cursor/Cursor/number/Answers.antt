use Rattle.std.proofs.Common.{refl}
use Rattle.drive_script.proofs.Fields.{number_past, number_read}
use Rattle.drive_script.proofs.cursor.Cursor.number.Goals as goal

pub returns-then-value-most-clause-value : goal.returns-then-value-most-clause-value
returns-then-value-most-clause-value c =
    number_past c.args.most c.in-Some.value c.args.self.now.rest.now _ c.in-Some.ensures.fits refl c.in-Some.ensures.number c.if-value-most.true

pub returns-clause-value : goal.returns-clause-value
returns-clause-value c =
    number_read c.args.most c.in-Some.value c.args.self.now.rest.now _ c.in-Some.rest.now c.in-Some.ensures.fits refl c.in-Some.ensures.rest c.in-Some.ensures.number c.if-value-most.false
