use Rattle.drive_script.proofs.Fields.{digits_front}
use Rattle.drive_script.proofs.cursor.Cursor.fraction.Goals as goal

pub fraction_of-requires : goal.fraction_of-requires
fraction_of-requires c = rw (c.split_at.ensures.front, c.digit_count.ensures.count) (digits_front c.literal.new.self.rest.now)
