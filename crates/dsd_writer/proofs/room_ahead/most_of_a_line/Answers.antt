use Rattle.std.proofs.Common.{◌+◌, ◌-◌, refl, arith}
use Rattle.dsd_writer.proofs.PointRooms.{line_of_one, room_of_one}
use Rattle.dsd_writer.proofs.room_ahead.most_of_a_line.Goals as goal

pub returns-in-Some : goal.returns-in-Some
returns-in-Some c = λ text short. room_of_one c.args.limit (c.args.limit - c.saturating_sub.result + 4) c.args.item.now text (λ within. omega (arith, line_of_one c.args.item.now text, c.in-Some.ensures.room))

pub returns-in-None : goal.returns-in-None
returns-in-None c = λ text short. room_of_one c.args.limit 0 c.args.item.now text (λ within. absurd (omega (arith, line_of_one c.args.item.now text, c.in-None.ensures.none.0 refl)))
