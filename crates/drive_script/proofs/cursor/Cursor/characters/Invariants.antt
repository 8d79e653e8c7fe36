use Rattle.std.proofs.Common.{length}
use Rattle.drive_script.specs.Reading.{and_then, characters_at}
use Rattle.drive_script.proofs.Loops.{CharactersLeft}
use Rattle.drive_script.proofs.cursor.Cursor.characters.Given as goal

abbrev pub invariant-loop-self : goal.invariant-loop-self
invariant-loop-self l = CharactersLeft (and_then l.fn.run (characters_at l.fn.self.rest.now)) l.text.items l.self.rest.now

abbrev pub decreases-loop-self : goal.decreases-loop-self
decreases-loop-self l = length l.self.rest.now
