use Rattle.drive_script.specs.Vectors.{empty}
use Rattle.program_words.specs.Vectors.{none}
use Rattle.script_player.proofs.RunPages.{turns_are_pages}
use Rattle.program_words.proofs.examples.empty_example.Goals as goal

pub returns-clause-run : goal.returns-clause-run
returns-clause-run c = turns_are_pages empty

pub returns-clause-report : goal.returns-clause-report
returns-clause-report c = none
