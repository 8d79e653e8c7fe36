use Rattle.std.specs.Fmt.{digits}
use Rattle.std.specs.Str.{chars}
use Rattle.drive_script.specs.Vectors.{basic}
use Rattle.program_words.specs.Vectors.{basic_pages, one_page, basic_framed, basic_payloads}
use Rattle.script_player.proofs.RunPages.{turns_are_pages}
use Rattle.program_words.proofs.examples.basic_example.Goals as goal

pub returns-clause-computed : goal.returns-clause-computed
returns-clause-computed c = basic_pages

pub returns-clause-run : goal.returns-clause-run
unfolding digits chars
returns-clause-run c = turns_are_pages basic

pub returns-clause-report : goal.returns-clause-report
returns-clause-report c = one_page

pub returns-clause-payloads : goal.returns-clause-payloads
returns-clause-payloads c = basic_payloads

pub returns-clause-framed : goal.returns-clause-framed
returns-clause-framed c = basic_framed
