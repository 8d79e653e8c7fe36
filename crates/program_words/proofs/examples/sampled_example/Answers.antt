use Rattle.std.specs.Fmt.{digits}
use Rattle.std.specs.Str.{chars}
use Rattle.drive_script.specs.Vectors.{sampled}
use Rattle.program_words.specs.Vectors.{sampled_pages, sampled_payloads}
use Rattle.script_player.proofs.RunPages.{turns_are_pages}
use Rattle.program_words.proofs.examples.sampled_example.Goals as goal

pub returns-clause-computed : goal.returns-clause-computed
returns-clause-computed c = sampled_pages

pub returns-clause-run : goal.returns-clause-run
unfolding digits chars
returns-clause-run c = turns_are_pages sampled

pub returns-clause-payloads : goal.returns-clause-payloads
returns-clause-payloads c = sampled_payloads
