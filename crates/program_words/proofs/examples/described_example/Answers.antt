use Rattle.std.specs.Fmt.{digits}
use Rattle.std.specs.Str.{chars}
use Rattle.program_words.specs.Vectors.{described, described_pages}
use Rattle.script_player.proofs.RunPages.{turns_are_pages}
use Rattle.program_words.proofs.examples.described_example.Goals as goal

pub returns-clause-computed : goal.returns-clause-computed
returns-clause-computed c = described_pages

pub returns-clause-run : goal.returns-clause-run
unfolding digits chars
returns-clause-run c = turns_are_pages described
