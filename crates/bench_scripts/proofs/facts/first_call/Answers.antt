use Rattle.bench_scripts.specs.Vectors as vectors
use Rattle.bench_scripts.proofs.facts.first_call.Goals as goal

pub returns-clause-drawn : goal.returns-clause-drawn
returns-clause-drawn c = vectors.first_draw

pub returns-clause-line : goal.returns-clause-line
returns-clause-line c = vectors.first_call
