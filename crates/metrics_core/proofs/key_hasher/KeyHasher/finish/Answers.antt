use Rattle.metrics_core.specs.declared.key_hasher.Taken.TheVariants.{Nothing, Number, Bytes}
use Rattle.metrics_core.proofs.KeyHasherSteps.{finishes}
use Rattle.metrics_core.proofs.key_hasher.KeyHasher.finish.Goals as goal

pub returns-in-Nothing : goal.returns-in-Nothing
returns-in-Nothing c = λ calls stands. finishes c.args.self.now Nothing calls (cc) stands

pub returns-in-Number : goal.returns-in-Number
returns-in-Number c = λ calls stands. finishes c.args.self.now (Number c.in-Number.number) calls (cc) stands

pub returns-in-Bytes : goal.returns-in-Bytes
returns-in-Bytes c = λ calls stands. finishes c.args.self.now (Bytes c.in-Bytes.hash) calls (cc) stands
