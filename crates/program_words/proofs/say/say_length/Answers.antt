use Rattle.std.proofs.Common.{ℕ, List, ◌∙◌, subst}
use Rattle.metrics_core.specs.Outside.{Rose}
use Rattle.program_words.specs.Answers.{IsSaidText}
use Rattle.program_words.proofs.Sayings.{length_text}
use Rattle.program_words.proofs.say.say_length.Goals as goal

pub returns : goal.returns
returns g c =
    let P : List ℕ → Type 0 = IsSaidText (Rose (g.E.Sink.faults c.args.err.now) (g.E.Sink.faults c.say.new.err)) (g.E.Sink.written c.args.err.now) (g.E.Sink.written c.say.new.err) in
    record { said = subst P (length_text c.as_bytes.result.now c.args.limit c.args.behind.now (c.as_bytes.ensures.value ∙ c.format.ensures.text)) c.say.ensures.said }
