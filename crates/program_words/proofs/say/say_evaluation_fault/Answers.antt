use Rattle.std.proofs.Common.{refl, ◌∙◌}
use Rattle.std.specs.Prelude.{codes}
use Rattle.program_words.proofs.RulesSteps.{evaluation_said_of, place_line}
use Rattle.program_words.proofs.say.say_evaluation_fault.Goals as goal

pub returns-in-Rules : goal.returns-in-Rules
returns-in-Rules g c = record {
  said = evaluation_said_of _ _ _ _ _ _ c.in-Rules.is (place_line (codes "rules: line ") c.as_bytes.result.now c.in-Rules.line (c.as_bytes.ensures.value ∙ c.format.ensures.text)) c.say.ensures.said;
}

pub returns-in-Pages : goal.returns-in-Pages
returns-in-Pages g c = record {
  said = evaluation_said_of _ _ _ _ _ _ c.in-Pages.is (place_line (codes "page: line ") c.as_bytes-in-Pages.result.now c.in-Pages.line (c.as_bytes-in-Pages.ensures.value ∙ c.format-in-Pages.ensures.text)) c.say-in-Pages.ensures.said;
}

pub returns-in-WriteFault : goal.returns-in-WriteFault
returns-in-WriteFault g c = record { said = evaluation_said_of _ _ _ _ _ _ c.in-WriteFault.is refl c.say-in-WriteFault.ensures.said }

pub returns-in-Memory : goal.returns-in-Memory
returns-in-Memory g c = record { said = evaluation_said_of _ _ _ _ _ _ c.in-Memory.is refl c.say-in-Memory.ensures.said }
