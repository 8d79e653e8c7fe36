use Rattle.std.proofs.Common.{refl, ◌∙◌}
use Rattle.program_words.proofs.RelaySteps.{conflict_line, relay_said_of, syntax_line}
use Rattle.program_words.proofs.say.say_relay_fault.Goals as goal

pub returns-in-Syntax : goal.returns-in-Syntax
returns-in-Syntax g c = record {
  said = relay_said_of _ _ _ _ _ _ c.in-Syntax.is (syntax_line c.as_bytes.result.now c.in-Syntax.line (c.as_bytes.ensures.value ∙ c.format.ensures.text)) c.say.ensures.said;
}

pub returns-in-Conflict : goal.returns-in-Conflict
returns-in-Conflict g c = record {
  said = relay_said_of _ _ _ _ _ _ c.in-Conflict.is
      (conflict_line c.as_bytes-in-Conflict.result.now c.as_bytes-in-Conflict-2.result.now c.in-Conflict.page c.in-Conflict.name
      (c.as_bytes-in-Conflict.ensures.value ∙ c.format-in-Conflict.ensures.text) c.as_bytes-in-Conflict-2.ensures.value) c.say-in-Conflict.ensures.said;
}

pub returns-in-WriteFault : goal.returns-in-WriteFault
returns-in-WriteFault g c = record { said = relay_said_of _ _ _ _ _ _ c.in-WriteFault.is refl c.say-in-WriteFault.ensures.said }

pub returns-in-Memory : goal.returns-in-Memory
returns-in-Memory g c = record { said = relay_said_of _ _ _ _ _ _ c.in-Memory.is refl c.say-in-Memory.ensures.said }
