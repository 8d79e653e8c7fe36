use Rattle.std.proofs.Common.{refl, ◌∙◌}
use Rattle.program_words.proofs.ReceiveSteps.{cut_line, stream_said_of}
use Rattle.program_words.proofs.say.say_stream_fault.Goals as goal

pub returns-in-Cut : goal.returns-in-Cut
returns-in-Cut g c = record {
  said = stream_said_of _ _ _ _ _ _ c.in-Cut.is (cut_line c.as_bytes.result.now c.in-Cut.frames (c.as_bytes.ensures.value ∙ c.format.ensures.text)) c.say.ensures.said;
}

pub returns-in-WriteFault : goal.returns-in-WriteFault
returns-in-WriteFault g c = record { said = stream_said_of _ _ _ _ _ _ c.in-WriteFault.is refl c.say-in-WriteFault.ensures.said }

pub returns-in-Memory : goal.returns-in-Memory
returns-in-Memory g c = record { said = stream_said_of _ _ _ _ _ _ c.in-Memory.is refl c.say-in-Memory.ensures.said }
