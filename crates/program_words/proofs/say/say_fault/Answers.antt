use Rattle.std.proofs.Common.{refl, ◌∙◌}
use Rattle.program_words.proofs.Sayings.{said_of, script_line}
use Rattle.program_words.proofs.say.say_fault.Goals as goal

pub returns-in-Script : goal.returns-in-Script
returns-in-Script g c = record {
  said = said_of _ _ _ _ _ _ c.in-Script.is (script_line c.as_bytes.result.now c.in-Script.line (c.as_bytes.ensures.value ∙ c.format.ensures.text)) c.say.ensures.said;
}

pub returns-in-Setting : goal.returns-in-Setting
returns-in-Setting g c = record { said = said_of _ _ _ _ _ _ c.in-Setting.is refl c.say_setting.ensures.said }

pub returns-in-TooLong : goal.returns-in-TooLong
returns-in-TooLong g c = record { said = said_of _ _ _ _ _ _ c.in-TooLong.is refl c.say-in-TooLong.ensures.said }

pub returns-in-ReadFault : goal.returns-in-ReadFault
returns-in-ReadFault g c = record { said = said_of _ _ _ _ _ _ c.in-ReadFault.is refl c.say-in-ReadFault.ensures.said }

pub returns-in-WriteFault : goal.returns-in-WriteFault
returns-in-WriteFault g c = record { said = said_of _ _ _ _ _ _ c.in-WriteFault.is refl c.say-in-WriteFault.ensures.said }

pub returns-in-Memory : goal.returns-in-Memory
returns-in-Memory g c = record { said = said_of _ _ _ _ _ _ c.in-Memory.is refl c.say-in-Memory.ensures.said }
