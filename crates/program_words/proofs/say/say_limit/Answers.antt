use Rattle.std.proofs.Common.{ap}
use Rattle.dsd_addresses.specs.Faults.{limit_fault_text}
use Rattle.program_words.proofs.Sayings.{limit_said}
use Rattle.program_words.proofs.say.say_limit.Goals as goal

pub returns-in-Low : goal.returns-in-Low
returns-in-Low g c = record { said = limit_said _ _ _ _ c.in-Low.limit _ (ap limit_fault_text c.in-Low.is) c.say_length.ensures.said }

pub returns-in-Udp : goal.returns-in-Udp
returns-in-Udp g c = record { said = limit_said _ _ _ _ c.in-Udp.limit _ (ap limit_fault_text c.in-Udp.is) c.say_length-in-Udp.ensures.said }

pub returns-in-Bound : goal.returns-in-Bound
returns-in-Bound g c = record { said = limit_said _ _ _ _ c.in-Bound.limit _ (ap limit_fault_text c.in-Bound.is) c.say_length-in-Bound.ensures.said }
