use Rattle.std.proofs.Common.{refl}
use Rattle.program_words.proofs.ServeEnds.{served_said_of}
use Rattle.program_words.proofs.serving_lines.say_serve_fault.Goals as goal

pub returns-in-FailedToCreateHTTPListener : goal.returns-in-FailedToCreateHTTPListener
returns-in-FailedToCreateHTTPListener g c = record { said = served_said_of _ _ _ _ _ _ c.in-FailedToCreateHTTPListener.is refl c.say.ensures.said }
