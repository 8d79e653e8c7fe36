use Rattle.dsd_lines.proofs.Spellings.{said_text, said_as_written, said_is_line}
use Rattle.dsd_lines.proofs.laws.written_lines_are_read_back.Goals as goal

pub returns : goal.returns
returns c = λ said h. (said_text said, said_as_written said, said_is_line said h)
