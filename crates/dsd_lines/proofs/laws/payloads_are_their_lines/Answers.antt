use Rattle.dsd_lines.proofs.PayloadLines.{line_in_front}
use Rattle.dsd_lines.proofs.laws.payloads_are_their_lines.Goals as goal

pub returns : goal.returns
returns c = line_in_front
