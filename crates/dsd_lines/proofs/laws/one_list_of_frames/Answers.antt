use Rattle.dsd_lines.proofs.Streams.{frames_told}
use Rattle.dsd_lines.proofs.laws.one_list_of_frames.Goals as goal

pub returns : goal.returns
returns c = frames_told
