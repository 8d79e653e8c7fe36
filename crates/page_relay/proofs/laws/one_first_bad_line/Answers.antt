use Rattle.page_relay.proofs.BadLines.{bad_lines_same}
use Rattle.page_relay.proofs.laws.one_first_bad_line.Goals as goal

pub returns : goal.returns
returns c = record { same = bad_lines_same; no_stream = λ bytes l pages h. h.no_stream pages }
