use Rattle.std.proofs.Common.{sym, ap, ◌∙◌}
use Rattle.dsd_writer.specs.Cuts.{joined, full_cut}
use Rattle.dsd_writer.specs.Lines.{payload_fits}
use Rattle.dsd_writer.proofs.Best.{best_payloads, joined_twice}
use Rattle.dsd_writer.proofs.laws.payloads_are_whole_and_fewest.Goals as goal

pub returns-clause-within : goal.returns-clause-within
returns-clause-within c = λ limit lines within. (best_payloads limit lines within).1

pub returns-clause-whole : goal.returns-clause-whole
returns-clause-whole c = λ limit lines within.
    joined_twice (full_cut (payload_fits limit) lines) ∙ ap joined (sym (best_payloads limit lines within).0.full.cut.whole)

pub returns-clause-best : goal.returns-clause-best
returns-clause-best c = λ limit lines within. (best_payloads limit lines within).0
