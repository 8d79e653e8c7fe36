use Rattle.std.proofs.Common.{IfErr, subst}
use Rattle.dsd_lines.specs.Texts.{line_text}
use Rattle.prom_exporter.specs.Exporter.{state_of}
use Rattle.dsd_receiver.specs.Receiving.{IsInPart}
use Rattle.dsd_receiver.proofs.receiver.Receiver.apply_line.Goals as goal

pub returns-clause-stopped : goal.returns-clause-stopped
returns-clause-stopped g c =
    subst (λ e. IfErr c.apply_said.result (λ stop. IsInPart c.args.moment (line_text c.args.line) stop.registered stop.values (state_of e) (state_of c.apply_said.new.state))) c.self.view_is c.apply_said.ensures.stopped
