use Rattle.std.proofs.Common.{◌≡◌, length}
use Rattle.prom_exporter.specs.Exporter.{AllHome, state_of}
use Rattle.dsd_receiver.proofs.SoFar.{SoFar}
use Rattle.dsd_receiver.proofs.payloads.apply_lines.Given as goal

-- the first lines were applied
abbrev pub invariant-loop-rest : goal.invariant-loop-rest
invariant-loop-rest g l = record {
  home : AllHome l.state;
  settings : l.state.settings ≡ l.initial.state.settings;
  so_far : SoFar l.dialect l.moment l.payload l.rest (state_of l.initial.state) l.applied (state_of l.state);
}

abbrev pub decreases-loop-rest : goal.decreases-loop-rest
decreases-loop-rest g l = length l.rest
