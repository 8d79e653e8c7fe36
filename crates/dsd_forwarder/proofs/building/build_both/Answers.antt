use Rattle.std.proofs.Common.{refl, ap, ◌∙◌}
use Rattle.legal_history.specs.History.{lender}
use Rattle.dsd_exporter.specs.Exporter.{settings_of}
use Rattle.dsd_forwarder.proofs.building.build_both.Goals as goal

pub returns-clause-made : goal.returns-clause-made
returns-clause-made c =
    c.in_ok-forwarder.ensures.made (settings_of c.args.state_configuration) refl (c.split-lent.ensures.root ∙ ap lender c.in_ok-state.ensures.1)
