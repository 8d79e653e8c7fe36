use Rattle.std.proofs.Common.{◌∙◌}
use Rattle.prom_exporter.proofs.Printing.{behind-few, front-few}
use Rattle.prom_exporter.proofs.printed.split_together.Goals as goal

pub returns-clause-some : goal.returns-clause-some
returns-clause-some c = c.split_at.ensures.front ∙ front-few c.args.places.now 8 c.min.result c.min.ensures

pub returns-clause-others : goal.returns-clause-others
returns-clause-others c = c.split_at.ensures.back ∙ behind-few c.args.places.now 8 c.min.result c.min.ensures
