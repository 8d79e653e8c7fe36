use Rattle.std.proofs.Common.{◌∙◌, sym}
use Rattle.std.proofs.lemmas.Bool.{eq-eqb}
use Rattle.metrics_core.specs.KeyLaws.{hashes-same_multiset, length-same_multiset}
use Rattle.metrics_core.proofs.labels.may_be_same.Goals as goal

pub returns-then-labels-others-clause-same : goal.returns-then-labels-others-clause-same
returns-then-labels-others-clause-same c = λ same.
    eq-eqb c.add_hashes.result c.add_hashes-then-labels-others.result (c.add_hashes.ensures ∙ hashes-same_multiset c.args.labels.now c.args.others.now same ∙ sym c.add_hashes-then-labels-others.ensures)

pub returns-else-labels-others-clause-same : goal.returns-else-labels-others-clause-same
returns-else-labels-others-clause-same c = λ same. eq-eqb _ _ (length-same_multiset c.args.labels.now c.args.others.now same)
