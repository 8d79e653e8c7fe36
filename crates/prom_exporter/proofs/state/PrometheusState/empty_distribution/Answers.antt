use Rattle.std.proofs.Common.{[], sym, ap, subst, ◌∙◌}
use Rattle.std.specs.Prelude.{IfOk}
use Rattle.prom_format.proofs.NameLaws.{sanitized_metric_name-of_name}
use Rattle.distributions.specs.Kinds.{DistributionKind}
use Rattle.distributions.specs.Recording.{StandsFor}
use Rattle.prom_exporter.specs.Exporter.{Exporter}
use Rattle.prom_exporter.specs.Families.{distribution_of}
use Rattle.prom_exporter.proofs.state.PrometheusState.empty_distribution.Goals as goal

pub returns-then-is_metric_name : goal.returns-then-is_metric_name
returns-then-is_metric_name c =
    let name = c.args.name.now in
    let kind = c.self.invariant.kinds name
    ∙ ap (λ (e : Exporter). distribution_of e.settings name) c.self.view_is
    ∙ ap (distribution_of c.args.self.now.settings) (sym (sanitized_metric_name-of_name name (sym c.is_metric_name.ensures ∙ c.if-is_metric_name.true))) in
    subst (λ (k : DistributionKind). IfOk c.get_distribution.result (StandsFor k [])) kind c.get_distribution.ensures
