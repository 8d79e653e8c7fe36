use Rattle.std.proofs.Common.{◌≡◌, ℕ, List, map, sym, subst, ◌∙◌}
use Rattle.std.specs.Prelude.{OnOk}
use Rattle.prom_format.proofs.NameLaws.{sanitized_metric_name-of_name}
use Rattle.prom_exporter.specs.Rows.{family_kept}
use Rattle.prom_exporter.specs.Values.{with_member}
use Rattle.prom_exporter.proofs.rows.add_place.Goals as goal

pub returns-then-is_metric_name-clause-added : goal.returns-then-is_metric_name-clause-added
returns-then-is_metric_name-clause-added c =
    let name = c.args.name.now in
    let P : List ℕ → Type 0 = λ n. OnOk c.put_place.result (map family_kept c.put_place.new.families.entries ≡ with_member (map family_kept c.args.families.now.entries) n c.args.place) in
    subst P (sym (sanitized_metric_name-of_name name (sym c.is_metric_name.ensures ∙ c.if-is_metric_name.true))) c.put_place.ensures.added
