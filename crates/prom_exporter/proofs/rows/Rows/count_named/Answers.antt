use Rattle.std.proofs.Common.{length, sym, ap, ◌∙◌}
use Rattle.prom_format.specs.LabelSets.{labels_of}
use Rattle.prom_exporter.specs.Rows.{RowsText, keys_of}
use Rattle.prom_exporter.proofs.NamedSeries.{members_at, members-many, found-places, no_places}
use Rattle.prom_exporter.proofs.rows.Rows.count_named.Goals as goal

pub returns-clause-named : goal.returns-clause-named
returns-clause-named g c =
    let name = c.args.name.now in
    c.len.ensures
    ∙ c.in-Some.places.now.ok.0
    ∙ ap length (sym (found-places name c.self.inside.families.entries c.in-Some.places.now (sym c.in-Some.ensures.value)))
    ∙ ap (λ (r : RowsText). length (members_at name r.families)) (c.self.view_is ∙ c.in_ok-catch_up.ensures.all)
    ∙ members-many (labels_of c.args.globals.now.entries) name (keys_of c.args.series.now)

pub returns-in_default-clause-named : goal.returns-in_default-clause-named
returns-in_default-clause-named g c =
    let name = c.args.name.now in
    ap length (sym (no_places name c.self.inside.families.entries (sym c.in_default.ensures.value)))
    ∙ ap (λ (r : RowsText). length (members_at name r.families)) (c.self.view_is ∙ c.in_ok-catch_up.ensures.all)
    ∙ members-many (labels_of c.args.globals.now.entries) name (keys_of c.args.series.now)
