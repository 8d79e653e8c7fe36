use Rattle.std.proofs.Common.{◌≡◌, ◌*◌, ℕ, List, take, drop, sym, subst}
use Rattle.std.specs.Prelude.{string_bytes}
use Rattle.prom_exporter.specs.Printed.{AreKept, AreRows, together}
use Rattle.prom_exporter.specs.declared.printed.PrintedRows.{PrintedRows}
use Rattle.prom_exporter.proofs.Printing.{kept-at, kept-set}
use Rattle.prom_exporter.proofs.printed.PrintedFamily.push_together.Given.{Over}
use Rattle.prom_exporter.proofs.printed.PrintedFamily.push_together.Goals as goal
use Rattle.prom_exporter.proofs.printed.PrintedFamily.push_together.Goals.{After-push_renewed}

-- the rows that stood at the index
old : (g : Over) (c : After-push_renewed g) (all : List ℕ) → c.args.places.now ≡ take together (drop (together * c.args.index) all) → AreKept c.args.name.now c.args.label_sets.now all c.args.self.now.rows.items
    → AreRows c.args.name.now c.args.label_sets.now c.args.places.now c.index_mut-rows.result.now.values.items (string_bytes c.index_mut-rows.result.now.text)
old g c all at are =
    let begun = c.in_ok-begin_rows.ensures.rows c.args.name.now c.args.label_sets.now all are in
    let there = kept-at c.args.name.now c.args.label_sets.now all c.begin_rows.new.rows.items c.args.index c.index_mut-rows.result.now c.in_ok-begin_rows.ensures.index begun in
    subst (λ l. AreRows c.args.name.now c.args.label_sets.now l c.index_mut-rows.result.now.values.items (string_bytes c.index_mut-rows.result.now.text)) (sym at)
    (subst (λ (r : PrintedRows). AreRows c.args.name.now c.args.label_sets.now (take together (drop (together * c.args.index) all)) r.values.items (string_bytes r.text)) (sym c.index_mut-rows.ensures.value) there)

pub returns-clause-rows : goal.returns-clause-rows
returns-clause-rows g c all at are =
    kept-set c.args.name.now c.args.label_sets.now all c.begin_rows.new.rows.items c.args.index c.push_renewed.new.self (c.in_ok-begin_rows.ensures.rows c.args.name.now c.args.label_sets.now all are)
    (subst (λ l. AreRows c.args.name.now c.args.label_sets.now l c.push_renewed.new.self.values.items (string_bytes c.push_renewed.new.self.text)) at (c.push_renewed.ensures.rows (old g (goal.at.returns-clause-rows g c).After-push_renewed all at are)))

pub returns-clause-pushed : goal.returns-clause-pushed
returns-clause-pushed g c all at are = c.push_renewed.ensures.pushed (old g (goal.at.returns-clause-pushed g c).After-push_renewed all at are)
