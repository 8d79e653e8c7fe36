use Rattle.std.proofs.Common.{subst, sym}
use Rattle.prom_exporter.specs.Shared.{Counts, cell_kept, root_kept}
use Rattle.prom_exporter.proofs.Looked.{look_noted}
use Rattle.prom_exporter.proofs.cells.KeptCell.stays.Goals as goal

pub returns-in-Some : goal.returns-in-Some
returns-in-Some g c =
    rw c.in-Some.is (record {
      seen = record { cell = cell_kept c.self.inside.owned; root = root_kept c.self.inside.owned; note = c.self.inside.note };
      count = c.count-updates.result;
      counts = subst (Counts c.args.self.now c.count-updates.result) (sym c.self.view_is) c.count-updates.ensures;
      stays_is = c.should_store.ensures.kept;
      left = (λ j. record { cell = cell_kept c.self.inside.owned; root = root_kept c.self.inside.owned; note = c.should_store.ensures.note j });
    })

pub returns-in-None : goal.returns-in-None
returns-in-None g c = rw c.in-None.is (look_noted c.args.moment c.args.kind c.args.self.now c.read.new.self c.read.ensures)
