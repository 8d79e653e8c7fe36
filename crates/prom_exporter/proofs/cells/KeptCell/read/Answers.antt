use Rattle.std.proofs.Common.{◌≡◌, Some, refl, sym, ap, subst, ◌∙◌}
use Rattle.legal_history.specs.History.{calls}
use Rattle.prom_exporter.specs.Shared.{Shared, KnowsAll, Looks, cell_kept, root_kept}
use Rattle.prom_exporter.proofs.Looked.{shown-known}
use Rattle.prom_exporter.proofs.cells.KeptCell.read.Goals as goal

pub invariant_of-self-in-Some : goal.invariant_of-self-in-Some
invariant_of-self-in-Some g c = shown-known g.C.ValueCell.value_of _ _ _ c.value.ensures.value

pub invariant_of-self : goal.invariant_of-self
invariant_of-self g c = subst (λ o. (c.self.inside.value ≡ g.C.ValueCell.value_of (calls (root_kept o).seen)) × KnowsAll (root_kept o)) c.in-Some.is c.self.invariant

pub returns-then-is_home : goal.returns-then-is_home
returns-then-is_home g c =
    let owned = c.in-Some.owned in
    let known = subst (λ o. KnowsAll (root_kept o)) c.in-Some.is c.self.invariant.1 in
    let left : Shared _ = record { cell = Some owned.fixed; root = owned.root; note = c.self.inside.note } in
    let was = ap (λ o. record { cell = cell_kept o; root = root_kept o; note = c.self.inside.note }) (sym c.in-Some.is) ∙ c.self.view_is in
    subst (λ (s : Shared _). Looks s left) was (owned.root.seen, known (c.is_home.ensures c.if-is_home.true), refl)
