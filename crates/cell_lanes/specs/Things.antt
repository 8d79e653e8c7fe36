-- A shared thing as a round of lanes sees it.
use Rattle.std.specs.Prelude.{◌≡◌, ◌-◌, [], ◌∷◌, ◌++◌}
use Rattle.std.proofs.Common.{refl, sym, ◌∙◌}
use mathlib.Core.List.{IsPrefix}
use Rattle.legal_history.specs.declared.history.View.{View}
use Rattle.legal_history.specs.History.{held, longer}

-- what its root pass knows, and what else is kept with it and never changes
pub record Thing (M F : Type 0) : Type 0 where
  pub root : View M
  pub fixed : F

abbrev pub root_of : {M F : Type 0} → Thing M F → View M
root_of t = t.root

abbrev pub fixed_of : {M F : Type 0} → Thing M F → F
fixed_of t = t.fixed

-- a pass that was lent: the cell, and what the pass knows
pub record Lease (M F : Type 0) : Type 0 where
  pub cell : F
  pub knows : View M

abbrev pub knows_of : {M F : Type 0} → Lease M F → View M
knows_of l = l.knows

-- the pass is one of this cell
abbrev pub IsOf : {M F : Type 0} → F → Lease M F → Type 0
IsOf cell l = l.cell ≡ cell

-- what lasts is kept: it stays kept, and a pass of it stays one
abbrev pub IsKept : {F : Type 0} → F → F → Type 0
IsKept f g = g ≡ f

pub kept_on : {F : Type 0} (f : F) → IsKept f f
kept_on f = refl

pub kept_then : {F : Type 0} (f g h : F) → IsKept f g → IsKept g h → IsKept f h
kept_then f g h p q = q ∙ p

pub of_kept : {M F : Type 0} (f g : F) (lent : Lease M F) → IsKept f g → IsOf f lent → IsOf g lent
of_kept f g lent kept is = is ∙ sym kept

-- the root took a pass back that knew so much, and has then seen what either had seen, and maybe more
pub record TookBack {M : Type 0} (v known w : View M) : Type 0 where
  pub number : w.number ≡ v.number
  pub mine : w.mine ≡ v.mine
  pub joined : w.joined ≡ v.joined ++ held known.number known.mine known.seen ∷ []
  pub seen : IsPrefix (longer v.seen known.seen) w.seen
  pub out : w.out ≡ v.out - 1
