-- What a flush of the root tells, after a round of lanes too.
use Rattle.std.proofs.Common.{ℕ, List, ap, ◌∙◌, subst}
use Rattle.legal_history.specs.declared.history.View.{View}
use Rattle.legal_history.specs.History.{calls}
use Rattle.legal_history.specs.Object.{Runs}
use Rattle.cell_lanes.specs.Lanes.{ReadAfter}
use Rattle.flushed_cells.specs.Series.{StandsAs, Flushes}
use Rattle.flushed_cells.specs.Rounds.{FlushedAfter}

module _ {S K A C : Type 0} (Step : C → S → S → Type 0) (start : S) (answered : K → S → C) (flushed : A → C) where
  pub flushed_after : (asked : ℕ → List K) (before : View C) (answer : A) → ReadAfter (Flushes Step start flushed) (StandsAs answered) asked before answer → FlushedAfter Step start answered flushed asked before answer
  flushed_after asked before answer after =
      let made = after.reads_it in
      let whole = (made.3.whole after.root after.home).0 in (
        after.lists,
        after.stand,
        after.order,
        after.is_order,
        made.1,
        made.2,
        subst (λ (cs : List C). Runs Step start cs made.1) (ap calls whole ∙ after.grew) made.4,
        made.5,
      )
