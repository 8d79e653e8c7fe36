use Rattle.std.proofs.Common.{◌≡◌, ◌∷◌, ◌++◌, List, ap, sym, subst, ◌∙◌}
use Rattle.legal_history.specs.declared.history.Entry.{Entry}
use Rattle.legal_history.specs.History.{calls, entry}
use Rattle.shared_flushes.specs.declared.entries.StateEntry.{StateEntry}
use Rattle.shared_flushes.specs.declared.entries.StateEntry.TheVariants.{Built}
use Rattle.shared_flushes.specs.Stands.{StandsFor}
use Rattle.shared_flushes.proofs.laws.settings_stay.Goals as goal

pub returns : goal.returns
returns c = λ settings v log x knows sees stands.
    let whole : log ≡ entry 0 (Built settings) ∷ (knows.0 ++ sees.begins.0) = sym sees.begins.1 ∙ ap (λ (l : List (Entry StateEntry)). l ++ sees.begins.0) knows.1 in
    (subst (λ (l : List (Entry StateEntry)). StandsFor (calls l) x) whole stands).0
