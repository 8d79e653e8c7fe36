-- What a guard of a scope shows, what a scope is after its guard's end, and which recorder is the current one.
use Rattle.std.specs.Prelude.{◌≡◌, ⊤, [], Option, Some, None}
use Rattle.std.specs.Borrow.{Bor, MutBor, follows_so, Fml, RattleType}
use Rattle.once_cell.specs.Once.{Agrees}
use Rattle.metrics_facade.specs.declared.scope.LocalRecorderGuard.{LocalRecorderGuard}
use Rattle.metrics_facade.specs.declared.scope.Current.{Current}
use Rattle.metrics_facade.specs.declared.scope.Current.TheVariants.{Local, Global, Noop}
use Rattle.metrics_facade.specs.contracts.scope.RecorderScope as scope_rows
use mathlib.Core.Option.{none}
use mir.Syntax.{named}

-- the recorder that counts while the guard lives
abbrev pub guarding_recorder : {R : Type 0} → LocalRecorderGuard R → R
guarding_recorder guard = guard.recorder.now

-- once the borrow of the scope has ended, it has the local recorder that it had before. `named 1` is the place of the
-- recorder's lifetime in the signature.
abbrev pub IsRestored : (R : RattleType) → MutBor (Option R.Denot) → Fml
IsRestored R scope =
    let row = scope_rows.the_row (record { mir = named 1; lft = [] }) R in
    follows_so row row scope.ghost_name none (λ _ _. ⊤) (λ last. last ≡ scope.now)

-- the current recorder: the local one, otherwise the global one, otherwise none
abbrev pub IsCurrent : {R : Type 0} → Option R → Option R → Current R → Type 0
IsCurrent (Some local) global (Local recorder) = recorder.now ≡ local
IsCurrent None (Some global) (Global recorder) = recorder.now ≡ global
IsCurrent None None Noop = Unit {0}
IsCurrent _ _ _ = ⊥

-- a look at a cell finds nothing where the note knew nothing, and then knows nothing; what it finds the note then knows,
-- and it is what the note knew before
abbrev pub Loads : {R : Type 0} → Option R → Option R → Option (Bor R) → Type 0
Loads before after None = (before ≡ None) × (after ≡ None)
Loads before after (Some recorder) = (after ≡ Some recorder.now) × Agrees before recorder.now
