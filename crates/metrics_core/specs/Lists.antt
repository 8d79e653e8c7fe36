-- How a list is seen that is owned, borrowed or shared.
use Rattle.std.specs.Prelude.{◌≡◌, List}
use Rattle.std.specs.Arc.{arc_value}
use Rattle.std.specs.declared.borrow.CowSlice.{CowSlice as StdCowSlice}
use Rattle.std.specs.declared.borrow.CowSlice.TheVariants as std
use Rattle.metrics_core.specs.declared.slices.CowSlice.{CowSlice}
use Rattle.metrics_core.specs.declared.slices.CowSlice.TheVariants.{Owned, Borrowed, Shared}
use Rattle.metrics_core.specs.Texts.{Holding, Alone, Lent, Together}

-- the items, whoever holds them
abbrev pub cow_items : {T : Type 0} → CowSlice T → List T
cow_items (Owned items) = items.items
cow_items (Borrowed items) = items.now
cow_items (Shared items) = (arc_value items).items

-- how they are held
abbrev pub holding_of_items : {T : Type 0} → CowSlice T → Holding
holding_of_items (Owned items) = Alone
holding_of_items (Borrowed items) = Lent
holding_of_items (Shared items) = Together

-- the two ways in which std's type of the same name holds them
abbrev pub std_holding_of_items : {T A : Type 0} → StdCowSlice T A → Holding
std_holding_of_items (std.Borrowed items) = Lent
std_holding_of_items (std.Owned items) = Alone

-- every clone is equal to its source
abbrev pub ClonesAreEqual : {T : Type 0} → (T → T → Type 0) → Type 0
ClonesAreEqual {T} is_clone = (x y : T) → is_clone x y → y ≡ x
