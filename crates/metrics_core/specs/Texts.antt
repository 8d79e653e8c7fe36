-- How a text is seen that is owned, borrowed or shared.
use Rattle.std.specs.Prelude.{ℕ, List, string_bytes}
use Rattle.std.specs.Arc.{arc_value}
use Rattle.std.specs.declared.borrow.CowStr.{CowStr as StdCowStr}
use Rattle.std.specs.declared.borrow.CowStr.TheVariants as std
use Rattle.metrics_core.specs.declared.texts.CowStr.{CowStr}
use Rattle.metrics_core.specs.declared.texts.CowStr.TheVariants.{Owned, Borrowed, Shared}

-- the text, whoever holds it
abbrev pub cow_text : CowStr → List ℕ
cow_text (Owned text) = string_bytes text
cow_text (Borrowed text) = text.now
cow_text (Shared text) = string_bytes (arc_value text)

-- the three ways to hold a text or a list
pub data Holding : Type 0 where
  Alone : Holding
  Lent : Holding
  Together : Holding

abbrev pub holding_of : CowStr → Holding
holding_of (Owned text) = Alone
holding_of (Borrowed text) = Lent
holding_of (Shared text) = Together

-- the two ways in which std's type of the same name holds a text
abbrev pub std_holding_of : {A : Type 0} → StdCowStr A → Holding
std_holding_of (std.Borrowed text) = Lent
std_holding_of (std.Owned text) = Alone

-- what is handed over to std's type: what is lent stays lent, and the rest gets one owner
abbrev pub handed_over : Holding → Holding
handed_over Lent = Lent
handed_over _ = Alone

-- what is kept for long: what one owner has is shared, so that a copy takes no new text
abbrev pub retained : Holding → Holding
retained Alone = Together
retained held = held
