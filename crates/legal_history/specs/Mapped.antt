-- A history whose calls are seen as others: each call stands as its image, and who made it stays.
use Rattle.std.specs.Prelude.{◌≡◌, List, map}
use Rattle.legal_history.specs.declared.history.Entry.{Entry}
use Rattle.legal_history.specs.declared.history.Held.{Held}
use Rattle.legal_history.specs.declared.history.View.{View}
use Rattle.legal_history.specs.History.{entry, held}

-- no two have one image
abbrev pub IsOneToOne : {C D : Type 0} → (C → D) → Type 0
IsOneToOne {C} f = (a b : C) → f a ≡ f b → a ≡ b

module _ {C D : Type 0} (f : C → D) where
  abbrev pub mapped_entry : Entry C → Entry D
  mapped_entry e = entry e.by (f e.call)

  -- the history
  abbrev pub mapped_log : List (Entry C) → List (Entry D)
  mapped_log log = map mapped_entry log

  -- a pass that was given back
  abbrev pub mapped_held : Held C → Held D
  mapped_held h = held h.by (map f h.calls) (mapped_log h.seen)

  -- what a pass knows
  abbrev pub mapped_view : View C → View D
  mapped_view v = record { number = v.number; live = v.live; seen = mapped_log v.seen; mine = map f v.mine; joined = map mapped_held v.joined; made = v.made; children = v.children; out = v.out }
