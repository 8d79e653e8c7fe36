-- How descriptions stand in a map of bags: under each name a bag of one text with its unit.
use Rattle.std.specs.Prelude.{◌≡◌, ⊤, ℕ, List, [], ◌∷◌, fold, is_some, false, Option, Some, None}
use Rattle.std.specs.List.{AllZip}
use Rattle.metrics_core.specs.declared.units.Unit.{Unit as UnitOf}
use Rattle.metrics_core.specs.declared.texts.CowStr.{CowStr}
use Rattle.metrics_core.specs.Texts.{cow_text}
use Rattle.value_bags.specs.declared.bag.BagForm.{BagForm}
use Rattle.value_bags.specs.declared.bag.BagForm.TheVariants.{Short}
use Rattle.evmap_contents.specs.declared.write.Write.{Write}
use Rattle.evmap_contents.specs.declared.write.Write.TheVariants.{Update, Ready}
use Rattle.evmap_contents.specs.declared.write.Contents.{Contents}
use Rattle.evmap_contents.specs.Fold.{made_with}
use Rattle.evmap_core.specs.declared.known_fronts.KnownFronts.{KnownFronts}
use Rattle.metric_descriptions.specs.Descriptions.{Description, description_of, put_description}

-- a text with its unit, as it is stored
abbrev pub Text : Type 0
Text = CowStr × Option UnitOf

-- the text and the unit of a stored text
abbrev pub stored : Text → List ℕ × Option UnitOf
stored text = (cow_text text.0, text.1)

-- the text and the unit of a description
abbrev pub written : Description → List ℕ × Option UnitOf
written d = (d.text, d.unit)

-- what a stored text says of a name
abbrev pub said_of : List ℕ → Text → Description
said_of name text = record { name = name; text = cow_text text.0; unit = text.1 }

-- a key and its bag say this: the bag has one text alone
abbrev pub Says : List ℕ × BagForm Text → Description → Type 0
Says entry d = (text : Text) × (entry.1 ≡ Short (text ∷ [])) × (d ≡ said_of entry.0 text)

module _ {P : Type 0} where
  -- one write puts what it says of a name; the mark of the first publish says nothing
  abbrev pub with_write : List Description → Write (List ℕ) Text Unit P → List Description
  with_write ds (Update name text) = put_description ds (said_of name text)
  with_write ds _ = ds

  -- what writes say
  abbrev pub said_by : List (Write (List ℕ) Text Unit P) → List Description
  said_by writes = fold with_write [] writes

  -- a write of a text alone under a name, or the mark of the first publish
  abbrev pub Describes : Write (List ℕ) Text Unit P → Type 0
  Describes (Update name text) = ⊤
  Describes Ready = ⊤
  Describes _ = ⊥

  -- a write to a name of which nothing is said yet
  abbrev pub IsOfNewName : List Description → Write (List ℕ) Text Unit P → Type 0
  IsOfNewName ds (Update name text) = is_some (description_of ds name) ≡ false
  IsOfNewName ds _ = ⊤

  -- `step` says what one write leaves
  module _ (step : Contents (List ℕ) Text Unit → Write (List ℕ) Text Unit P → Contents (List ℕ) Text Unit) where
    -- writes leave a map that says exactly this, in order
    abbrev pub Leaves : List (Write (List ℕ) Text Unit P) → List Description → Type 0
    Leaves writes ds = AllZip Says (fold step (made_with tt) writes).entries ds

    -- a reader that has read nothing, and was told of a front that leaves exactly this, in order
    abbrev pub IsToldOf : List Description → Option (KnownFronts (List ℕ) Text Unit P) → Type 0
    IsToldOf ds None = ⊥
    IsToldOf ds (Some v) = (v.seen ≡ []) × Leaves v.told ds
