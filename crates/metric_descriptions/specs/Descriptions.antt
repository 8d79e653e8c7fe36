-- What is said of metrics: descriptions that are published, and descriptions that wait. The rules are this project's.
use Rattle.std.specs.Prelude.{ℕ, List, [], ◌∷◌, ◌++◌, Option, find, is_some, bytes_eq, if◌then◌else◌}
use Rattle.metrics_core.specs.declared.units.Unit.{Unit as UnitOf}

-- what is said of a metric name
pub record Description : Type 0 where
  pub name : List ℕ
  pub text : List ℕ
  pub unit : Option UnitOf

abbrev pub description_of : List Description → List ℕ → Option Description
description_of ds name = find (λ d. bytes_eq d.name name) ds

-- a description put into a list: in the place of the one with its name, or else last
abbrev pub put_description : List Description → Description → List Description
put_description [] d = d ∷ []
put_description (first ∷ ds) d = if bytes_eq first.name d.name then d ∷ ds else first ∷ put_description ds d

-- the descriptions that readers see, and those that wait for the next publish
pub record DescribedText : Type 0 where
  pub published : List Description
  pub pending : List Description

abbrev pub nothing_described : DescribedText
nothing_described = record { published = []; pending = [] }

-- describing changes nothing where the name is published; otherwise the description waits, in the place of one that waits
-- under its name
abbrev pub describe : Description → DescribedText → DescribedText
describe d s = if is_some (description_of s.published d.name) then s else record s { pending = put_description s.pending d }

-- what waits is published, behind what was published before
abbrev pub publish : DescribedText → DescribedText
publish s = record { published = s.published ++ s.pending; pending = [] }
