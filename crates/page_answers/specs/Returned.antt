-- The connections that a listener in memory keeps.
use Rattle.std.specs.Prelude.{List, [], ◌∷◌, ◌++◌}
use Rattle.page_answers.specs.Devices.{ConnText}
use Rattle.page_answers.specs.declared.devices.Returned.{Returned}
use Rattle.page_answers.specs.declared.devices.Returned.TheVariants.{Nothing, Last'}

-- those that were given back, in order
abbrev pub given_back : Returned → List ConnText
given_back Nothing = []
given_back (Last' exchange place before) = given_back before ++ exchange ∷ []
