-- Worked rows.
use Rattle.std.specs.Prelude.{◌≡◌, ℕ, [], ◌∷◌, Some, refl}
use Rattle.metrics_core.specs.declared.units.Unit.TheVariants.{Bytes}
use Rattle.metric_descriptions.specs.Descriptions.{Description, nothing_described, describe, publish}

-- a description of the name 7 or 8
abbrev said : ℕ → ℕ → Description
said name text = record { name = name ∷ []; text = text ∷ []; unit = Some Bytes }

-- of two that wait for one name the last counts
twice : (publish (describe (said 7 2) (describe (said 7 1) nothing_described))).published ≡ said 7 2 ∷ []
twice = refl

-- a published one stays
once-more : publish (describe (said 7 3) (publish (describe (said 7 1) nothing_described))) ≡ record { published = said 7 1 ∷ []; pending = [] }
once-more = refl

-- names stand in the order in which they were first described
two-names : (publish (describe (said 7 3) (describe (said 8 2) (describe (said 7 1) nothing_described)))).published ≡ said 7 3 ∷ said 8 2 ∷ []
two-names = refl

-- a later publish adds behind the former ones
two-publishes : (publish (describe (said 7 2) (publish (describe (said 8 1) nothing_described)))).published ≡ said 8 1 ∷ said 7 2 ∷ []
two-publishes = refl

-- before a publish nothing is seen
waits : (describe (said 7 1) nothing_described).published ≡ []
waits = refl
