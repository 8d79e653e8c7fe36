-- Keys as lines want them, kept one behind the other in one text.
use Rattle.std.specs.Prelude.{◌≡◌, ℕ, ◌+◌, List, [], ◌∷◌, ◌++◌, length, map, flat_map}
use Rattle.metrics_core.specs.Keys.{KeyText}
use Rattle.dsd_writer.specs.Lines.{tags_text}
use Rattle.dsd_writer.specs.declared.kept_keys.KeptPlace.{KeptPlace}

-- a key as it is kept: its name, and behind it the text of its tags
abbrev pub kept_text : KeyText → List ℕ
kept_text key = key.name ++ tags_text key.labels

-- the keys that stand at these places
abbrev pub keys_at : List KeptPlace → List KeyText
keys_at places = map (λ place. place.key.value) places

-- the place of a key whose text begins here
pub record StandsFrom (begin : ℕ) (place : KeptPlace) : Type 0 where
  pub begins : place.begin ≡ begin
  pub name : place.middle ≡ begin + length place.key.value.name
  pub tags : place.end ≡ place.middle + length (tags_text place.key.value.labels)

-- the places of keys whose texts stand one behind the other, from here on
abbrev pub StandInOrder : ℕ → List KeptPlace → Type 0
StandInOrder begin [] = Unit {0}
StandInOrder begin (place ∷ places) = StandsFrom begin place × StandInOrder place.end places

-- the text is that of the keys at these places
pub record AreKept (text : List ℕ) (places : List KeptPlace) : Type 0 where
  pub whole : text ≡ flat_map kept_text (keys_at places)
  pub in_order : StandInOrder 0 places
