-- What a list of writes leaves: the fold.
use Rattle.std.specs.Prelude.{ℕ, Bool, true, false, List, [], ◌∷◌, map, fold, slice_get, swap_remove}
use Rattle.std.specs.Option.{option_map_or}
use Rattle.indexmap.specs.IndexMap.{swap_remove_entry}
use Rattle.value_bags.specs.declared.bag.BagForm.{BagForm}
use Rattle.value_bags.specs.declared.bag.BagForm.TheVariants.{Short}
use Rattle.value_bags.specs.Entries.{change, alter}
use Rattle.value_bags.specs.Bags.{pushed, removed, cleared, retained, fitted, reserved, roomy}
use Rattle.evmap_contents.specs.declared.write.Write.{Write}
use Rattle.evmap_contents.specs.declared.write.Write.TheVariants.{Insert, Update, Clear, RemoveValue, RemoveEntry, Purge, Retain, Fit, FitAll, Reserve, RemovePlaces, SetMeta, Ready}
use Rattle.evmap_contents.specs.declared.write.Contents.{Contents}

-- a map that is made with this meta, before any write
abbrev pub made_with : {K V M : Type 0} → M → Contents K V M
made_with m = record { entries = []; meta = m; ready = false }

-- the last item takes the place of the one that is removed. A place past the end removes nothing
abbrev pub without_place : {X : Type 0} → List X → ℕ → List X
without_place xs i = option_map_or (λ x. swap_remove xs i x) (slice_get xs i) xs

-- `same` says which keys are equal, `eq` which values are, and `keeps` which values a test keeps
module _ {K V M P : Type 0} (same : K → K → Bool) (eq : V → V → Bool) (keeps : P → V → Bool) where
  -- the entries after one write
  abbrev pub entries_after : List (K × BagForm V) → Write K V M P → List (K × BagForm V)
  entries_after es (Insert k v) = change (same k) k (λ bag. pushed eq bag v) (Short (v ∷ [])) es
  entries_after es (Update k v) = change (same k) k (λ _. Short (v ∷ [])) (Short (v ∷ [])) es
  entries_after es (Clear k) = change (same k) k cleared (Short []) es
  entries_after es (RemoveValue k v) = alter (same k) (λ bag. removed eq bag v) es
  entries_after es (RemoveEntry k) = swap_remove_entry (same k) es
  entries_after es Purge = []
  entries_after es (Retain k p) = alter (same k) (retained (keeps p)) es
  entries_after es (Fit k) = alter (same k) fitted es
  entries_after es FitAll = map (λ e. (e.0, fitted e.1)) es
  entries_after es (Reserve k n) = change (same k) k (reserved eq n) (roomy n) es
  entries_after es (RemovePlaces places) = fold without_place es places
  entries_after es (SetMeta m) = es
  entries_after es Ready = es

  abbrev pub meta_after : M → Write K V M P → M
  meta_after was (SetMeta m) = m
  meta_after was _ = was

  abbrev pub ready_after : Bool → Write K V M P → Bool
  ready_after was Ready = true
  ready_after was _ = was

  -- the contents after one write
  abbrev pub after : Contents K V M → Write K V M P → Contents K V M
  after c w = record { entries = entries_after c.entries w; meta = meta_after c.meta w; ready = ready_after c.ready w }

  -- the contents after a list of writes
  abbrev pub after_all : Contents K V M → List (Write K V M P) → Contents K V M
  after_all c ws = fold after c ws
