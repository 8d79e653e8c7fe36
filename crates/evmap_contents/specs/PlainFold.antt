-- What a list of writes leaves, where a bag is only the list of its values and has no form.
use Rattle.std.specs.Prelude.{◌≡◌, Bool, List, [], ◌∷◌, ◌++◌, fold, filter, count_by}
use Rattle.std.specs.List.{AllZip}
use Rattle.indexmap.specs.IndexMap.{swap_remove_entry}
use Rattle.value_bags.specs.declared.bag.BagForm.{BagForm}
use Rattle.value_bags.specs.Entries.{change, alter}
use Rattle.value_bags.specs.Bags.{without_first, times}
use Rattle.evmap_contents.specs.declared.write.Write.{Write}
use Rattle.evmap_contents.specs.declared.write.Write.TheVariants.{Insert, Update, Clear, RemoveValue, RemoveEntry, Purge, Retain, Fit, FitAll, Reserve, RemovePlaces, SetMeta, Ready}
use Rattle.evmap_contents.specs.Fold.{without_place}

module _ {K V M P : Type 0} (same : K → K → Bool) (eq : V → V → Bool) (keeps : P → V → Bool) where
  -- the keys with the lists of their values, after one write
  abbrev pub plain_after : List (K × List V) → Write K V M P → List (K × List V)
  plain_after es (Insert k v) = change (same k) k (λ vs. vs ++ v ∷ []) (v ∷ []) es
  plain_after es (Update k v) = change (same k) k (λ _. v ∷ []) (v ∷ []) es
  plain_after es (Clear k) = change (same k) k (λ _. []) [] es
  plain_after es (RemoveValue k v) = alter (same k) (without_first (eq v)) es
  plain_after es (RemoveEntry k) = swap_remove_entry (same k) es
  plain_after es Purge = []
  plain_after es (Retain k p) = alter (same k) (filter (keeps p)) es
  plain_after es (Fit k) = es
  plain_after es FitAll = es
  plain_after es (Reserve k n) = change (same k) k (λ vs. vs) [] es
  plain_after es (RemovePlaces places) = fold without_place es places
  plain_after es (SetMeta m) = es
  plain_after es Ready = es

  -- after a list of writes
  abbrev pub plain_after_all : List (Write K V M P) → List (K × List V)
  plain_after_all ws = fold plain_after [] ws

-- the same keys in the same order, and each key's bag holds each value as often as its list does
abbrev pub HoldAlike : {K V : Type 0} → (V → V → Bool) → List (K × BagForm V) → List (K × List V) → Type 0
HoldAlike {V = V} eq es ps = AllZip (λ e p. (e.0 ≡ p.0) × ((v : V) → times eq e.1 v ≡ count_by (eq v) p.1)) es ps
