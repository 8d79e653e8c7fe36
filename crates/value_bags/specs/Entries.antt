-- Entries in order, each a key with what it has, and how a change of one of them looks.
use Rattle.std.specs.Prelude.{Bool, List, [], ◌∷◌, map, if◌then◌else◌}

module _ {K B : Type 0} (test : K → Bool) where
  -- what the key that passes the test has is changed by f, and where there is none the key k goes last with `made`
  abbrev pub change : K → (B → B) → B → List (K × B) → List (K × B)
  change k f made [] = (k, made) ∷ []
  change k f made (e ∷ es) = if test e.0 then (e.0, f e.1) ∷ es else e ∷ change k f made es

  -- the same, but nothing changes where there is no such key
  abbrev pub alter : (B → B) → List (K × B) → List (K × B)
  alter f [] = []
  alter f (e ∷ es) = if test e.0 then (e.0, f e.1) ∷ es else e ∷ alter f es

-- the entries with each key seen through f
abbrev pub with_keys : {K L B : Type 0} → (K → L) → List (K × B) → List (L × B)
with_keys f es = map (λ e. (f e.0, e.1)) es
