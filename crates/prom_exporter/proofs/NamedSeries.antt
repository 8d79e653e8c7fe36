-- How many series have a metric name: what is kept for rows tells it.
use Rattle.std.proofs.Common.{◌≡◌, ℕ, suc, ◌+◌, Bool, true, false, cond, List, [], ◌∷◌, map, filter, length, refl, sym, ap, ◌∙◌}
use Rattle.std.specs.Prelude.{Option, None, Some, bytes_eq, string_bytes, if◌then◌else◌}
use Rattle.std.specs.List.{enumerate_from, list_any}
use Rattle.std.specs.Map.{lookup}
use Rattle.std.specs.declared.string.String.{String}
use Rattle.std.specs.declared.vec.Vec.{Vec}
use Rattle.std.specs.declared.alloc.Global.{Global}
use Rattle.std.proofs.lemmas.List.{length-map}
use Rattle.std.proofs.lemmas.Bool.{or_parts}
use Rattle.std.proofs.lemmas.Slice.Eq.{bytes_eq-Decides}
use Rattle.metrics_core.specs.Keys.{KeyText, LabelText}
use Rattle.metrics_registry.specs.Live.{LiveSeries}
use Rattle.prom_exporter.specs.Families.{distinct}
use Rattle.prom_exporter.specs.Rows.{name_at, places_of, rows_of, keys_of, keys_named, family_kept}
use Rattle.prom_exporter.specs.State.{metric_name_of}
use Rattle.prom_exporter.specs.Values.{SeenCell, named, grouped, series_of}
use Rattle.prom_exporter.proofs.Groups.{any_distinct, named_none}
use Rattle.prom_exporter.proofs.Seen.{changed}

-- the members of the group of a name
abbrev pub members_at : List ℕ → List (List ℕ × List ℕ) → List ℕ
members_at name [] = []
members_at name (g ∷ gs) = if bytes_eq name g.0 then g.1 else members_at name gs

module _ {X : Type 0} (name_of : ℕ × X → List ℕ) (name : List ℕ) (xs : List (ℕ × X)) where
  abbrev places : List ℕ
  places = map (λ placed. placed.0) (named name_of xs name)

  abbrev groups : List (List ℕ) → List (List ℕ × List ℕ)
  groups ns = map places_of (map (λ n. (n, named name_of xs n)) ns)

  step : (n : List ℕ) (ns : List (List ℕ)) (b : Bool) → bytes_eq name n ≡ b → (list_any (bytes_eq name) ns ≡ true → members_at name (groups ns) ≡ places)
      → list_any (bytes_eq name) (n ∷ ns) ≡ true → members_at name (groups (n ∷ ns)) ≡ places
  step n ns true is rest any =
      let same : name ≡ n = (bytes_eq-Decides name n).0 is in
      rw is (ap (λ m. map (λ placed. placed.0) (named name_of xs m)) (sym same))
  step n ns false is rest any = rw is (rest (rw is at any))

  found : (ns : List (List ℕ)) → list_any (bytes_eq name) ns ≡ true → members_at name (groups ns) ≡ places
  found [] any = absurd cc
  found (n ∷ ns) any = step n ns (bytes_eq name n) refl (found ns) any

  missing : (ns : List (List ℕ)) → list_any (bytes_eq name) ns ≡ false → members_at name (groups ns) ≡ []
  missing [] none = refl
  missing (n ∷ ns) none = rw (or_parts (bytes_eq name n) (list_any (bytes_eq name) ns) none).0 (missing ns (or_parts (bytes_eq name n) (list_any (bytes_eq name) ns) none).1)

  members-grouped : members_at name (map places_of (grouped name_of xs)) ≡ places
  members-grouped = by (list_any (bytes_eq name) (map name_of xs)) refl
    where
      by : (b : Bool) → list_any (bytes_eq name) (map name_of xs) ≡ b → members_at name (map places_of (grouped name_of xs)) ≡ places
      by true any = found (distinct (map name_of xs)) (any_distinct name (map name_of xs) ∙ any)
      by false none = missing (distinct (map name_of xs)) (any_distinct name (map name_of xs) ∙ none) ∙ sym (ap (map (λ placed. placed.0)) (named_none name_of name xs none))

-- as many keys have a name as stand at places in its group
named-many : (name : List ℕ) (k : ℕ) (keys : List KeyText) → length (named name_at (enumerate_from k keys) name) ≡ length (keys_named name keys)
named-many name k [] = refl
named-many name k (key ∷ keys) = by (bytes_eq (metric_name_of key) name) (named-many name (k + 1) keys)
  where
    by : (b : Bool) → length (named name_at (enumerate_from (k + 1) keys) name) ≡ length (keys_named name keys)
        → length (cond b ((k, key) ∷ named name_at (enumerate_from (k + 1) keys) name) (named name_at (enumerate_from (k + 1) keys) name)) ≡ length (cond b (key ∷ keys_named name keys) (keys_named name keys))
    by true rest = ap (λ n. suc n) rest
    by false rest = rest

pub members-many : (globals : List LabelText) (name : List ℕ) (keys : List KeyText) → length (members_at name (rows_of globals keys).families) ≡ length (keys_named name keys)
members-many globals name keys =
    ap length (members-grouped name_at name (enumerate_from 0 keys)) ∙ length-map (named name_at (enumerate_from 0 keys) name) (λ placed. placed.0) ∙ named-many name 0 keys

-- as many series, as a state has them
pub series-many : {X : Type 0} (g : X → SeenCell) (name : List ℕ) (es : List (LiveSeries X)) → length (filter (λ series. bytes_eq (metric_name_of series.key) name) (map series_of (map (changed g) es))) ≡ length (keys_named name (keys_of es))
series-many g name [] = refl
series-many {X} g name (e ∷ es) =
    elim (bytes_eq (metric_name_of e.key) name) as (λ b. length (cond b (series_of (changed g e) ∷ filter (λ series. bytes_eq (metric_name_of series.key) name) (map series_of (map (changed g) es))) (filter (λ series. bytes_eq (metric_name_of series.key) name) (map series_of (map (changed g) es)))) ≡ length (cond b (e.key ∷ keys_named name (keys_of es)) (keys_named name (keys_of es)))) [
      | true ↦ ap (λ n. suc n) (series-many g name es)
      | false ↦ series-many g name es
    ]

-- ---- what a map says of a name

module _ (name : List ℕ) where
  pub found-places : (es : List (String Global × Vec ℕ Global)) (places : Vec ℕ Global) → lookup (λ (key : String Global). bytes_eq name (string_bytes key)) es ≡ Some places → members_at name (map family_kept es) ≡ places.items
  found-places [] places found = absurd cc
  found-places (e ∷ es) places found = by (bytes_eq name (string_bytes e.0)) found (found-places es places)
    where
      by : (b : Bool) → cond b (Some e.1) (lookup (λ (key : String Global). bytes_eq name (string_bytes key)) es) ≡ Some places
          → (lookup (λ (key : String Global). bytes_eq name (string_bytes key)) es ≡ Some places → members_at name (map family_kept es) ≡ places.items)
          → cond b e.1.items (members_at name (map family_kept es)) ≡ places.items
      by true f rest = ap (λ (o : Option (Vec ℕ Global)). elim o [ Some v ↦ v.items | None ↦ [] ]) f
      by false f rest = rest f

  pub no_places : (es : List (String Global × Vec ℕ Global)) → lookup (λ (key : String Global). bytes_eq name (string_bytes key)) es ≡ None → members_at name (map family_kept es) ≡ []
  no_places [] none = refl
  no_places (e ∷ es) none = by (bytes_eq name (string_bytes e.0)) none (no_places es)
    where
      by : (b : Bool) → cond b (Some e.1) (lookup (λ (key : String Global). bytes_eq name (string_bytes key)) es) ≡ None
          → (lookup (λ (key : String Global). bytes_eq name (string_bytes key)) es ≡ None → members_at name (map family_kept es) ≡ [])
          → cond b e.1.items (members_at name (map family_kept es)) ≡ []
      by true f rest = absurd cc
      by false f rest = rest f
