-- What is kept for rows: one more series, what leaves it as it is, and the text that it makes.
use Rattle.std.proofs.Common.{◌≡◌, ℕ, zero, suc, ◌+◌, Bool, true, false, cond, List, [], ◌∷◌, ◌++◌, map, take, length, length-append, ◌≤◌, ◌<◌, None, Some, refl, sym, ap, ◌∙◌, arith, add-zero, add-one, zero-add}
use Rattle.std.specs.Prelude.{Option, slice_get, option_map, flat_map, ℤ, bytes_eq}
use Rattle.std.specs.List.{enumerate_from}
use Rattle.std.proofs.lemmas.List.{map-append, length-map, length-take, take_all, take-append-le}
use Rattle.std.proofs.lemmas.Option.{slice_get-map, same_Some}
use Rattle.metrics_core.specs.Keys.{KeyText, LabelText}
use Rattle.metrics_core.specs.declared.kinds.SeriesId.{SeriesId}
use Rattle.metrics_registry.specs.Live.{LiveSeries, has_id, with_cell}
use Rattle.metrics_registry.specs.Places.{with_cell_at}
use Rattle.prom_format.specs.Names.{sanitized_metric_name}
use Rattle.metrics_core.specs.Characters.{line}
use Rattle.prom_format.specs.Pages.{row_text, body_text, type_text}
use Rattle.prom_format.specs.declared.families.FamilyType.{FamilyType}
use Rattle.distributions.specs.Kinds.{DistributionRules}
use Rattle.prom_exporter.specs.Exporter.{Cells}
use Rattle.prom_exporter.specs.Kept.{KeepsFirst, HaveKinds, IsKept}
use Rattle.prom_exporter.specs.Families.{ExporterSettings, distinct}
use Rattle.prom_exporter.specs.Naming.{NamingText, shown_name, title_text}
use Rattle.prom_exporter.specs.Rows.{RowsText, label_set_of, name_at, places_of, rows_of, keys_of, row_at, kept_block}
use Rattle.prom_exporter.specs.Values.{named, grouped, with_member, member_of, metric_name, value_row, value_family, value_families}
use Rattle.prom_exporter.proofs.Groups.{grouped-push}

-- ---- one more series

enumerate-push : {X : Type 0} (n : ℕ) (xs : List X) (x : X) → enumerate_from n (xs ++ x ∷ []) ≡ enumerate_from n xs ++ (n + length xs, x) ∷ []
enumerate-push n [] x = ap (λ m. (m, x) ∷ []) (sym (add-zero n))
enumerate-push n (y ∷ xs) x =
    let later : n + 1 + length xs ≡ n + length (y ∷ xs) = omega arith in
    ap (λ l. (n, y) ∷ l) (enumerate-push (n + 1) xs x ∙ ap (λ m. enumerate_from (n + 1) xs ++ (m, x) ∷ []) later)

module _ {X : Type 0} where
  places_step : (g : List ℕ × List (ℕ × X)) (gs : List (List ℕ × List (ℕ × X))) (n : List ℕ) (p : ℕ × X) (b : Bool) → bytes_eq n g.0 ≡ b
      → map places_of (with_member gs n p) ≡ with_member (map places_of gs) n p.0 → map places_of (with_member (g ∷ gs) n p) ≡ with_member (map places_of (g ∷ gs)) n p.0
  places_step g gs n p true is rest = rw is (ap (λ l. (g.0, l) ∷ map places_of gs) (map-append (λ placed. placed.0) g.1 (p ∷ [])))
  places_step g gs n p false is rest = rw is (ap (λ l. places_of g ∷ l) rest)

  places-with_member : (gs : List (List ℕ × List (ℕ × X))) (n : List ℕ) (p : ℕ × X) → map places_of (with_member gs n p) ≡ with_member (map places_of gs) n p.0
  places-with_member [] n p = refl
  places-with_member (g ∷ gs) n p = places_step g gs n p (bytes_eq n g.0) refl (places-with_member gs n p)

pub rows-push : (globals : List LabelText) (keys : List KeyText) (key : KeyText) → rows_of globals (keys ++ key ∷ []) ≡ record {
  label_sets = map (label_set_of globals) keys ++ label_set_of globals key ∷ [];
  families = with_member (map places_of (grouped name_at (enumerate_from 0 keys))) (sanitized_metric_name key.name) (length keys);
}
rows-push globals keys key =
    let groups = grouped name_at (enumerate_from 0 keys) in
    let grown = ap (λ l. map places_of (grouped name_at l)) (enumerate-push 0 keys key)
    ∙ ap (map places_of) (grouped-push name_at (enumerate_from 0 keys) (0 + length keys, key))
    ∙ places-with_member groups (sanitized_metric_name key.name) (0 + length keys, key)
    ∙ ap (λ n. with_member (map places_of groups) (sanitized_metric_name key.name) n) (zero-add (length keys)) in
    (λ j. record { label_sets = map-append (label_set_of globals) keys (key ∷ []) j; families = grown j })

-- ---- what the first of some series want

-- one more of the first
take_next : {X : Type 0} (xs : List X) (n : ℕ) (x : X) → slice_get xs n ≡ Some x → take (suc n) xs ≡ take n xs ++ x ∷ []
take_next [] n x e = absurd cc
take_next (y ∷ xs) zero x e = ap (λ z. z ∷ []) (same_Some y x e)
take_next (y ∷ xs) (suc n) x e = ap (λ l. y ∷ l) (take_next xs n x e)

module _ {X : Type 0} where
  -- there are at most as many of them as series
  pub first_many : (globals : List LabelText) (live : List (LiveSeries X)) (rows : RowsText) → KeepsFirst globals live rows → length rows.label_sets ≤ length live
  first_many globals live rows first =
      let many : length rows.label_sets ≡ length (take (length rows.label_sets) (keys_of live)) = ap (λ (r : RowsText). length r.label_sets) first ∙ length-map (take (length rows.label_sets) (keys_of live)) (label_set_of globals) in
      omega (arith, many, length-take (length rows.label_sets) (keys_of live), length-map live (λ (series : LiveSeries X). series.key))

  -- each place within has a key
  pub none_within : (live : List (LiveSeries X)) (n : ℕ) → n < length live → None ≡ option_map (λ (series : LiveSeries X). series.key) (slice_get live n) → ⊥
  none_within [] n within none = absurd (omega (arith, within))
  none_within (s ∷ live) zero within none = absurd cc
  none_within (s ∷ live) (suc n) within none = none_within live n (omega (arith, within)) none

  -- one more of them
  pub first_more : (globals : List LabelText) (live : List (LiveSeries X)) (rows more : RowsText) (key : KeyText) → KeepsFirst globals live rows
      → Some key ≡ option_map (λ (series : LiveSeries X). series.key) (slice_get live (length rows.label_sets))
      → ((keys : List KeyText) → rows ≡ rows_of globals keys → more ≡ rows_of globals (keys ++ key ∷ [])) → KeepsFirst globals live more × (length more.label_sets ≡ length rows.label_sets + 1)
  first_more globals live rows more key first here pushed =
      let n = length rows.label_sets in
      let at : slice_get (keys_of live) n ≡ Some key = slice_get-map (λ (series : LiveSeries X). series.key) live n ∙ sym here in
      let grown : take n (keys_of live) ++ key ∷ [] ≡ take (n + 1) (keys_of live) = sym (rw add-one (take_next (keys_of live) n key at)) in
      let is = pushed (take n (keys_of live)) first ∙ ap (rows_of globals) grown in
      let many : length more.label_sets ≡ n + 1 =
      ap (λ (r : RowsText). length r.label_sets) (pushed (take n (keys_of live)) first) ∙ length-map (take n (keys_of live) ++ key ∷ []) (label_set_of globals) ∙ length-append (take n (keys_of live)) (key ∷ [])
      ∙ ap (λ m. m + 1) (sym (ap (λ (r : RowsText). length r.label_sets) first ∙ length-map (take n (keys_of live)) (label_set_of globals))) in
      (is ∙ ap (λ m. rows_of globals (take m (keys_of live))) (sym many), many)

  -- all of them
  pub first_all : (globals : List LabelText) (live : List (LiveSeries X)) (rows : RowsText) → KeepsFirst globals live rows → length live ≤ length rows.label_sets → rows ≡ rows_of globals (keys_of live)
  first_all globals live rows first many =
      first ∙ ap (rows_of globals) (take_all (length rows.label_sets) (keys_of live) (omega (arith, many, length-map live (λ (series : LiveSeries X). series.key))))

  -- series that come last are none of them
  pub first_longer : (globals : List LabelText) (live : List (LiveSeries X)) (series : LiveSeries X) (rows : RowsText) → KeepsFirst globals live rows → KeepsFirst globals (live ++ series ∷ []) rows
  first_longer globals live series rows first =
      first ∙ ap (rows_of globals) (sym (
      ap (take (length rows.label_sets)) (map-append (λ (s : LiveSeries X). s.key) live (series ∷ []))
      ∙ take-append-le (length rows.label_sets) (keys_of live) (series.key ∷ []) (omega (arith, first_many globals live rows first, length-map live (λ (s : LiveSeries X). s.key)))
      ))

  -- they stay the first of series with the same keys
  pub first_same : (globals : List LabelText) (old new : List (LiveSeries X)) (rows : RowsText) → KeepsFirst globals old rows → keys_of new ≡ keys_of old → KeepsFirst globals new rows
  first_same globals old new rows first same = first ∙ ap (λ keys. rows_of globals (take (length rows.label_sets) keys)) (sym same)

-- ---- what leaves the keys as they are

module _ {X : Type 0} where
  pub keys-with_cell : (id : SeriesId) (live : List (LiveSeries X)) (cell : X) → keys_of (with_cell id live cell) ≡ keys_of live
  keys-with_cell id [] cell = refl
  keys-with_cell id (s ∷ live) cell =
      elim (has_id id s) as (λ b. (cond b (record s { cell = cell }) s).key ∷ keys_of (with_cell id live cell) ≡ s.key ∷ keys_of live) [
        | true ↦ ap (λ l. s.key ∷ l) (keys-with_cell id live cell)
        | false ↦ ap (λ l. s.key ∷ l) (keys-with_cell id live cell)
      ]

  pub keys-with_cell_at : (live : List (LiveSeries X)) (place : ℕ) (cell : X) → keys_of (with_cell_at live place cell) ≡ keys_of live
  keys-with_cell_at [] place cell = refl
  keys-with_cell_at (s ∷ live) zero cell = refl
  keys-with_cell_at (s ∷ live) (suc place) cell = ap (λ l. s.key ∷ l) (keys-with_cell_at live place cell)

-- what is kept fits as long as the keys stay, and histograms are of their kinds
pub kept_same : (settings : ExporterSettings) (distributions : DistributionRules) (old new : Cells) (counters gauges histograms : RowsText) → IsKept settings distributions old counters gauges histograms
    → keys_of new.counters ≡ keys_of old.counters → keys_of new.gauges ≡ keys_of old.gauges → keys_of new.histograms ≡ keys_of old.histograms → HaveKinds settings new.histograms
    → IsKept settings distributions new counters gauges histograms
kept_same settings distributions old new counters gauges histograms kept same also too sampled = record {
  counters = first_same settings.globals old.counters new.counters counters kept.counters same;
  gauges = first_same settings.globals old.gauges new.gauges gauges kept.gauges also;
  histograms = first_same settings.globals old.histograms new.histograms histograms kept.histograms too;
  kinds = kept.kinds;
  sampled = sampled;
}

-- ---- groups of things that stand for others

module _ {X Y : Type 0} (name_of : Y → List ℕ) (g : X → Y) where
  abbrev stood : List ℕ × List X → List ℕ × List Y
  stood group = (group.0, map g group.1)

  named_step : (x : X) (xs : List X) (n : List ℕ) (b : Bool) → bytes_eq (name_of (g x)) n ≡ b → named name_of (map g xs) n ≡ map g (named (λ y. name_of (g y)) xs n)
      → named name_of (map g (x ∷ xs)) n ≡ map g (named (λ y. name_of (g y)) (x ∷ xs) n)
  named_step x xs n true is rest = rw is (ap (λ l. g x ∷ l) rest)
  named_step x xs n false is rest = rw is rest

  named-map : (xs : List X) (n : List ℕ) → named name_of (map g xs) n ≡ map g (named (λ x. name_of (g x)) xs n)
  named-map [] n = refl
  named-map (x ∷ xs) n = named_step x xs n (bytes_eq (name_of (g x)) n) refl (named-map xs n)

  names-map : (xs : List X) → map name_of (map g xs) ≡ map (λ x. name_of (g x)) xs
  names-map [] = refl
  names-map (x ∷ xs) = ap (λ l. name_of (g x) ∷ l) (names-map xs)

  gathered-map : (xs : List X) (ns : List (List ℕ)) → map (λ n. (n, named name_of (map g xs) n)) ns ≡ map stood (map (λ n. (n, named (λ x. name_of (g x)) xs n)) ns)
  gathered-map xs [] = refl
  gathered-map xs (n ∷ ns) = (λ j. (n, named-map xs n j) ∷ gathered-map xs ns j)

  pub grouped-map : (xs : List X) → grouped name_of (map g xs) ≡ map stood (grouped (λ x. name_of (g x)) xs)
  grouped-map xs = ap (λ ns. map (λ n. (n, named name_of (map g xs) n)) (distinct ns)) (names-map xs) ∙ gathered-map xs (distinct (map (λ x. name_of (g x)) xs))

-- ---- the text that is made of what is kept

module _ {X : Type 0} where
  -- a series with its place, as its key and as a member of a family
  abbrev pub placed_key : ℕ × LiveSeries X → ℕ × KeyText
  placed_key p = (p.0, p.1.key)

  abbrev placed_member : ℕ × LiveSeries X → KeyText × X
  placed_member p = member_of p.1

  abbrev pub placed_name : ℕ × LiveSeries X → List ℕ
  placed_name p = sanitized_metric_name p.1.key.name

  pub keys-placed : (n : ℕ) (live : List (LiveSeries X)) → enumerate_from n (keys_of live) ≡ map placed_key (enumerate_from n live)
  keys-placed n [] = refl
  keys-placed n (s ∷ live) = ap (λ l. (n, s.key) ∷ l) (keys-placed (n + 1) live)

  members-placed : (n : ℕ) (live : List (LiveSeries X)) → map member_of live ≡ map placed_member (enumerate_from n live)
  members-placed n [] = refl
  members-placed n (s ∷ live) = ap (λ l. member_of s ∷ l) (members-placed (n + 1) live)

  first-placed : (ms : List (ℕ × LiveSeries X)) → map (λ placed. placed.0) (map placed_key ms) ≡ map (λ placed. placed.0) ms
  first-placed [] = refl
  first-placed (m ∷ ms) = ap (λ l. m.0 ∷ l) (first-placed ms)

  pub places-placed : (gs : List (List ℕ × List (ℕ × LiveSeries X))) → map places_of (map (stood name_at placed_key) gs) ≡ map places_of gs
  places-placed [] = refl
  places-placed (g ∷ gs) = (λ j. (g.0, first-placed g.1 j) ∷ places-placed gs j)

  module _ (naming : NamingText) (suffix : Option (List ℕ)) (shown : X → ℤ) (globals : List LabelText) (type : FamilyType) (live : List (LiveSeries X)) where
    abbrev label_sets : List (List ℕ)
    label_sets = map (label_set_of globals) (keys_of live)

    abbrev all_placed : List (ℕ × LiveSeries X)
    all_placed = enumerate_from 0 live

    row-here : (full : List ℕ) (k : ℕ) (s : LiveSeries X) → slice_get live k ≡ Some s → row_at shown full label_sets live k ≡ row_text (value_row shown globals full (member_of s))
    row-here full k s at =
        let head : slice_get label_sets k ≡ Some (label_set_of globals s.key) =
        slice_get-map (label_set_of globals) (keys_of live) k ∙ ap (option_map (label_set_of globals)) (slice_get-map (λ (series : LiveSeries X). series.key) live k ∙ ap (option_map (λ (series : LiveSeries X). series.key)) at) in
        rw (head, at) refl

    -- these series stand behind the first k
    abbrev StandBehind : ℕ → List (LiveSeries X) → Type 0
    StandBehind k xs = (j : ℕ) → slice_get live (k + j) ≡ slice_get xs j

    rows_step : (n : List ℕ) (k : ℕ) (x : LiveSeries X) (xs : List (LiveSeries X)) (b : Bool) → bytes_eq (sanitized_metric_name x.key.name) n ≡ b → slice_get live k ≡ Some x
        → flat_map (row_at shown (shown_name naming suffix n) label_sets live) (map (λ placed. placed.0) (named placed_name (enumerate_from (k + 1) xs) n)) ≡ flat_map row_text (map (value_row shown globals (shown_name naming suffix n)) (map placed_member (named placed_name (enumerate_from (k + 1) xs) n)))
        → flat_map (row_at shown (shown_name naming suffix n) label_sets live) (map (λ placed. placed.0) (named placed_name (enumerate_from k (x ∷ xs)) n)) ≡ flat_map row_text (map (value_row shown globals (shown_name naming suffix n)) (map placed_member (named placed_name (enumerate_from k (x ∷ xs)) n)))
    rows_step n k x xs true is at rest =
        let row = row-here (shown_name naming suffix n) k x at in
        rw is (λ j. row j ++ rest j)
    rows_step n k x xs false is at rest = rw is rest

    rows-named : (n : List ℕ) (k : ℕ) (xs : List (LiveSeries X)) → StandBehind k xs
        → flat_map (row_at shown (shown_name naming suffix n) label_sets live) (map (λ placed. placed.0) (named placed_name (enumerate_from k xs) n)) ≡ flat_map row_text (map (value_row shown globals (shown_name naming suffix n)) (map placed_member (named placed_name (enumerate_from k xs) n)))
    rows-named n k [] behind = refl
    rows-named n k (x ∷ xs) behind =
        let here : slice_get live k ≡ Some x = ap (slice_get live) (sym (add-zero k)) ∙ behind 0 in
        let later : StandBehind (k + 1) xs = λ j. ap (slice_get live) (let e : k + 1 + j ≡ k + suc j = omega arith in e) ∙ behind (suc j) in
        rows_step n k x xs (bytes_eq (sanitized_metric_name x.key.name) n) refl here (rows-named n (k + 1) xs later)

    blocks-named : (ns : List (List ℕ))
        → flat_map (kept_block shown naming suffix type label_sets live) (map places_of (map (λ n. (n, named placed_name all_placed n)) ns))
        ≡ body_text (map (value_family naming suffix type shown globals) (map (stood metric_name placed_member) (map (λ n. (n, named placed_name all_placed n)) ns)))
    blocks-named [] = refl
    blocks-named (n ∷ ns) =
        let rows = rows-named n 0 live (λ j. ap (slice_get live) (zero-add j)) in
        (λ j. (title_text naming suffix (type_text type) n ++ rows j ++ line []) ++ blocks-named ns j)

    -- the blocks are those of the families of the series
    pub blocks-kept : flat_map (kept_block shown naming suffix type label_sets live) (rows_of globals (keys_of live)).families ≡ body_text (value_families naming suffix type shown globals live)
    blocks-kept =
        ap (λ l. flat_map (kept_block shown naming suffix type label_sets live) (map places_of (grouped name_at l))) (keys-placed 0 live)
        ∙ ap (λ gs. flat_map (kept_block shown naming suffix type label_sets live) (map places_of gs)) (grouped-map name_at placed_key all_placed)
        ∙ ap (flat_map (kept_block shown naming suffix type label_sets live)) (places-placed (grouped placed_name all_placed))
        ∙ blocks-named (distinct (map placed_name all_placed))
        ∙ sym (ap (λ gs. body_text (map (value_family naming suffix type shown globals) gs)) (ap (grouped metric_name) (members-placed 0 live) ∙ grouped-map metric_name placed_member all_placed))
