-- Rows by their names.
use Rattle.std.proofs.Common.{◌≡◌, ℕ, ◌+◌, ◌<◌, Bool, true, false, cond, List, [], ◌∷◌, ◌++◌, map, flat_map, take, get_or, length, Bor, bytes_eq, string_bytes, refl, sym, ap, append_assoc, append-nil, ◌∙◌}
use Rattle.std.proofs.lemmas.Bool.Decides.{same_from_decides}
use Rattle.std.proofs.lemmas.List.{map_more, map-append}
use Rattle.std.proofs.lemmas.List.Concat.{flat_map-append}
use Rattle.std.proofs.lemmas.List.Elements.{filter-append}
use Rattle.std.proofs.lemmas.Slice.Eq.{bytes_eq-Decides}
use Rattle.prom_format.specs.Pages.{Family, Row}
use Rattle.page_relay.specs.Values.{row_of, family_of}
use Rattle.page_relay.specs.declared.pages.PageRow.{PageRow}
use Rattle.page_relay.specs.declared.pages.Family as declared
use Rattle.rule_eval.specs.Evaluating.{RowsByName, found_at, named, rows_at, rows_named, rows_with}

-- one more item of a loop
pub mapped_more : {X Y : Type 0} (f : X → Y) (xs : List X) (i : ℕ) (x : X) → i < length xs → x ≡ get_or xs i x
    → map f (take (i + 1) xs) ≡ map f (take i xs) ++ f x ∷ []
mapped_more f xs i x below at = map_more f xs i x below ∙ ap (λ y. map f (take i xs) ++ f y ∷ []) (sym at)

pub rows_at_more : (rows : List (Bor PageRow)) (i : ℕ) (row : Bor PageRow) → i < length rows → row ≡ get_or rows i row
    → rows_at (take (i + 1) rows) ≡ rows_at (take i rows) ++ row_of row.now ∷ []
rows_at_more rows i row below at = mapped_more (λ (r : Bor PageRow). row_of r.now) rows i row below at

pub mapped_twice : {X Y Z : Type 0} (f : Y → Z) (g : X → Y) (xs : List X) → map (λ x. f (g x)) xs ≡ map f (map g xs)
mapped_twice f g [] = refl
mapped_twice f g (x ∷ xs) = ap (λ l. f (g x) ∷ l) (mapped_twice f g xs)

bytes_swap : (a b : List ℕ) → bytes_eq a b ≡ bytes_eq b a
bytes_swap a b =
    let there = bytes_eq-Decides a b in
    let back = bytes_eq-Decides b a in
    same_from_decides (bytes_eq a b) (bytes_eq b a) there ((λ t. sym (back.0 t)), (λ e. back.1 (sym e)))

-- one more row
pub named_more : (old new : RowsByName) (more : List PageRow) (i : ℕ) (row : PageRow) (there : Bor PageRow) (before : List Row) (name : List ℕ)
    → i < length more → row ≡ get_or more i row → there.now ≡ row
    → rows_named old name ≡ before ++ named name (map row_of (take i more))
    → found_at new name ≡ found_at old name ++ (cond (bytes_eq name (string_bytes there.now.name)) (there ∷ []) [])
    → rows_named new name ≡ before ++ named name (map row_of (take (i + 1) more))
named_more old new more i row there before name below at is so_far found =
    ap rows_at found
    ∙ map-append (λ (r : Bor PageRow). row_of r.now) (found_at old name) (cond (bytes_eq name (string_bytes there.now.name)) (there ∷ []) [])
    ∙ (λ j. so_far j ++ rows_at (cond (bytes_swap name (string_bytes there.now.name) j) (there ∷ []) []))
    ∙ append_assoc before (named name (map row_of (take i more))) (rows_at (cond (bytes_eq (string_bytes there.now.name) name) (there ∷ []) []))
    ∙ ap (λ l. before ++ (named name (map row_of (take i more)) ++ l)) (by (bytes_eq (string_bytes there.now.name) name))
    ∙ ap (λ (r : PageRow). before ++ (named name (map row_of (take i more)) ++ named name (row_of r ∷ []))) is
    ∙ ap (λ l. before ++ l) (sym (ap (named name) (mapped_more row_of more i row below at) ∙ filter-append (λ (r : Row). bytes_eq r.name name) (map row_of (take i more)) (row_of row ∷ [])))
  where
    by : (b : Bool) → rows_at (cond b (there ∷ []) []) ≡ (cond b (row_of there.now ∷ []) [])
    by true = refl
    by false = refl

-- one more family
pub named_family : (families : List declared.Family) (i : ℕ) (family : declared.Family) (name : List ℕ)
    → i < length families → family ≡ get_or families i family
    → rows_with name (map family_of (take (i + 1) families))
    ≡ rows_with name (map family_of (take i families)) ++ named name (map row_of family.rows.items)
named_family families i family name below at =
    ap (rows_with name) (mapped_more family_of families i family below at)
    ∙ ap (named name) (flat_map-append (λ (f : Family). f.rows) (map family_of (take i families)) (family_of family ∷ []) ∙ ap (λ l. flat_map (λ (f : Family). f.rows) (map family_of (take i families)) ++ l) (append-nil (map row_of family.rows.items)))
    ∙ filter-append (λ (r : Row). bytes_eq r.name name) (flat_map (λ (f : Family). f.rows) (map family_of (take i families))) (map row_of family.rows.items)
