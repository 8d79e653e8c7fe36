-- The families of pages as one list, up to a place.
use Rattle.std.proofs.Common.{◌≡◌, ℕ, zero, suc, ◌+◌, ◌<◌, ◌≤◌, List, [], ◌∷◌, ◌++◌, map, length, length-take, take, get_or, sym, ap, ◌∙◌, append_assoc, append-nil, arith}
use Rattle.std.proofs.lemmas.List.{length-map, map_more, map_push, take_all}
use Rattle.prom_format.specs.Pages.{Row, Family}
use Rattle.page_relay.specs.Merge.{Numbered, NumberedRow, numbered_rows, numbered_from, on_page}

-- a list is what stands before a place, the item there, and a rest
pub split_at : {X Y : Type 0} (f : X → Y) (xs : List X) (i : ℕ) (x : X) → i < length xs → x ≡ get_or xs i x → (rest : List Y) × (map f xs ≡ map f (take i xs) ++ f x ∷ rest)
split_at f [] i x below at = absurd (omega arith)
split_at f (y ∷ xs) zero x below at = (map f xs, ap (λ z. f z ∷ map f xs) (sym at))
split_at f (y ∷ xs) (suc i) x below at = let behind = split_at f xs i x (omega arith) at in (behind.0, ap (λ l. f y ∷ l) behind.1)

pub rows_split : {X : Type 0} (f : X → Row) (page : ℕ) (xs : List X) (i : ℕ) (x : X) → i < length xs → x ≡ get_or xs i x
    → (rest : List NumberedRow) × (numbered_rows page (map f xs) ≡ numbered_rows page (map f (take i xs)) ++ record { page = page; row = f x } ∷ rest)
rows_split f page [] i x below at = absurd (omega arith)
rows_split f page (y ∷ xs) zero x below at = (numbered_rows page (map f xs), ap (λ z. record { page = page; row = f z } ∷ numbered_rows page (map f xs)) (sym at))
rows_split f page (y ∷ xs) (suc i) x below at = let behind = rows_split f page xs i x (omega arith) at in (behind.0, ap (λ l. record { page = page; row = f y } ∷ l) behind.1)

pub rows_next : {X : Type 0} (f : X → Row) (page : ℕ) (xs : List X) (i : ℕ) (x : X) → i < length xs → x ≡ get_or xs i x
    → numbered_rows page (map f (take (i + 1) xs)) ≡ numbered_rows page (map f (take i xs)) ++ record { page = page; row = f x } ∷ []
rows_next f page xs i x below at =
    ap (numbered_rows page) (map_more f xs i x below ∙ ap (λ z. map f (take i xs) ++ f z ∷ []) (sym at)) ∙ map_push (λ (row : Row). record { page = page; row = row }) (map f (take i xs)) (f x)

pub page_split : {X : Type 0} (f : X → Family) (page : ℕ) (xs : List X) (i : ℕ) (x : X) → i < length xs → x ≡ get_or xs i x
    → (rest : List Numbered) × (on_page page (map f xs) ≡ on_page page (map f (take i xs)) ++ record { page = page; family = f x } ∷ rest)
page_split f page [] i x below at = absurd (omega arith)
page_split f page (y ∷ xs) zero x below at = (on_page page (map f xs), ap (λ z. record { page = page; family = f z } ∷ on_page page (map f xs)) (sym at))
page_split f page (y ∷ xs) (suc i) x below at = let behind = page_split f page xs i x (omega arith) at in (behind.0, ap (λ l. record { page = page; family = f y } ∷ l) behind.1)

pub page_next : {X : Type 0} (f : X → Family) (page : ℕ) (xs : List X) (i : ℕ) (x : X) → i < length xs → x ≡ get_or xs i x
    → on_page page (map f (take (i + 1) xs)) ≡ on_page page (map f (take i xs)) ++ record { page = page; family = f x } ∷ []
page_next f page xs i x below at =
    ap (on_page page) (map_more f xs i x below ∙ ap (λ z. map f (take i xs) ++ f z ∷ []) (sym at)) ∙ map_push (λ (family : Family). record { page = page; family = family }) (map f (take i xs)) (f x)

later : (n i : ℕ) → (n + 1) + i ≡ n + suc i
later n i = omega arith

pub pages_split : {X : Type 0} (f : X → List Family) (n : ℕ) (xs : List X) (i : ℕ) (x : X) → i < length xs → x ≡ get_or xs i x
    → (rest : List Numbered) × (numbered_from n (map f xs) ≡ numbered_from n (map f (take i xs)) ++ (on_page (n + i) (f x) ++ rest))
pages_split f n [] i x below at = absurd (omega arith)
pages_split f n (y ∷ xs) zero x below at =
    let here : n ≡ n + 0 = omega arith in
    (numbered_from (n + 1) (map f xs), (λ j. on_page (here j) (f (sym at j)) ++ numbered_from (n + 1) (map f xs)))
pages_split f n (y ∷ xs) (suc i) x below at =
    let behind = pages_split f (n + 1) xs i x (omega arith) at in (
      behind.0,
      ap (λ l. on_page n (f y) ++ l) (behind.1 ∙ ap (λ m. numbered_from (n + 1) (map f (take i xs)) ++ (on_page m (f x) ++ behind.0)) (later n i))
          ∙ sym (append_assoc (on_page n (f y)) (numbered_from (n + 1) (map f (take i xs))) (on_page (n + suc i) (f x) ++ behind.0)),
    )

pub pages_next : {X : Type 0} (f : X → List Family) (n : ℕ) (xs : List X) (i : ℕ) (x : X) → i < length xs → x ≡ get_or xs i x
    → numbered_from n (map f (take (i + 1) xs)) ≡ numbered_from n (map f (take i xs)) ++ on_page (n + i) (f x)
pages_next f n xs i x below at = ap (numbered_from n) (map_more f xs i x below ∙ ap (λ z. map f (take i xs) ++ f z ∷ []) (sym at)) ∙ push n (map f (take i xs)) (f x) ∙ ap (λ k. numbered_from n (map f (take i xs)) ++ on_page (n + k) (f x)) (length-taken f xs i below)
  where
    push : (n : ℕ) (pages : List (List Family)) (page : List Family) → numbered_from n (pages ++ page ∷ []) ≡ numbered_from n pages ++ on_page (n + length pages) page
    push n [] page = let here : n ≡ n + 0 = omega arith in append-nil (on_page n page) ∙ ap (λ m. on_page m page) here
    push n (first ∷ pages) page =
        let further : (n + 1) + length pages ≡ n + length (first ∷ pages) = omega arith in
        ap (λ l. on_page n first ++ l) (push (n + 1) pages page ∙ ap (λ m. numbered_from (n + 1) pages ++ on_page m page) further)
        ∙ sym (append_assoc (on_page n first) (numbered_from (n + 1) pages) (on_page (n + length (first ∷ pages)) page))

    length-taken : {X : Type 0} (f : X → List Family) (xs : List X) (i : ℕ) → i < length xs → length (map f (take i xs)) ≡ i
    length-taken f xs i below = omega (arith, length-map (take i xs) f, length-take i xs)

-- the family at a place of a page stands between those before it and a rest
pub family_split : {X Y : Type 0} (f : X → List Family) (g : Y → Family) (pages : List X) (i : ℕ) (page : X) (m : ℕ) (families : List Y) (j : ℕ) (family : Y)
    → i < length pages → page ≡ get_or pages i page → m ≡ i + 1 → f page ≡ map g families → j < length families → family ≡ get_or families j family
    → (behind : List Numbered) × (numbered_from 1 (map f pages) ≡ (numbered_from 1 (map f (take i pages)) ++ on_page m (map g (take j families))) ++ record { page = m; family = g family } ∷ behind)
family_split f g pages i page m families j family below at number are below_there at_there =
    let same : 1 + i ≡ m = omega arith in
    let outer = pages_split f 1 pages i page below at in
    let inner = page_split g m families j family below_there at_there in
    let before = numbered_from 1 (map f (take i pages)) in
    let there = on_page m (map g (take j families)) in (
      inner.0 ++ outer.0,
      outer.1
          ∙ (λ k. before ++ (on_page (same k) (are k) ++ outer.0))
          ∙ ap (λ l. before ++ (l ++ outer.0)) inner.1
          ∙ ap (λ l. before ++ l) (append_assoc there (record { page = m; family = g family } ∷ inner.0) outer.0)
          ∙ sym (append_assoc before there (record { page = m; family = g family } ∷ (inner.0 ++ outer.0))),
    )

pub family_next : {X Y : Type 0} (f : X → List Family) (g : Y → Family) (pages : List X) (i m : ℕ) (families : List Y) (j : ℕ) (family : Y) → j < length families → family ≡ get_or families j family
    → (numbered_from 1 (map f (take i pages)) ++ on_page m (map g (take j families))) ++ record { page = m; family = g family } ∷ [] ≡ numbered_from 1 (map f (take i pages)) ++ on_page m (map g (take (j + 1) families))
family_next f g pages i m families j family below at =
    append_assoc (numbered_from 1 (map f (take i pages))) (on_page m (map g (take j families))) (record { page = m; family = g family } ∷ [])
    ∙ ap (λ l. numbered_from 1 (map f (take i pages)) ++ l) (sym (page_next g m families j family below at))

pub page_done : {X Y : Type 0} (f : X → List Family) (g : Y → Family) (pages : List X) (i : ℕ) (page : X) (m : ℕ) (families : List Y) (j : ℕ)
    → i < length pages → page ≡ get_or pages i page → m ≡ i + 1 → f page ≡ map g families → length families ≤ j
    → numbered_from 1 (map f (take i pages)) ++ on_page m (map g (take j families)) ≡ numbered_from 1 (map f (take (i + 1) pages))
page_done f g pages i page m families j below at number are done =
    let same : m ≡ 1 + i = omega arith in
    let whole = take_all j families done in
    (λ k. numbered_from 1 (map f (take i pages)) ++ on_page (same k) (map g (whole k)))
    ∙ ap (λ l. numbered_from 1 (map f (take i pages)) ++ on_page (1 + i) l) (sym are)
    ∙ sym (pages_next f 1 pages i page below at)
