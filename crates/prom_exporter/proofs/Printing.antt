-- Rows that are kept for the next page: one more, what they make of a page, and that they stay when series are added.
use Rattle.std.proofs.Common.{◌≡◌, ℕ, zero, suc, ◌+◌, ◌-◌, ◌*◌, ◌<◌, ◌≤◌, Bool, true, false, List, [], ◌∷◌, ◌++◌, length, take, drop, set, get_or, map, Option, Some, None, refl, sym, ap, subst, ◌∙◌, arith, append-nil, append_assoc, length-append}
use Rattle.std.specs.Prelude.{min, nat_lt, slice_get, option_map, flat_map, ℤ, bytes_eq, string_bytes}
use Rattle.std.proofs.lemmas.Option.{same_Some, none-some}
use Rattle.std.proofs.lemmas.List.{take-append-drop, drop-drop, drop_all}
use Rattle.metrics_registry.specs.Live.{LiveSeries}
use Rattle.prom_exporter.specs.Rows.{row_at, row_if, value_line}
use Rattle.prom_exporter.specs.Values.{with_member}
use Rattle.prom_exporter.specs.Printed.{AreKept, AreRows, ArePrinted, ShowValues, together}
use Rattle.prom_exporter.proofs.PieceTexts.{beyond, take-everything, within}
use Rattle.prom_exporter.specs.declared.cells.Billionths.{Billionths}
use Rattle.prom_exporter.specs.declared.printed.PrintedRows.{PrintedRows}
use Rattle.prom_exporter.specs.declared.printed.PrintedFamily.{PrintedFamily}

-- ---- lists

-- what is found in a list is found in a longer one
get-longer : {X : Type 0} (xs more : List X) (i : ℕ) (x : X) → slice_get xs i ≡ Some x → slice_get (xs ++ more) i ≡ Some x
get-longer [] more i x is = absurd (none-some x is)
get-longer (y ∷ xs) more zero x is = is
get-longer (y ∷ xs) more (suc i) x is = get-longer xs more i x is

-- the front of a longer list is longer or the same, and so is what stands behind it
front-longer : {X : Type 0} (n : ℕ) (xs more : List X) → (rest : List X) × (take n (xs ++ more) ≡ take n xs ++ rest)
front-longer zero xs more = ([], refl)
front-longer (suc n) [] more = (take (suc n) more, refl)
front-longer (suc n) (x ∷ xs) more = let later = front-longer n xs more in (later.0, ap (λ l. x ∷ l) later.1)

behind-longer : {X : Type 0} (n : ℕ) (xs more : List X) → (rest : List X) × (drop n (xs ++ more) ≡ drop n xs ++ rest)
behind-longer zero xs more = (more, refl)
behind-longer (suc n) [] more = (drop (suc n) more, refl)
behind-longer (suc n) (x ∷ xs) more = behind-longer n xs more

-- two parts of the front, one behind the other
pub take-two : {X : Type 0} (xs : List X) (a b c : ℕ) → c ≡ a + b → take c xs ≡ take a xs ++ take b (drop a xs)
take-two xs zero b c is = ap (λ n. take n xs) (omega (arith, is))
take-two [] (suc a) b c is = take-everything c [] (omega arith) ∙ sym (take-everything b [] (omega arith))
take-two (x ∷ xs) (suc a) b zero is = let none : ⊥ = omega (arith, is) in absurd none
take-two (x ∷ xs) (suc a) b (suc c) is = ap (λ l. x ∷ l) (take-two xs a b c (omega (arith, is)))

-- the front of so many, or of all where they are fewer
pub front-few : (xs : List ℕ) (n k : ℕ) → k ≡ min (length xs) n → take k xs ≡ take n xs
front-few xs n k is = by (nat_lt n (length xs)) refl
  where
    by : (b : Bool) → nat_lt n (length xs) ≡ b → take k xs ≡ take n xs
    by true few = ap (λ m. take m xs) (let less = within few in omega (arith, is, less))
    by false few = let more = beyond few in take-everything k xs (omega (arith, is, more)) ∙ sym (take-everything n xs more)

pub behind-few : (xs : List ℕ) (n k : ℕ) → k ≡ min (length xs) n → drop k xs ≡ drop n xs
behind-few xs n k is = by (nat_lt n (length xs)) refl
  where
    by : (b : Bool) → nat_lt n (length xs) ≡ b → drop k xs ≡ drop n xs
    by true few = ap (λ m. drop m xs) (let less = within few in omega (arith, is, less))
    by false few = let more = beyond few in drop_all k xs (omega (arith, is, more)) ∙ sym (drop_all n xs more)

-- the bytes of one more, and of those behind it
module _ {X : Type 0} (block : X → List ℕ) where
  next-of : (xs : List X) (i : ℕ) (x : X) → slice_get xs i ≡ Some x → flat_map block (take (suc i) xs) ≡ flat_map block (take i xs) ++ block x
  next-of [] i x at = absurd (none-some x at)
  next-of (y ∷ xs) zero x at = append-nil (block y) ∙ ap block (same_Some y x at)
  next-of (y ∷ xs) (suc i) x at = ap (λ l. block y ++ l) (next-of xs i x at) ∙ sym (append_assoc (block y) (flat_map block (take i xs)) (block x))

  all-of : (xs : List X) (i : ℕ) (x : X) → slice_get xs i ≡ Some x → flat_map block xs ≡ (flat_map block (take i xs) ++ block x) ++ flat_map block (drop (suc i) xs)
  all-of [] i x at = absurd (none-some x at)
  all-of (y ∷ xs) zero x at = ap (λ (z : X). block z ++ flat_map block xs) (same_Some y x at)
  all-of (y ∷ xs) (suc i) x at =
      ap (λ l. block y ++ l) (all-of xs i x at)
      ∙ sym (append_assoc (block y) (flat_map block (take i xs) ++ block x) (flat_map block (drop (suc i) xs)))
      ∙ ap (λ l. l ++ flat_map block (drop (suc i) xs)) (sym (append_assoc (block y) (flat_map block (take i xs)) (block x)))

  pub blocks-next : (xs : List X) (i : ℕ) (x : X) → slice_get xs i ≡ Some x → flat_map block (take (i + 1) xs) ≡ flat_map block (take i xs) ++ block x
  blocks-next xs i x at = let more : i + 1 ≡ suc i = omega arith in ap (λ n. flat_map block (take n xs)) more ∙ next-of xs i x at

  pub blocks-all : (xs : List X) (i : ℕ) (x : X) → slice_get xs i ≡ Some x → flat_map block xs ≡ (flat_map block (take i xs) ++ block x) ++ flat_map block (drop (i + 1) xs)
  blocks-all xs i x at = let more : suc i ≡ i + 1 = omega arith in all-of xs i x at ∙ ap (λ n. (flat_map block (take i xs) ++ block x) ++ flat_map block (drop n xs)) more

-- ---- rows of values

module _ (name : List ℕ) where
  pub rows-longer : (sets more : List (List ℕ)) (places others : List ℕ) (values : List Billionths) (text : List ℕ) → AreRows name sets places values text → AreRows name (sets ++ more) (places ++ others) values text
  rows-longer sets more places others [] text rows = rows
  rows-longer sets more [] others (v ∷ values) text rows = absurd rows
  rows-longer sets more (p ∷ places) others (v ∷ values) text (labels, rest, at, is, later) =
      (labels, rest, get-longer sets more p labels at, is, rows-longer sets more places others values rest later)

  module _ (sets : List (List ℕ)) where
    pub rows-behind : (places others : List ℕ) (values : List Billionths) (text : List ℕ) → AreRows name sets places values text → AreRows name sets (places ++ others) values text
    rows-behind places others values text rows = subst (λ l. AreRows name l (places ++ others) values text) (append-nil sets) (rows-longer sets [] places others values text rows)

    pub rows-of_front : (n : ℕ) (places : List ℕ) (values : List Billionths) (text : List ℕ) → AreRows name sets (take n places) values text → AreRows name sets places values text
    rows-of_front n places values text rows = subst (λ l. AreRows name sets l values text) (take-append-drop n places) (rows-behind (take n places) (drop n places) values text rows)

    -- one more
    pub rows-more : (places : List ℕ) (values : List Billionths) (text labels : List ℕ) (p : ℕ) (v : Billionths) → length places ≡ length values → slice_get sets p ≡ Some labels → AreRows name sets places values text
        → AreRows name sets (places ++ p ∷ []) (values ++ v ∷ []) (text ++ value_line name labels v.0)
    rows-more [] [] text labels p v many at rows = (labels, [], at, ap (λ l. l ++ value_line name labels v.0) rows ∙ sym (append-nil (value_line name labels v.0)), refl)
    rows-more [] (w ∷ values) text labels p v many at rows = absurd rows
    rows-more (q ∷ places) [] text labels p v many at rows = let none : ⊥ = omega (arith, many) in absurd none
    rows-more (q ∷ places) (w ∷ values) text labels p v many at (own, rest, here, is, later) =
        let fewer : length places ≡ length values = omega (arith, many) in
        (own, rest ++ value_line name labels v.0, here, ap (λ l. l ++ value_line name labels v.0) is ∙ append_assoc (value_line name own w.0) rest (value_line name labels v.0), rows-more places values rest labels p v fewer at later)

    pub few-rows : (places : List ℕ) (values : List Billionths) (text : List ℕ) → AreRows name sets places values text → length values ≤ length places
    few-rows places [] text rows = omega arith
    few-rows [] (v ∷ values) text rows = absurd rows
    few-rows (p ∷ places) (v ∷ values) text (labels, rest, at, is, later) = let fewer = few-rows places values rest later in omega (arith, fewer)

    module _ {X : Type 0} (shown : X → ℤ) (live : List (LiveSeries X)) where
      row_shown : (labels : List ℕ) (v : ℤ) (o : Option (LiveSeries X)) → Some v ≡ option_map (λ (s : LiveSeries X). shown s.cell) o → value_line name labels v ≡ row_if shown name (Some labels) o
      row_shown labels v None is = absurd (none-some v (sym is))
      row_shown labels v (Some s) is = ap (value_line name labels) (same_Some v (shown s.cell) is)

      -- the rows of values that are shown are those of a page
      pub rows-shown : (places : List ℕ) (values : List Billionths) (text : List ℕ) → AreRows name sets places values text → ShowValues shown live places values
          → text ≡ flat_map (row_at shown name sets live) (take (length values) places)
      rows-shown places [] text rows shows = rows
      rows-shown [] (v ∷ values) text rows shows = absurd rows
      rows-shown (p ∷ places) (v ∷ values) text (labels, rest, at, is, later) (found, shows) =
          is ∙ (λ j. (row_shown labels v.0 (slice_get live p) found ∙ ap (λ o. row_if shown name o (slice_get live p)) (sym at)) j ++ rows-shown places values rest later shows j)

module _ {X : Type 0} (shown : X → ℤ) (live : List (LiveSeries X)) where
  -- what a cell shows that was found
  pub found_shown : (cell : X) (v : ℤ) (o : Option (LiveSeries X)) → v ≡ shown cell → Some cell ≡ option_map (λ (s : LiveSeries X). s.cell) o → Some v ≡ option_map (λ (s : LiveSeries X). shown s.cell) o
  found_shown cell v None is found = absurd (none-some cell (sym found))
  found_shown cell v (Some s) is found = ap Some (is ∙ ap shown (same_Some cell s.cell found))

  pub shows-more : (places : List ℕ) (values : List Billionths) (p : ℕ) (v : Billionths) → length places ≡ length values → Some v.0 ≡ option_map (λ (s : LiveSeries X). shown s.cell) (slice_get live p)
      → ShowValues shown live places values → ShowValues shown live (places ++ p ∷ []) (values ++ v ∷ [])
  shows-more [] [] p v many found shows = (found, tt)
  shows-more [] (w ∷ values) p v many found shows = absurd shows
  shows-more (q ∷ places) [] p v many found shows = let none : ⊥ = omega (arith, many) in absurd none
  shows-more (q ∷ places) (w ∷ values) p v many found (here, later) = let fewer : length places ≡ length values = omega (arith, many) in (here, shows-more places values p v fewer found later)

  shows-behind : (places others : List ℕ) (values : List Billionths) → ShowValues shown live places values → ShowValues shown live (places ++ others) values
  shows-behind places others [] shows = tt
  shows-behind [] others (v ∷ values) shows = absurd shows
  shows-behind (p ∷ places) others (v ∷ values) (here, later) = (here, shows-behind places others values later)

  pub shows-of_front : (n : ℕ) (places : List ℕ) (values : List Billionths) → ShowValues shown live (take n places) values → ShowValues shown live places values
  shows-of_front n places values shows = subst (λ l. ShowValues shown live l values) (take-append-drop n places) (shows-behind (take n places) (drop n places) values shows)

-- ---- what is kept of a family

module _ (name : List ℕ) where
  pub kept-longer : (sets more : List (List ℕ)) (places others : List ℕ) (kept : List PrintedRows) → AreKept name sets places kept → AreKept name (sets ++ more) (places ++ others) kept
  kept-longer sets more places others [] are = tt
  kept-longer sets more places others (rows ∷ kept) (here, later) =
      let front = front-longer together places others in
      let behind = behind-longer together places others in (
        subst (λ l. AreRows name (sets ++ more) l rows.values.items (string_bytes rows.text)) (sym front.1) (rows-longer name sets more (take together places) front.0 rows.values.items (string_bytes rows.text) here),
        subst (λ l. AreKept name (sets ++ more) l kept) (sym behind.1) (kept-longer sets more (drop together places) behind.0 kept later),
      )

  module _ (sets : List (List ℕ)) where
    -- the places of the rows at an index
    abbrev places_at : ℕ → List ℕ → List ℕ
    places_at index places = take together (drop (together * index) places)

    places-next : (index : ℕ) (places : List ℕ) → places_at index (drop together places) ≡ places_at (suc index) places
    places-next index places = ap (take together) (drop-drop (together * index) together places ∙ ap (λ n. drop n places) (omega arith))

    pub kept-at : (places : List ℕ) (kept : List PrintedRows) (index : ℕ) (rows : PrintedRows) → index < length kept → AreKept name sets places kept
        → let found = get_or kept index rows in AreRows name sets (places_at index places) found.values.items (string_bytes found.text)
    kept-at places [] index rows within are = let none : ⊥ = omega (arith, within) in absurd none
    kept-at places (first ∷ kept) zero rows within (here, later) = here
    kept-at places (first ∷ kept) (suc index) rows within (here, later) =
        let found = get_or kept index rows in
        subst (λ l. AreRows name sets l found.values.items (string_bytes found.text)) (places-next index places) (kept-at (drop together places) kept index rows (let inside : index < length kept = omega (arith, within) in inside) later)

    pub kept-set : (places : List ℕ) (kept : List PrintedRows) (index : ℕ) (rows : PrintedRows) → AreKept name sets places kept
        → AreRows name sets (places_at index places) rows.values.items (string_bytes rows.text) → AreKept name sets places (set kept index rows)
    kept-set places [] index rows are new = are
    kept-set places (first ∷ kept) zero rows (here, later) new = (new, later)
    kept-set places (first ∷ kept) (suc index) rows (here, later) new =
        (here, kept-set (drop together places) kept index rows later (subst (λ l. AreRows name sets l rows.values.items (string_bytes rows.text)) (sym (places-next index places)) new))

    pub kept-push : (places : List ℕ) (kept : List PrintedRows) (rows : PrintedRows) → rows.values.items ≡ [] → string_bytes rows.text ≡ [] → AreKept name sets places kept → AreKept name sets places (kept ++ rows ∷ [])
    kept-push places [] rows values text are = (subst (λ l. AreRows name sets (take together places) l (string_bytes rows.text)) (sym values) text, tt)
    kept-push places (first ∷ kept) rows values text (here, later) = (here, kept-push (drop together places) kept rows values text later)

-- ---- what is kept of families

pub printed-longer : (sets more : List (List ℕ)) (families : List (List ℕ × List ℕ)) (name : List ℕ) (place : ℕ) (printed : List PrintedFamily) → ArePrinted sets families printed → ArePrinted (sets ++ more) (with_member families name place) printed
printed-longer sets more families name place [] are = tt
printed-longer sets more [] name place (p ∷ printed) are = absurd are
printed-longer sets more (f ∷ families) name place (p ∷ printed) (here, later) =
    elim (bytes_eq name f.0) as (λ b. ArePrinted (sets ++ more) (Rattle.std.proofs.Common.cond b ((f.0, f.1 ++ place ∷ []) ∷ families) (f ∷ with_member families name place)) (p ∷ printed)) [
      | true ↦ (kept-longer (string_bytes p.name) sets more f.1 (place ∷ []) p.rows.items here, all-longer families printed later)
      | false ↦ (subst (λ l. AreKept (string_bytes p.name) (sets ++ more) l p.rows.items) (append-nil f.1) (kept-longer (string_bytes p.name) sets more f.1 [] p.rows.items here), printed-longer sets more families name place printed later)
    ]
  where
    all-longer : (families : List (List ℕ × List ℕ)) (printed : List PrintedFamily) → ArePrinted sets families printed → ArePrinted (sets ++ more) families printed
    all-longer families [] are = tt
    all-longer [] (p ∷ printed) are = absurd are
    all-longer (f ∷ families) (p ∷ printed) (here, later) =
        (subst (λ l. AreKept (string_bytes p.name) (sets ++ more) l p.rows.items) (append-nil f.1) (kept-longer (string_bytes p.name) sets more f.1 [] p.rows.items here), all-longer families printed later)

module _ (sets : List (List ℕ)) where
  pub printed-at : (families : List (List ℕ × List ℕ)) (printed : List PrintedFamily) (index : ℕ) (family : List ℕ × List ℕ) (any : PrintedFamily) → index < length printed → slice_get families index ≡ Some family → ArePrinted sets families printed
      → let found = get_or printed index any in AreKept (string_bytes found.name) sets family.1 found.rows.items
  printed-at families [] index family any within at are = let none : ⊥ = omega (arith, within) in absurd none
  printed-at [] (p ∷ printed) index family any within at are = absurd are
  printed-at (f ∷ families) (p ∷ printed) zero family any within at (here, later) = subst (λ (g : List ℕ × List ℕ). AreKept (string_bytes p.name) sets g.1 p.rows.items) (same_Some f family at) here
  printed-at (f ∷ families) (p ∷ printed) (suc index) family any within at (here, later) = printed-at families printed index family any (let inside : index < length printed = omega (arith, within) in inside) at later

  pub printed-set : (families : List (List ℕ × List ℕ)) (printed : List PrintedFamily) (index : ℕ) (family : List ℕ × List ℕ) (new : PrintedFamily) → slice_get families index ≡ Some family → ArePrinted sets families printed
      → AreKept (string_bytes new.name) sets family.1 new.rows.items → ArePrinted sets families (set printed index new)
  printed-set families [] index family new at are kept = are
  printed-set [] (p ∷ printed) index family new at are kept = absurd are
  printed-set (f ∷ families) (p ∷ printed) zero family new at (here, later) kept = (subst (λ (g : List ℕ × List ℕ). AreKept (string_bytes new.name) sets g.1 new.rows.items) (sym (same_Some f family at)) kept, later)
  printed-set (f ∷ families) (p ∷ printed) (suc index) family new at (here, later) kept = (here, printed-set families printed index family new at later kept)

  pub printed-push : (families : List (List ℕ × List ℕ)) (printed : List PrintedFamily) (new : PrintedFamily) → length printed < length families → new.rows.items ≡ [] → ArePrinted sets families printed → ArePrinted sets families (printed ++ new ∷ [])
  printed-push [] printed new fewer none are = let no : ⊥ = omega (arith, fewer) in absurd no
  printed-push (f ∷ families) [] new fewer none are = (subst (AreKept (string_bytes new.name) sets f.1) (sym none) tt, tt)
  printed-push (f ∷ families) (p ∷ printed) new fewer none (here, later) = (here, printed-push families printed new (let less : length printed < length families = omega (arith, fewer) in less) none later)

  -- the rows of one family, which are kept before they are written and after
  module _ (families : List (List ℕ × List ℕ)) (printed : List PrintedFamily) (index : ℕ) (family : List ℕ × List ℕ) (rows : PrintedFamily) (places : List ℕ) (same : places ≡ family.1) (within : index < length printed)
      (at : slice_get families index ≡ Some family) (are : ArePrinted sets families printed) (is : rows ≡ get_or printed index rows) where
    pub kept-before : AreKept (string_bytes rows.name) sets places rows.rows.items
    kept-before =
        subst (λ l. AreKept (string_bytes rows.name) sets l rows.rows.items) (sym same)
        (subst (λ (r : PrintedFamily). AreKept (string_bytes r.name) sets family.1 r.rows.items) (sym is) (printed-at families printed index family rows within at are))

    pub printed-after : (new : PrintedFamily) → (AreKept (string_bytes rows.name) sets places rows.rows.items → AreKept (string_bytes new.name) sets places new.rows.items) → ArePrinted sets families (set printed index new)
    printed-after new keeps = printed-set families printed index family new at are (subst (λ l. AreKept (string_bytes new.name) sets l new.rows.items) same (keeps kept-before))
