-- A list in groups by name, and what one more member changes.
use Rattle.std.proofs.Common.{◌≡◌, ℕ, zero, suc, Bool, true, false, cond, not, ◌||◌, List, [], ◌∷◌, ◌++◌, map, filter, refl, sym, ap, ◌∙◌, append-nil}
use Rattle.std.proofs.lemmas.Option.{same_Some}
use Rattle.std.specs.Prelude.{Option, Some, None, String, string_bytes, unwrap_or, bytes_eq, if◌then◌else◌, slice_get}
use Rattle.std.specs.String.{string_eq}
use Rattle.std.specs.Map.{keys_of, values_of, lookup}
use Rattle.indexmap.specs.IndexMap.{insert_entry, set_value_at}
use Rattle.std.specs.List.{list_any, AllByRecursion, IsDistinct}
use Rattle.std.specs.Cmp.Lexicographic.{nat_list_eq_equiv}
use Rattle.std.proofs.lemmas.Bool.{true≢false, or_parts}
use Rattle.std.proofs.lemmas.Map.Keys.{IsDistinct-head, IsDistinct-tail}
use Rattle.std.proofs.lemmas.List.{map-append}
use Rattle.std.proofs.lemmas.List.Elements.{filter-append}
use Rattle.prom_exporter.specs.Families.{distinct}
use Rattle.prom_exporter.specs.Values.{named, grouped, with_member}

symm : (a b : List ℕ) → bytes_eq a b ≡ bytes_eq b a
symm = nat_list_eq_equiv.symm

-- ---- distinct names

-- the names, with one more where it isn't there
abbrev pub with_name : List (List ℕ) → List ℕ → List (List ℕ)
with_name [] n = n ∷ []
with_name (m ∷ ms) n = if bytes_eq n m then m ∷ ms else m ∷ with_name ms n

abbrev others : List ℕ → List (List ℕ) → List (List ℕ)
others m ms = filter (λ y. not (bytes_eq m y)) ms

-- one more name that is left out
others_same_step : (m n k : List ℕ) (ms : List (List ℕ)) (b : Bool) → bytes_eq n k ≡ b → others m (with_name ms n) ≡ others m ms → others m (with_name (k ∷ ms) n) ≡ others m (k ∷ ms)
others_same_step m n k ms true p rest = rw p refl
others_same_step m n k ms false p rest = rw p (ap (λ l. cond (not (bytes_eq m k)) (k ∷ l) l) rest)

others_same : (m n : List ℕ) (ms : List (List ℕ)) → bytes_eq m n ≡ true → others m (with_name ms n) ≡ others m ms
others_same m n [] e = rw e refl
others_same m n (k ∷ ms) e = others_same_step m n k ms (bytes_eq n k) refl (others_same m n ms e)

-- one more name that stays
others_other_step : (m n k : List ℕ) (ms : List (List ℕ)) (b d : Bool) → bytes_eq n k ≡ b → bytes_eq m k ≡ d → bytes_eq m n ≡ false → others m (with_name ms n) ≡ with_name (others m ms) n
    → others m (with_name (k ∷ ms) n) ≡ with_name (others m (k ∷ ms)) n
others_other_step m n k ms true true p q e rest = absurd (true≢false (sym q ∙ symm m k ∙ sym (nat_list_eq_equiv.congr n k m p) ∙ symm n m ∙ e))
others_other_step m n k ms true false p q e rest = rw (p, q) (rw p refl)
others_other_step m n k ms false true p q e rest = rw (p, q) rest
others_other_step m n k ms false false p q e rest = rw (p, q) (rw p (ap (λ l. k ∷ l) rest))

others_other : (m n : List ℕ) (ms : List (List ℕ)) → bytes_eq m n ≡ false → others m (with_name ms n) ≡ with_name (others m ms) n
others_other m n [] e = rw e refl
others_other m n (k ∷ ms) e = others_other_step m n k ms (bytes_eq n k) (bytes_eq m k) refl refl e (others_other m n ms e)

others_step : (m n : List ℕ) (ms : List (List ℕ)) (b : Bool) → bytes_eq m n ≡ b → m ∷ others m (with_name ms n) ≡ with_name (m ∷ others m ms) n
others_step m n ms true e = let s : bytes_eq n m ≡ true = symm n m ∙ e in rw s (ap (λ l. m ∷ l) (others_same m n ms e))
others_step m n ms false e = let s : bytes_eq n m ≡ false = symm n m ∙ e in rw s (ap (λ l. m ∷ l) (others_other m n ms e))

pub distinct-push : (ns : List (List ℕ)) (n : List ℕ) → distinct (ns ++ n ∷ []) ≡ with_name (distinct ns) n
distinct-push [] n = refl
distinct-push (m ∷ ns) n = ap (λ l. m ∷ others m l) (distinct-push ns n) ∙ others_step m n (distinct ns) (bytes_eq m n) refl

-- a name stands among the distinct ones where it stands at all
any_others_step : (n m k : List ℕ) (ms : List (List ℕ)) (b : Bool) → bytes_eq m k ≡ b → bytes_eq n m ≡ false → list_any (bytes_eq n) (others m ms) ≡ list_any (bytes_eq n) ms
    → list_any (bytes_eq n) (others m (k ∷ ms)) ≡ list_any (bytes_eq n) (k ∷ ms)
any_others_step n m k ms true p e rest =
    let f : bytes_eq n k ≡ false = symm n k ∙ sym (nat_list_eq_equiv.congr m k n p) ∙ symm m n ∙ e in rw (p, f) rest
any_others_step n m k ms false p e rest = rw p (ap (λ b. bytes_eq n k || b) rest)

any_others : (n m : List ℕ) (ms : List (List ℕ)) → bytes_eq n m ≡ false → list_any (bytes_eq n) (others m ms) ≡ list_any (bytes_eq n) ms
any_others n m [] e = refl
any_others n m (k ∷ ms) e = any_others_step n m k ms (bytes_eq m k) refl e (any_others n m ms e)

any_distinct_step : (n m : List ℕ) (ns ds : List (List ℕ)) (b : Bool) → bytes_eq n m ≡ b → list_any (bytes_eq n) ds ≡ list_any (bytes_eq n) ns
    → list_any (bytes_eq n) (m ∷ others m ds) ≡ list_any (bytes_eq n) (m ∷ ns)
any_distinct_step n m ns ds true e rest = rw e refl
any_distinct_step n m ns ds false e rest = rw e (any_others n m ds e ∙ rest)

pub any_distinct : (n : List ℕ) (ns : List (List ℕ)) → list_any (bytes_eq n) (distinct ns) ≡ list_any (bytes_eq n) ns
any_distinct n [] = refl
any_distinct n (m ∷ ns) = any_distinct_step n m ns (distinct ns) (bytes_eq n m) refl (any_distinct n ns)

-- no name is equal to a later one
abbrev AreApart : List (List ℕ) → Type 0
AreApart [] = Unit {0}
AreApart (m ∷ ms) = (list_any (bytes_eq m) ms ≡ false) × AreApart ms

none_filtered : (p test : List ℕ → Bool) (ms : List (List ℕ)) → list_any p ms ≡ false → list_any p (filter test ms) ≡ false
none_filtered p test [] e = refl
none_filtered p test (k ∷ ms) e =
    elim (test k) as (λ b. list_any p (cond b (k ∷ filter test ms) (filter test ms)) ≡ false) [
      | true ↦ rw (or_parts (p k) (list_any p ms) e).0 (none_filtered p test ms (or_parts (p k) (list_any p ms) e).1)
      | false ↦ none_filtered p test ms (or_parts (p k) (list_any p ms) e).1
    ]

apart_filtered : (test : List ℕ → Bool) (ms : List (List ℕ)) → AreApart ms → AreApart (filter test ms)
apart_filtered test [] a = tt
apart_filtered test (k ∷ ms) a =
    elim (test k) as (λ b. AreApart (cond b (k ∷ filter test ms) (filter test ms))) [
      | true ↦ (none_filtered (bytes_eq k) test ms a.0, apart_filtered test ms a.1)
      | false ↦ apart_filtered test ms a.1
    ]

none_others_step : (m k : List ℕ) (ms : List (List ℕ)) (b : Bool) → bytes_eq m k ≡ b → list_any (bytes_eq m) (others m ms) ≡ false → list_any (bytes_eq m) (others m (k ∷ ms)) ≡ false
none_others_step m k ms true e rest = rw e rest
none_others_step m k ms false e rest = rw e (rw e rest)

none_others : (m : List ℕ) (ms : List (List ℕ)) → list_any (bytes_eq m) (others m ms) ≡ false
none_others m [] = refl
none_others m (k ∷ ms) = none_others_step m k ms (bytes_eq m k) refl (none_others m ms)

distinct-apart : (ns : List (List ℕ)) → AreApart (distinct ns)
distinct-apart [] = tt
distinct-apart (m ∷ ns) = (none_others m (distinct ns), apart_filtered (λ y. not (bytes_eq m y)) (distinct ns) (distinct-apart ns))

-- ---- groups

module _ {X : Type 0} (name_of : X → List ℕ) where
  abbrev gathered : List X → List (List ℕ) → List (List ℕ × List X)
  gathered xs ns = map (λ n. (n, named name_of xs n)) ns

  named-push : (xs : List X) (x : X) (n : List ℕ) → named name_of (xs ++ x ∷ []) n ≡ named name_of xs n ++ cond (bytes_eq (name_of x) n) (x ∷ []) []
  named-push xs x n = filter-append (λ y. bytes_eq (name_of y) n) xs (x ∷ [])

  pub named_none : (n : List ℕ) (xs : List X) → list_any (bytes_eq n) (map name_of xs) ≡ false → named name_of xs n ≡ []
  named_none n [] e = refl
  named_none n (x ∷ xs) e =
      let f : bytes_eq (name_of x) n ≡ false = symm (name_of x) n ∙ (or_parts (bytes_eq n (name_of x)) (list_any (bytes_eq n) (map name_of xs)) e).0 in
      rw f (named_none n xs (or_parts (bytes_eq n (name_of x)) (list_any (bytes_eq n) (map name_of xs)) e).1)

  gathered_same : (xs : List X) (x : X) (ms : List (List ℕ)) → list_any (bytes_eq (name_of x)) ms ≡ false → gathered (xs ++ x ∷ []) ms ≡ gathered xs ms
  gathered_same xs x [] e = refl
  gathered_same xs x (m ∷ ms) e =
      let parts = or_parts (bytes_eq (name_of x) m) (list_any (bytes_eq (name_of x)) ms) e in
      let same : named name_of (xs ++ x ∷ []) m ≡ named name_of xs m = named-push xs x m ∙ rw parts.0 (append-nil (named name_of xs m)) in
      (λ i. (m, same i) ∷ gathered_same xs x ms parts.1 i)

  gathered_step : (xs : List X) (x : X) (m : List ℕ) (ms : List (List ℕ)) (b : Bool) → bytes_eq (name_of x) m ≡ b → list_any (bytes_eq m) ms ≡ false
      → (b ≡ false → gathered (xs ++ x ∷ []) (with_name ms (name_of x)) ≡ with_member (gathered xs ms) (name_of x) x)
      → gathered (xs ++ x ∷ []) (with_name (m ∷ ms) (name_of x)) ≡ with_member (gathered xs (m ∷ ms)) (name_of x) x
  gathered_step xs x m ms true e apart rest =
      let none : list_any (bytes_eq (name_of x)) ms ≡ false = ap (λ p. list_any p ms) (λ i k. nat_list_eq_equiv.congr (name_of x) m k e i) ∙ apart in
      let more : named name_of (xs ++ x ∷ []) m ≡ named name_of xs m ++ x ∷ [] = named-push xs x m ∙ rw e refl in
      rw e (λ i. (m, more i) ∷ gathered_same xs x ms none i)
  gathered_step xs x m ms false e apart rest =
      let same : named name_of (xs ++ x ∷ []) m ≡ named name_of xs m = named-push xs x m ∙ rw e (append-nil (named name_of xs m)) in
      rw e (λ i. (m, same i) ∷ rest refl i)

  gathered-push : (xs : List X) (x : X) (ms : List (List ℕ)) → AreApart ms → (list_any (bytes_eq (name_of x)) ms ≡ false → named name_of xs (name_of x) ≡ [])
      → gathered (xs ++ x ∷ []) (with_name ms (name_of x)) ≡ with_member (gathered xs ms) (name_of x) x
  gathered-push xs x [] apart none =
      ap (λ l. (name_of x, l) ∷ []) (named-push xs x (name_of x) ∙ rw (none refl, nat_list_eq_equiv.refl (name_of x)) refl)
  gathered-push xs x (m ∷ ms) apart none =
      gathered_step xs x m ms (bytes_eq (name_of x) m) refl apart.0 (λ e. gathered-push xs x ms apart.1 (λ f. none (rw e f)))

  pub grouped-push : (xs : List X) (x : X) → grouped name_of (xs ++ x ∷ []) ≡ with_member (grouped name_of xs) (name_of x) x
  grouped-push xs x =
      ap (λ ns. gathered (xs ++ x ∷ []) (distinct ns)) (map-append name_of xs (x ∷ []))
      ∙ ap (gathered (xs ++ x ∷ [])) (distinct-push (map name_of xs) (name_of x))
      ∙ gathered-push xs x (distinct (map name_of xs)) (distinct-apart (map name_of xs)) (λ e. named_none (name_of x) xs (sym (any_distinct (name_of x) (map name_of xs)) ∙ e))

-- ---- groups in a map

-- entries by name: the group of a name takes one more member, or a new one goes last
module _ {Y V X : Type 0} (view : V → List X) (name : String Y) (group empty : V) (x : X) (none : view empty ≡ []) where
  abbrev shown : String Y × V → List ℕ × List X
  shown e = (string_bytes e.0, view e.1)

  entries_step : (e : String Y × V) (es : List (String Y × V)) (b : Bool) → bytes_eq (string_bytes name) (string_bytes e.0) ≡ b
      → view group ≡ view (unwrap_or (lookup (string_eq name) (e ∷ es)) empty) ++ x ∷ []
      → (view group ≡ view (unwrap_or (lookup (string_eq name) es) empty) ++ x ∷ [] → map shown (insert_entry string_eq es name group) ≡ with_member (map shown es) (string_bytes name) x)
      → map shown (insert_entry string_eq (e ∷ es) name group) ≡ with_member (map shown (e ∷ es)) (string_bytes name) x
  entries_step e es true is more rest = rw is (ap (λ l. (string_bytes e.0, l) ∷ map shown es) (rw is at more))
  entries_step e es false is more rest = rw is (ap (λ l. shown e ∷ l) (rest (rw is at more)))

  pub entries-insert_entry : (es : List (String Y × V)) → view group ≡ view (unwrap_or (lookup (string_eq name) es) empty) ++ x ∷ []
      → map shown (insert_entry string_eq es name group) ≡ with_member (map shown es) (string_bytes name) x
  entries-insert_entry [] more = ap (λ l. (string_bytes name, l) ∷ []) (more ∙ ap (λ l. l ++ x ∷ []) none)
  entries-insert_entry (e ∷ es) more = entries_step e es (bytes_eq (string_bytes name) (string_bytes e.0)) refl more (entries-insert_entry es)

  -- the group of a name that is there, put anew with the same members
  same_step : (e : String Y × V) (es : List (String Y × V)) (v : V) (b : Bool) → bytes_eq (string_bytes name) (string_bytes e.0) ≡ b
      → lookup (string_eq name) (e ∷ es) ≡ Some v → view group ≡ view v
      → (lookup (string_eq name) es ≡ Some v → map shown (insert_entry string_eq es name group) ≡ map shown es)
      → map shown (insert_entry string_eq (e ∷ es) name group) ≡ map shown (e ∷ es)
  same_step e es v true is found same rest = rw is (ap (λ l. (string_bytes e.0, l) ∷ map shown es) (same ∙ ap view (sym (same_Some e.1 v (rw is at found)))))
  same_step e es v false is found same rest = rw is (ap (λ l. shown e ∷ l) (rest (rw is at found)))

  pub entries-same : (es : List (String Y × V)) (v : V) → lookup (string_eq name) es ≡ Some v → view group ≡ view v
      → map shown (insert_entry string_eq es name group) ≡ map shown es
  entries-same [] v found same = cc
  entries-same (e ∷ es) v found same = same_step e es v (bytes_eq (string_bytes name) (string_bytes e.0)) refl found same (λ f. entries-same es v f same)

  -- the same of a name whose group is looked up
  pub entries-refused : (es : List (String Y × V)) (found : Option V) → lookup (string_eq name) es ≡ found → view group ≡ view (unwrap_or found empty) → (found ≡ None → ⊥)
      → map shown (insert_entry string_eq es name group) ≡ map shown es
  entries-refused es None is same new = absurd (new refl)
  entries-refused es (Some v) is same new = entries-same es v is same

-- entries by name, where a group that is there is written anew
module _ {Y V X : Type 0} (view : V → List X) (name : List ℕ) where
  abbrev named_group : String Y × V → List ℕ × List X
  named_group e = (string_bytes e.0, view e.1)

  abbrev is_named : String Y → Bool
  is_named key = bytes_eq name (string_bytes key)

  -- with one more member, where the group is given by its place
  at_place : (e d : String Y × V) (es : List (String Y × V)) (i : ℕ) → AllByRecursion (λ k. string_eq d.0 k ≡ false) (keys_of es) → slice_get es i ≡ Some e → string_eq d.0 e.0 ≡ false
  at_place e d [] i apart at = cc
  at_place e d (f ∷ es) zero apart at = ap (λ (g : String Y × V). string_eq d.0 g.0) (sym (same_Some f e at)) ∙ apart.0
  at_place e d (f ∷ es) (suc i) apart at = at_place e d es i apart.1 at

  pub member-written_at : (es : List (String Y × V)) (i : ℕ) (e : String Y × V) (w : V) (x : X) → IsDistinct string_eq (keys_of es) → slice_get es i ≡ Some e → is_named e.0 ≡ true → view w ≡ view e.1 ++ x ∷ []
      → map named_group (set_value_at es i w) ≡ with_member (map named_group es) name x
  member-written_at [] i e w x distinct at is more = cc
  member-written_at (d ∷ es) zero e w x distinct at is more =
      let same : d ≡ e = same_Some d e at in
      let own : is_named d.0 ≡ true = ap (λ (g : String Y × V). is_named g.0) same ∙ is in
      rw own (ap (λ l. (string_bytes d.0, l) ∷ map named_group es) (more ∙ ap (λ (g : String Y × V). view g.1 ++ x ∷ []) (sym same)))
  member-written_at (d ∷ es) (suc i) e w x distinct at is more =
      let other : is_named d.0 ≡ false = by (is_named d.0) refl in
      rw other (ap (λ l. named_group d ∷ l) (member-written_at es i e w x (IsDistinct-tail _ _ _ distinct) at is more))
    where
      by : (b : Bool) → is_named d.0 ≡ b → is_named d.0 ≡ false
      by true p = absurd (true≢false (sym is ∙ nat_list_eq_equiv.congr name (string_bytes d.0) (string_bytes e.0) p ∙ at_place e d es i (IsDistinct-head _ _ _ distinct) at))
      by false p = p

  -- with the same members
  pub members-stay_at : (es : List (String Y × V)) (i : ℕ) (v w : V) → slice_get (values_of es) i ≡ Some v → view w ≡ view v → map named_group (set_value_at es i w) ≡ map named_group es
  members-stay_at [] i v w at same = cc
  members-stay_at (e ∷ es) zero v w at same = ap (λ l. (string_bytes e.0, l) ∷ map named_group es) (same ∙ ap view (sym (same_Some e.1 v at)))
  members-stay_at (e ∷ es) (suc i) v w at same = ap (λ l. named_group e ∷ l) (members-stay_at es i v w at same)

-- the value of an entry
pub value_at : {K V : Type 0} (es : List (K × V)) (i : ℕ) (e : K × V) → slice_get es i ≡ Some e → slice_get (values_of es) i ≡ Some e.1
value_at [] i e at = cc
value_at {K} {V} (d ∷ es) zero e at = ap (λ (f : K × V). Some f.1) (same_Some d e at)
value_at (d ∷ es) (suc i) e at = value_at es i e at

-- the same of entries that are given by an equation
pub shown_entries : {K V X : Type 0} (view : K × V → X) (es fs : List (K × V)) (xs : List X) → es ≡ fs → map view fs ≡ xs → map view es ≡ xs
shown_entries view es fs xs same is = ap (map view) same ∙ is
