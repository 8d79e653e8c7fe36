-- Keys that stand under numbers: which of them is found under the number of a key.
use Rattle.std.proofs.Common.{◌≡◌, ℕ, zero, suc, ◌+◌, ◌<◌, Bool, true, false, cond, not, List, [], ◌∷◌, ◌++◌, length, map, Option, None, Some, refl, sym, ap, subst, ◌∙◌, true≢false, arith}
use Rattle.std.specs.Prelude.{slice_get, nat_eq, nat_lt, position, is_some, unwrap_or, swap, remove, ◌||◌, if◌then◌else◌}
use Rattle.std.specs.List.{position_or_len, list_any, IsDistinct, AllByRecursion}
use Rattle.std.specs.Cmp.{Equal-is}
use Rattle.std.specs.Hash as fed
use Rattle.std.specs.Hash.{le_bytes}
use Rattle.std.specs.Int.{w64, to_le_bytes, from_le_bytes}
use Rattle.std.specs.declared.cmp.Ordering.TheVariants.{Equal}
use Rattle.std.specs.BTreeMap.{BTreeMap, get, get_by, is_at}
use Rattle.std.specs.Map.{keys_of, values_of, lookup}
use Rattle.std.proofs.lemmas.Bool.{eq-eqb, eqb-true, or_parts}
use Rattle.std.proofs.lemmas.Bool.Decides.{nat_tests}
use Rattle.std.proofs.lemmas.List.{map-append}
use Rattle.std.proofs.lemmas.Map.Keys.{IsDistinct-head, IsDistinct-tail}
use Rattle.std.proofs.lemmas.Map.Made.{is_some-lookup}
use Rattle.std.proofs.lemmas.Option.{same_Some}
use Rattle.std.proofs.lemmas.Nat.{from_le_bytes-to_le_bytes_8}
use Rattle.hash_starts.specs.Starts.{begun_hash}
use Rattle.hash_starts.specs.declared.start.HashStart.{HashStart}
use Rattle.indexmap.specs.IndexMap.{insert_entry}
use Rattle.indexmap.proofs.ReorderLemmas.{map-swap}
use Rattle.indexmap.proofs.SetLemmas.{map-remove}
use Rattle.metrics_core.specs.Hashes.{key_hash}
use Rattle.metrics_core.specs.Keys.{KeyText, key_eq, key_cmp}
use Rattle.metrics_core.specs.KeyLaws.{key_eq_is, key_hash_respects}
use Rattle.metrics_core.specs.KeyOrderLaws.{key_cmp_total, key_cmp_ties}
use Rattle.metrics_registry.specs.NumberedKeys.{key_fed, number_of}

-- the place from the test of a place
pub place_is : (n m i : ℕ) → cond (nat_lt n m) (Some n) None ≡ Some i → n ≡ i
place_is n m i e = by (nat_lt n m) e
  where
    by : (b : Bool) → cond b (Some n) None ≡ Some i → n ≡ i
    by true h = cc
    by false h = cc

nat_lt-suc : (a b : ℕ) → nat_lt (1 + a) (suc b) ≡ nat_lt a b
nat_lt-suc a b = grind (arith, nat_tests)

is_less : (a b : ℕ) → a < b → nat_lt a b ≡ true
is_less a b h = grind (arith, nat_tests)

-- equal keys have one hash
pub one_hash : (key k : KeyText) → key_eq key k ≡ true → key_hash key ≡ key_hash k
unfolding le_bytes
one_hash key k same =
    let bytes : to_le_bytes w64 (key_hash key) ≡ to_le_bytes w64 (key_hash k) = cc (key_hash_respects key k same) in
    sym (from_le_bytes-to_le_bytes_8 (key_hash key) (omega arith)) ∙ ap (from_le_bytes w64) bytes ∙ from_le_bytes-to_le_bytes_8 (key_hash k) (omega arith)

-- and one hash from a start
one_begun : (start : HashStart) (key k : KeyText) → key_eq key k ≡ true → begun_hash start (key_fed key) ≡ begun_hash start (key_fed k)
one_begun start key k same =
    let name : key.name ≡ k.name = ((key_eq_is key k).0 same).0 in
    λ j. begun_hash start (fed.u64 (one_hash key k same j) ++ fed.str (name j))

module _ (f : KeyText → ℕ) (key : KeyText) (same : (k : KeyText) → key_eq key k ≡ true → f k ≡ f key) where
  -- a key with another number isn't equal
  other : (k : KeyText) → nat_eq (f key) (f k) ≡ false → key_eq key k ≡ false
  other k differ = by (key_eq key k) refl
    where
      by : (b : Bool) → key_eq key k ≡ b → key_eq key k ≡ false
      by true e = absurd (true≢false (sym (eq-eqb (f key) (f k) (sym (same k e))) ∙ differ))
      by false e = e

  -- the first key with the number is the first that is equal, where it is equal
  pub first : (ks : List KeyText) (i : ℕ) (k : KeyText) → position_or_len (nat_eq (f key)) (map f ks) ≡ i → slice_get ks i ≡ Some k → key_eq key k ≡ true
      → position_or_len (key_eq key) ks ≡ i
  first [] i k at has e = cc
  first (x ∷ ks) i k at has e = by (λ j. first ks j k) (nat_eq (f key) (f x)) refl
    where
      by : ((j : ℕ) → position_or_len (nat_eq (f key)) (map f ks) ≡ j → slice_get ks j ≡ Some k → key_eq key k ≡ true → position_or_len (key_eq key) ks ≡ j)
          → (b : Bool) → nat_eq (f key) (f x) ≡ b → position_or_len (key_eq key) (x ∷ ks) ≡ i
      by rest true own =
          let here : 0 ≡ i = ap (λ b. cond (not b) (1 + position_or_len (nat_eq (f key)) (map f ks)) 0) (sym own) ∙ at in
          let is : x ≡ k = cc (subst (λ j. slice_get (x ∷ ks) j ≡ Some k) (sym here) has) in
          ap (λ b. cond (not b) (1 + position_or_len (key_eq key) ks) 0) (ap (key_eq key) is ∙ e) ∙ here
      by rest false differ = later i (ap (λ b. cond (not b) (1 + position_or_len (nat_eq (f key)) (map f ks)) 0) (sym differ) ∙ at) has
        where
          later : (i : ℕ) → 1 + position_or_len (nat_eq (f key)) (map f ks) ≡ i → slice_get (x ∷ ks) i ≡ Some k → position_or_len (key_eq key) (x ∷ ks) ≡ i
          later zero s has = cc
          later (suc j) s has = ap (λ b. cond (not b) (1 + position_or_len (key_eq key) ks) 0) (other x differ) ∙ omega (arith, rest j (omega (arith, s)) has e)

  -- where no key has the number none is equal
  pub none : (ks : List KeyText) → list_any (nat_eq (f key)) (map f ks) ≡ false → list_any (key_eq key) ks ≡ false
  none [] h = refl
  none (x ∷ ks) h =
      let parts = or_parts (nat_eq (f key) (f x)) (list_any (nat_eq (f key)) (map f ks)) h in
      rw (other x parts.0) (none ks parts.1)

  apart : (x : KeyText) → nat_eq (f key) (f x) ≡ true → (ks : List KeyText) → AllByRecursion (λ n. nat_eq (f x) n ≡ false) (map f ks) → list_any (nat_eq (f key)) (map f ks) ≡ false
  apart x own [] all = refl
  apart x own (y ∷ ks) all =
      rw (ap (λ n. nat_eq n (f y)) (eqb-true (f key) (f x) own) ∙ all.0) (apart x own ks all.1)

  -- where the first key with the number isn't equal, none is
  pub none_else : (ks : List KeyText) (i : ℕ) (k : KeyText) → IsDistinct nat_eq (map f ks) → position_or_len (nat_eq (f key)) (map f ks) ≡ i → slice_get ks i ≡ Some k → key_eq key k ≡ false
      → list_any (key_eq key) ks ≡ false
  none_else [] i k distinct at has e = refl
  none_else (x ∷ ks) i k distinct at has e = by (λ j at' has'. none_else ks j k (IsDistinct-tail nat_eq (f x) (map f ks) distinct) at' has' e) (nat_eq (f key) (f x)) refl
    where
      by : ((j : ℕ) → position_or_len (nat_eq (f key)) (map f ks) ≡ j → slice_get ks j ≡ Some k → list_any (key_eq key) ks ≡ false)
          → (b : Bool) → nat_eq (f key) (f x) ≡ b → list_any (key_eq key) (x ∷ ks) ≡ false
      by rest true own =
          let here : 0 ≡ i = ap (λ b. cond (not b) (1 + position_or_len (nat_eq (f key)) (map f ks)) 0) (sym own) ∙ at in
          let is : x ≡ k = cc (subst (λ j. slice_get (x ∷ ks) j ≡ Some k) (sym here) has) in
          ap (λ b. b || list_any (key_eq key) ks) (ap (key_eq key) is ∙ e) ∙ none ks (apart x own ks (IsDistinct-head nat_eq (f x) (map f ks) distinct))
      by rest false differ = later i (ap (λ b. cond (not b) (1 + position_or_len (nat_eq (f key)) (map f ks)) 0) (sym differ) ∙ at) has
        where
          later : (i : ℕ) → 1 + position_or_len (nat_eq (f key)) (map f ks) ≡ i → slice_get (x ∷ ks) i ≡ Some k → list_any (key_eq key) (x ∷ ks) ≡ false
          later zero s has = absurd (omega (arith, s))
          later (suc j) s has = rw (other x differ) (rest j (omega (arith, s)) has)

-- where a key is equal there is a place
pub is_some-position : (test : KeyText → Bool) (ks : List KeyText) → is_some (position test ks) ≡ list_any test ks
is_some-position test ks = of_place (nat_lt (position_or_len test ks) (length ks)) ∙ is_before ks
  where
    of_place : (b : Bool) → is_some (cond b (Some (position_or_len test ks)) None) ≡ b
    of_place true = refl
    of_place false = refl

    is_before : (xs : List KeyText) → nat_lt (position_or_len test xs) (length xs) ≡ list_any test xs
    is_before [] = refl
    is_before (x ∷ xs) =
        elim (test x) as (λ b. nat_lt (cond (not b) (1 + position_or_len test xs) 0) (suc (length xs)) ≡ (b || list_any test xs)) [
          | true ↦ is_less 0 (suc (length xs)) (omega arith)
          | false ↦ nat_lt-suc (position_or_len test xs) (length xs) ∙ is_before xs
        ]

-- where none is equal there is no place
pub no_place : (test : KeyText → Bool) (ks : List KeyText) → list_any test ks ≡ false → position test ks ≡ None
no_place test ks none = none_of (position test ks) (is_some-position test ks ∙ none)
  where
    none_of : (o : Option ℕ) → is_some o ≡ false → o ≡ None
    none_of None e = refl
    none_of (Some i) e = cc

-- the place of the first one
pub some_place : (test : KeyText → Bool) (ks : List KeyText) (i : ℕ) → position_or_len test ks ≡ i → i < length ks → Some i ≡ position test ks
some_place test ks i is within =
    sym (ap (λ b. cond b (Some (position_or_len test ks)) None) (is_less (position_or_len test ks) (length ks) (omega (arith, is, within))) ∙ ap Some is)

-- equal keys have one number
pub one_number : (start : HashStart) (numbers : BTreeMap KeyText ℕ) (key k : KeyText) → key_eq key k ≡ true → number_of start numbers k ≡ number_of start numbers key
one_number start numbers key k same =
    let tied : key_cmp key k ≡ Equal = (Equal-is (key_cmp key k)).0 (sym (key_cmp_ties key k) ∙ same) in
    sym (λ j. unwrap_or (get_by (λ z. key_cmp_total.congr key k z tied j) numbers) (one_begun start key k same j))

-- a map that keeps the same numbers for all keys that aren't equal to one changes no other number
pub other_numbers : (start : HashStart) (numbers changed : BTreeMap KeyText ℕ) (key : KeyText) → ((k : KeyText) → is_at (key_cmp key) k ≡ false → get key_cmp changed k ≡ get key_cmp numbers k)
    → (ks : List KeyText) → list_any (key_eq key) ks ≡ false → map (number_of start changed) ks ≡ map (number_of start numbers) ks
other_numbers start numbers changed key rest [] none = refl
other_numbers start numbers changed key rest (x ∷ ks) none =
    let parts = or_parts (key_eq key x) (list_any (key_eq key) ks) none in
    λ j. unwrap_or (rest x (sym (key_cmp_ties key x) ∙ parts.0) j) (begun_hash start (key_fed x)) ∷ other_numbers start numbers changed key rest ks parts.1 j

-- entries of which each key stands under its number
abbrev pub Numbered : (KeyText → ℕ) → List (ℕ × KeyText) → Type 0
Numbered f es = keys_of es ≡ map f (values_of es)

pub numbered_swap : (f : KeyText → ℕ) (es : List (ℕ × KeyText)) (a b : ℕ) → Numbered f es → Numbered f (swap es a b)
numbered_swap f es a b numbered =
    map-swap (λ e. e.0) es a b ∙ ap (λ l. swap l a b) numbered ∙ sym (map-swap f (values_of es) a b) ∙ ap (map f) (sym (map-swap (λ e. e.1) es a b))

pub numbered_still : (f g : KeyText → ℕ) (es es' : List (ℕ × KeyText)) → Numbered f es → map g (values_of es) ≡ map f (values_of es) → es' ≡ es → Numbered g es'
numbered_still f g es es' numbered same is = rw is (numbered ∙ sym same)

pub numbered_more : (f g : KeyText → ℕ) (es es' : List (ℕ × KeyText)) (n : ℕ) (key : KeyText) → Numbered f es → map g (values_of es) ≡ map f (values_of es) → es' ≡ es ++ (n, key) ∷ [] → n ≡ g key
    → Numbered g es'
numbered_more f g es es' n key numbered same is number =
    rw is (map-append (λ e. e.0) es ((n, key) ∷ [])
    ∙ (λ j. (numbered ∙ sym same) j ++ number j ∷ [])
    ∙ sym (map-append g (values_of es) (key ∷ []))
    ∙ ap (map g) (sym (map-append (λ e. e.1) es ((n, key) ∷ []))))

numbered_remove : (f : KeyText → ℕ) (es : List (ℕ × KeyText)) (i : ℕ) → Numbered f es → Numbered f (remove es i)
numbered_remove f es i numbered =
    map-remove (λ e. e.0) es i ∙ ap (λ l. remove l i) numbered ∙ sym (map-remove f (values_of es) i) ∙ ap (map f) (sym (map-remove (λ e. e.1) es i))

number_at : (f : KeyText → ℕ) (es : List (ℕ × KeyText)) (i n : ℕ) (key : KeyText) → Numbered f es → slice_get es i ≡ Some (n, key) → n ≡ f key
number_at f [] i n key numbered at = cc
number_at f (e ∷ es) zero n key numbered at =
    let is : e ≡ (n, key) = cc at in
    let own : e.0 ≡ f e.1 = cc numbered in
    subst (λ (p : ℕ × KeyText). p.0 ≡ f p.1) is own
number_at f (e ∷ es) (suc i) n key numbered at = number_at f es i n key (cc numbered) at

numbered_front : (f : KeyText → ℕ) (es : List (ℕ × KeyText)) (e : ℕ × KeyText) → Numbered f (es ++ e ∷ []) → Numbered f es × (e.0 ≡ f e.1)
numbered_front f [] e numbered = (refl, cc numbered)
numbered_front f (x ∷ es) e numbered =
    let rest = numbered_front f es e (cc numbered) in
    let own : x.0 ≡ f x.1 = cc numbered in
    ((λ j. own j ∷ rest.0 j), rest.1)

module _ (start : HashStart) (numbers : BTreeMap KeyText ℕ) (key : KeyText) (es : List (ℕ × KeyText)) (numbered : Numbered (number_of start numbers) es) where
  of_numbers : list_any (nat_eq (number_of start numbers key)) (keys_of es) ≡ false → list_any (key_eq key) (values_of es) ≡ false
  of_numbers free = none (number_of start numbers) key (one_number start numbers key) (values_of es) (ap (list_any (nat_eq (number_of start numbers key))) (sym numbered) ∙ free)

  -- where no key stands under the number of a key none is equal to it
  pub none_under : (n : ℕ) → n ≡ number_of start numbers key → is_some (lookup (nat_eq n) es) ≡ false → list_any (key_eq key) (values_of es) ≡ false
  none_under n is free =
      of_numbers (sym (is_some-lookup (nat_eq (number_of start numbers key)) es) ∙ ap (λ m. is_some (lookup (nat_eq m) es)) (sym is) ∙ free)

  -- a key that stands under the number of a key is the first that is equal to it, or none is
  pub found_under : (n i : ℕ) (k : KeyText) → n ≡ number_of start numbers key → Some i ≡ position (nat_eq n) (keys_of es) → i < length (values_of es) → slice_get (values_of es) i ≡ Some k → key_eq key k ≡ true
      → Some i ≡ position (key_eq key) (values_of es)
  found_under n i k is at within has same =
      some_place (key_eq key) (values_of es) i (first (number_of start numbers) key (one_number start numbers key) (values_of es) i k (first_number n i is at) has same) within
    where
      first_number : (n i : ℕ) → n ≡ number_of start numbers key → Some i ≡ position (nat_eq n) (keys_of es) → position_or_len (nat_eq (number_of start numbers key)) (map (number_of start numbers) (values_of es)) ≡ i
      first_number n i is at =
          sym (λ j. position_or_len (nat_eq (is j)) (numbered j)) ∙ place_is (position_or_len (nat_eq n) (keys_of es)) (length (keys_of es)) i (sym at)

  pub none_but : (n i : ℕ) (k : KeyText) → n ≡ number_of start numbers key → IsDistinct nat_eq (keys_of es) → Some i ≡ position (nat_eq n) (keys_of es) → slice_get (values_of es) i ≡ Some k → key_eq key k ≡ false
      → list_any (key_eq key) (values_of es) ≡ false
  none_but n i k is distinct at has differ =
      none_else (number_of start numbers) key (one_number start numbers key) (values_of es) i k (subst (IsDistinct nat_eq) numbered distinct)
      (sym (λ j. position_or_len (nat_eq (is j)) (numbered j)) ∙ place_is (position_or_len (nat_eq n) (keys_of es)) (length (keys_of es)) i (sym at)) has differ

-- entries without the one that stood at a place, whose key is forgotten
pub numbered_removed : (start : HashStart) (numbers changed : BTreeMap KeyText ℕ) (key : KeyText) (n i : ℕ) (es es' : List (ℕ × KeyText)) → Numbered (number_of start numbers) es → Some (n, key) ≡ slice_get es i → es' ≡ remove es i
    → lookup (nat_eq n) es' ≡ None → ((k : KeyText) → is_at (key_cmp key) k ≡ false → get key_cmp changed k ≡ get key_cmp numbers k) → Numbered (number_of start changed) es'
numbered_removed start numbers changed key n i es es' numbered at is free rest =
    let others : Numbered (number_of start numbers) es' = subst (Numbered (number_of start numbers)) (sym is) (numbered_remove (number_of start numbers) es i numbered) in
    others ∙ sym (other_numbers start numbers changed key rest (values_of es') (none_under start numbers key es' others n (number_at (number_of start numbers) es i n key numbered (sym at)) (ap is_some free)))

-- entries without the last, whose key is forgotten
pub numbered_popped : (start : HashStart) (numbers changed : BTreeMap KeyText ℕ) (key : KeyText) (n : ℕ) (es es' : List (ℕ × KeyText)) → Numbered (number_of start numbers) es → es ≡ es' ++ (n, key) ∷ []
    → lookup (nat_eq n) es' ≡ None → ((k : KeyText) → is_at (key_cmp key) k ≡ false → get key_cmp changed k ≡ get key_cmp numbers k) → Numbered (number_of start changed) es'
numbered_popped start numbers changed key n es es' numbered is free rest =
    let front = numbered_front (number_of start numbers) es' (n, key) (subst (Numbered (number_of start numbers)) is numbered) in
    front.0 ∙ sym (other_numbers start numbers changed key rest (values_of es') (none_under start numbers key es' front.0 n front.1 (ap is_some free)))

-- a key that took another's place gives it back
pub put_back_again : (es : List (ℕ × KeyText)) (n : ℕ) (key held : KeyText) → lookup (nat_eq n) es ≡ Some held → insert_entry nat_eq (insert_entry nat_eq es n key) n held ≡ es
put_back_again [] n key held found = cc
put_back_again (e ∷ es) n key held found = by (put_back_again es n key held) (nat_eq n e.0) refl
  where
    by : (lookup (nat_eq n) es ≡ Some held → insert_entry nat_eq (insert_entry nat_eq es n key) n held ≡ es) → (b : Bool) → nat_eq n e.0 ≡ b
        → insert_entry nat_eq (if nat_eq n e.0 then (e.0, key) ∷ es else e ∷ insert_entry nat_eq es n key) n held ≡ e ∷ es
    by rest true own =
        ap (λ b. insert_entry nat_eq (if b then (e.0, key) ∷ es else e ∷ insert_entry nat_eq es n key) n held) own
        ∙ ap (λ b. if b then (e.0, held) ∷ es else (e.0, key) ∷ insert_entry nat_eq es n held) own
        ∙ ap (λ v. (e.0, v) ∷ es) (sym (same_Some e.1 held (sym (ap (λ b. cond b (Some e.1) (lookup (nat_eq n) es)) own) ∙ found)))
    by rest false differs =
        ap (λ b. insert_entry nat_eq (if b then (e.0, key) ∷ es else e ∷ insert_entry nat_eq es n key) n held) differs
        ∙ ap (λ b. if b then (e.0, held) ∷ insert_entry nat_eq es n key else e ∷ insert_entry nat_eq (insert_entry nat_eq es n key) n held) differs
        ∙ ap (λ l. e ∷ l) (rest (sym (ap (λ b. cond b (Some e.1) (lookup (nat_eq n) es)) differs) ∙ found))
