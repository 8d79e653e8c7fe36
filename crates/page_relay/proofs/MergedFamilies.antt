-- What families become, and what one more family makes of that.
use Rattle.std.proofs.Common.{◌≡◌, ℕ, zero, suc, ◌<◌, Bool, true, false, List, [], ◌∷◌, ◌++◌, map, length, get_or, set, length-append, refl, sym, ap, subst, ◌∙◌, append_assoc, append-nil, arith}
use Rattle.std.specs.Prelude.{⊤, ◌||◌, bytes_eq, filter, flat_map, if◌then◌else◌, slice_get, Option, Some, None, option_map, All}
use Rattle.std.specs.List.{list_any}
use Rattle.std.proofs.lemmas.Bool.{false≢true, true≢false, or_left}
use Rattle.std.proofs.lemmas.List.{get_or_append_left, get_or_push}
use Rattle.std.proofs.lemmas.List.Elements.{All-head, All-tail, All-cons, All-nil, All-push, filter-append}
use Rattle.std.proofs.lemmas.List.Folds.{list_any-append}
use Rattle.std.proofs.lemmas.List.Quantifiers.{all_pairs_push}
use Rattle.std.proofs.lemmas.Slice.Eq.{bytes_eq-Decides}
use Rattle.prom_format.specs.declared.families.FamilyType.{FamilyType}
use Rattle.page_relay.specs.Merge.{Numbered, NumberedRow, has_name, merged_behind, merged_family, rows_named, rows_of, SumFits, SumsFit, SumsFitBehind, SameType, Merges}
use Rattle.page_relay.specs.Gathering.{first_place, Alongside, firsts_behind}

-- ---- sums

pub fits_push : (type : FamilyType) (before rows : List NumberedRow) (n : NumberedRow) → SumsFitBehind type before rows → SumFits type (before ++ rows) n → SumsFitBehind type before (rows ++ n ∷ [])
fits_push type before [] n fits fit = (subst (λ b. SumFits type b n) (append-nil before) fit, tt)
fits_push type before (m ∷ rows) n fits fit =
    (fits.0, fits_push type (before ++ m ∷ []) rows n fits.1 (subst (λ b. SumFits type b n) (sym (append_assoc before (m ∷ []) rows)) fit))

pub fits_front : (type : FamilyType) (before rows more : List NumberedRow) → SumsFitBehind type before (rows ++ more) → SumsFitBehind type before rows × SumsFitBehind type (before ++ rows) more
fits_front type before [] more fits = (tt, subst (λ b. SumsFitBehind type b more) (sym (append-nil before)) fits)
fits_front type before (m ∷ rows) more fits =
    let rest = fits_front type (before ++ m ∷ []) rows more fits.1 in
    ((fits.0, rest.0), subst (λ b. SumsFitBehind type b more) (append_assoc before (m ∷ []) rows) rest.1)

-- ---- the first families of each name

pub name_is : (a b : List ℕ) → bytes_eq a b ≡ true → a ≡ b
name_is a b e = (bytes_eq-Decides a b).0 e

pub same_name : (a b : List ℕ) → a ≡ b → bytes_eq a b ≡ true
same_name a b e = (bytes_eq-Decides a b).1 e

pub firsts_push : (before families : List Numbered) (n : Numbered)
    → firsts_behind before (families ++ n ∷ []) ≡ firsts_behind before families ++ (if list_any (has_name n.family.name) (before ++ families) then [] else n ∷ [])
firsts_push before [] n = append-nil (if list_any (has_name n.family.name) before then [] else n ∷ []) ∙ ap (λ b. if list_any (has_name n.family.name) b then [] else n ∷ []) (sym (append-nil before))
firsts_push before (m ∷ families) n =
    let first = if list_any (has_name m.family.name) before then [] else m ∷ [] in
    ap (λ l. first ++ l) (firsts_push (before ++ m ∷ []) families n
    ∙ ap (λ b. firsts_behind (before ++ m ∷ []) families ++ (if list_any (has_name n.family.name) b then [] else n ∷ [])) (append_assoc before (m ∷ []) families))
    ∙ sym (append_assoc first (firsts_behind (before ++ m ∷ []) families) (if list_any (has_name n.family.name) (before ++ m ∷ families) then [] else n ∷ []))

merged_step : (all before families : List Numbered) (n : Numbered) (b : Bool) → list_any (has_name n.family.name) before ≡ b
    → merged_behind all (before ++ n ∷ []) families ≡ map (λ f. merged_family all f.family) (firsts_behind (before ++ n ∷ []) families)
    → merged_behind all before (n ∷ families) ≡ map (λ f. merged_family all f.family) (firsts_behind before (n ∷ families))
merged_step all before families n true e rest = rw e rest
merged_step all before families n false e rest = rw e (ap (λ l. merged_family all n.family ∷ l) rest)

pub merged_are : (all before families : List Numbered) → merged_behind all before families ≡ map (λ f. merged_family all f.family) (firsts_behind before families)
merged_are all before [] = refl
merged_are all before (n ∷ families) = merged_step all before families n (list_any (has_name n.family.name) before) refl (merged_are all (before ++ n ∷ []) families)

none_named : (name : List ℕ) (before : List Numbered) (m : Numbered) → list_any (has_name name) before ≡ false → bytes_eq name m.family.name ≡ false → list_any (has_name name) (before ++ m ∷ []) ≡ false
none_named name before m none e = list_any-append (has_name name) before (m ∷ []) ∙ rw (none, e) refl

some_named : (name : List ℕ) (before : List Numbered) (m : Numbered) → list_any (has_name name) before ≡ true → list_any (has_name name) (before ++ m ∷ []) ≡ true
some_named name before m some = list_any-append (has_name name) before (m ∷ []) ∙ or_left (list_any (has_name name) before) (list_any (has_name name) (m ∷ [])) some

last_named : (before : List Numbered) (m : Numbered) → list_any (has_name m.family.name) (before ++ m ∷ []) ≡ true
last_named before m = by (list_any (has_name m.family.name) before) refl
  where
    by : (b : Bool) → list_any (has_name m.family.name) before ≡ b → list_any (has_name m.family.name) (before ++ m ∷ []) ≡ true
    by true e = some_named m.family.name before m e
    by false e = list_any-append (has_name m.family.name) before (m ∷ []) ∙ rw (e, same_name m.family.name m.family.name refl) refl

-- a name that was there before isn't among the first ones
gone_step : (name : List ℕ) (before families : List Numbered) (m : Numbered) (b d : Bool) → list_any (has_name m.family.name) before ≡ b → bytes_eq name m.family.name ≡ d → list_any (has_name name) before ≡ true
    → list_any (has_name name) (firsts_behind (before ++ m ∷ []) families) ≡ false → list_any (has_name name) (firsts_behind before (m ∷ families)) ≡ false
gone_step name before families m true d e h some rest = rw e rest
gone_step name before families m false true e h some rest = absurd (false≢true (sym e ∙ ap (λ n. list_any (has_name n) before) (sym (name_is name m.family.name h)) ∙ some))
gone_step name before families m false false e h some rest = rw e (rw h rest)

pub gone : (name : List ℕ) (before families : List Numbered) → list_any (has_name name) before ≡ true → list_any (has_name name) (firsts_behind before families) ≡ false
gone name before [] some = refl
gone name before (m ∷ families) some = gone_step name before families m (list_any (has_name m.family.name) before) (bytes_eq name m.family.name) refl refl some (gone name (before ++ m ∷ []) families (some_named name before m some))

-- a name stands among the first ones where it stands at all
any_first_step : (name : List ℕ) (before families : List Numbered) (m : Numbered) (b d : Bool) → list_any (has_name m.family.name) before ≡ b → bytes_eq name m.family.name ≡ d → list_any (has_name name) before ≡ false
    → (bytes_eq name m.family.name ≡ false → list_any (has_name name) (firsts_behind (before ++ m ∷ []) families) ≡ list_any (has_name name) families)
    → list_any (has_name name) (firsts_behind before (m ∷ families)) ≡ list_any (has_name name) (m ∷ families)
any_first_step name before families m true true e h none rest = absurd (false≢true (sym none ∙ ap (λ n. list_any (has_name n) before) (name_is name m.family.name h) ∙ e))
any_first_step name before families m true false e h none rest = rw e (rw h (rest h))
any_first_step name before families m false true e h none rest = rw e (rw h refl)
any_first_step name before families m false false e h none rest = rw e (rw h (rest h))

pub any_firsts : (name : List ℕ) (before families : List Numbered) → list_any (has_name name) before ≡ false → list_any (has_name name) (firsts_behind before families) ≡ list_any (has_name name) families
any_firsts name before [] none = refl
any_firsts name before (m ∷ families) none =
    any_first_step name before families m (list_any (has_name m.family.name) before) (bytes_eq name m.family.name) refl refl none
    (λ e. any_firsts name (before ++ m ∷ []) families (none_named name before m none e))

-- the first ones have distinct names
abbrev pub AreDistinct : List Numbered → Type 0
AreDistinct [] = ⊤
AreDistinct (n ∷ families) = (list_any (has_name n.family.name) families ≡ false) × AreDistinct families

distinct_step : (before families : List Numbered) (m : Numbered) (b : Bool) → list_any (has_name m.family.name) before ≡ b → AreDistinct (firsts_behind (before ++ m ∷ []) families) → AreDistinct (firsts_behind before (m ∷ families))
distinct_step before families m true e rest = rw e rest
distinct_step before families m false e rest = rw e (gone m.family.name (before ++ m ∷ []) families (last_named before m), rest)

pub firsts_distinct : (before families : List Numbered) → AreDistinct (firsts_behind before families)
firsts_distinct before [] = tt
firsts_distinct before (m ∷ families) = distinct_step before families m (list_any (has_name m.family.name) before) refl (firsts_distinct (before ++ m ∷ []) families)

-- what holds of all holds of the first ones
all_step : (P : Numbered → Type 0) (before families : List Numbered) (m : Numbered) (b : Bool) → list_any (has_name m.family.name) before ≡ b → P m → All P (firsts_behind (before ++ m ∷ []) families) → All P (firsts_behind before (m ∷ families))
all_step P before families m true e h rest = rw e rest
all_step P before families m false e h rest = rw e (All-cons P m (firsts_behind (before ++ m ∷ []) families) h rest)

pub all_firsts : (P : Numbered → Type 0) (before families : List Numbered) → All P families → All P (firsts_behind before families)
all_firsts P before [] all = All-nil P
all_firsts P before (m ∷ families) all =
    all_step P before families m (list_any (has_name m.family.name) before) refl (All-head P m families all) (all_firsts P (before ++ m ∷ []) families (All-tail P m families all))

pub all_at : {X : Type 0} (P : X → Type 0) (xs : List X) (i : ℕ) (x : X) → All P xs → slice_get xs i ≡ Some x → P x
all_at P [] i x all at = absurd (cc)
all_at P (y ∷ xs) zero x all at = let same : y ≡ x = cc in subst P same (All-head P y xs all)
all_at P (y ∷ xs) (suc i) x all at = all_at P xs i x (All-tail P y xs all) at

-- ---- lists side by side

pub along_push : {X Y : Type 0} (R : X → Y → Type 0) (xs : List X) (ys : List Y) (x : X) (y : Y) → Alongside R xs ys → R x y → Alongside R (xs ++ x ∷ []) (ys ++ y ∷ [])
along_push R [] [] x y along h = (h, tt)
along_push R [] (b ∷ ys) x y along h = absurd along
along_push R (a ∷ xs) [] x y along h = absurd along
along_push R (a ∷ xs) (b ∷ ys) x y along h = (along.0, along_push R xs ys x y along.1 h)

pub along_length : {X Y : Type 0} (R : X → Y → Type 0) (xs : List X) (ys : List Y) → Alongside R xs ys → length xs ≡ length ys
along_length R [] [] along = refl
along_length R [] (b ∷ ys) along = absurd along
along_length R (a ∷ xs) [] along = absurd along
along_length R (a ∷ xs) (b ∷ ys) along = ap suc (along_length R xs ys along.1)

pub along_at : {X Y : Type 0} (R : X → Y → Type 0) (xs : List X) (ys : List Y) (i : ℕ) (x : X) (y : Y) → Alongside R xs ys → slice_get xs i ≡ Some x → slice_get ys i ≡ Some y → R x y
along_at R [] [] i x y along here there = absurd (cc)
along_at R [] (b ∷ ys) i x y along here there = absurd along
along_at R (a ∷ xs) [] i x y along here there = absurd along
along_at R (a ∷ xs) (b ∷ ys) zero x y along here there =
    let left : a ≡ x = cc in
    let right : b ≡ y = cc in
    subst (λ v. R x v) right (subst (λ u. R u b) left along.0)
along_at R (a ∷ xs) (b ∷ ys) (suc i) x y along here there = along_at R xs ys i x y along.1 here there

-- where none has the name, and else the relation stays
along_step : {X : Type 0} (R S : X → Numbered → Type 0) (name : List ℕ) (x : X) (n : Numbered) (xs : List X) (families : List Numbered) (b : Bool) → bytes_eq name n.family.name ≡ b
    → ((x : X) (n : Numbered) → bytes_eq name n.family.name ≡ false → R x n → S x n) → (b || list_any (has_name name) families) ≡ false → R x n
    → (list_any (has_name name) families ≡ false → Alongside S xs families) → S x n × Alongside S xs families
along_step R S name x n xs families true e stays none h rest = absurd (true≢false none)
along_step R S name x n xs families false e stays none h rest = (stays x n e h, rest none)

pub along_stays : {X : Type 0} (R S : X → Numbered → Type 0) (name : List ℕ) (xs : List X) (families : List Numbered) → ((x : X) (n : Numbered) → bytes_eq name n.family.name ≡ false → R x n → S x n)
    → list_any (has_name name) families ≡ false → Alongside R xs families → Alongside S xs families
along_stays R S name [] [] stays none along = tt
along_stays R S name [] (n ∷ families) stays none along = absurd along
along_stays R S name (x ∷ xs) [] stays none along = absurd along
along_stays R S name (x ∷ xs) (n ∷ families) stays none along =
    along_step R S name x n xs families (bytes_eq name n.family.name) refl stays none along.0 (λ e. along_stays R S name xs families stays e along.1)

was_suc : (o : Option ℕ) (i : ℕ) → option_map suc o ≡ Some i → (k : ℕ) × (o ≡ Some k) × (i ≡ suc k)
was_suc None i e = absurd (cc)
was_suc (Some k) i e = (k, refl, cc)

-- a write at the family of the name, whose others have other names
along_set_step : {X : Type 0} (R S : X → Numbered → Type 0) (name : List ℕ) (x : X) (n : Numbered) (xs : List X) (families : List Numbered) (i : ℕ) (old new : X) (b : Bool) → bytes_eq name n.family.name ≡ b
    → ((x : X) (n : Numbered) → bytes_eq name n.family.name ≡ false → R x n → S x n) → ((n : Numbered) → bytes_eq name n.family.name ≡ true → R old n → S new n)
    → AreDistinct (n ∷ families) → Alongside R (x ∷ xs) (n ∷ families) → first_place (has_name name) (n ∷ families) ≡ Some i → slice_get (x ∷ xs) i ≡ Some old
    → ((k : ℕ) → first_place (has_name name) families ≡ Some k → slice_get xs k ≡ Some old → Alongside S (set xs k new) families)
    → Alongside S (set (x ∷ xs) i new) (n ∷ families)
along_set_step R S name x n xs families i old new true e stays written distinct along found at rest =
    let first : Some 0 ≡ Some i = rw e at found in
    let place : 0 ≡ i = cc in
    let here : slice_get (x ∷ xs) 0 ≡ Some old = subst (λ k. slice_get (x ∷ xs) k ≡ Some old) (sym place) at in
    let same : x ≡ old = cc in
    let none : list_any (has_name name) families ≡ false = subst (λ m. list_any (has_name m) families ≡ false) (sym (name_is name n.family.name e)) distinct.0 in
    subst (λ k. Alongside S (set (x ∷ xs) k new) (n ∷ families)) place
    (written n e (subst (λ u. R u n) same along.0), along_stays R S name xs families stays none along.1)
along_set_step R S name x n xs families i old new false e stays written distinct along found at rest =
    let later : option_map suc (first_place (has_name name) families) ≡ Some i = rw e at found in
    let found_behind = was_suc (first_place (has_name name) families) i later in
    let here : slice_get (x ∷ xs) (suc found_behind.0) ≡ Some old = subst (λ k. slice_get (x ∷ xs) k ≡ Some old) found_behind.2 at in
    subst (λ k. Alongside S (set (x ∷ xs) k new) (n ∷ families)) (sym found_behind.2) (stays x n e along.0, rest found_behind.0 found_behind.1 here)

pub along_set : {X : Type 0} (R S : X → Numbered → Type 0) (name : List ℕ) (xs : List X) (families : List Numbered) (i : ℕ) (old new : X)
    → ((x : X) (n : Numbered) → bytes_eq name n.family.name ≡ false → R x n → S x n) → ((n : Numbered) → bytes_eq name n.family.name ≡ true → R old n → S new n)
    → AreDistinct families → Alongside R xs families → first_place (has_name name) families ≡ Some i → slice_get xs i ≡ Some old → Alongside S (set xs i new) families
along_set R S name [] [] i old new stays written distinct along found at = absurd (cc)
along_set R S name [] (n ∷ families) i old new stays written distinct along found at = absurd along
along_set R S name (x ∷ xs) [] i old new stays written distinct along found at = absurd along
along_set R S name (x ∷ xs) (n ∷ families) i old new stays written distinct along found at =
    along_set_step R S name x n xs families i old new (bytes_eq name n.family.name) refl stays written distinct along found at
    (λ k there here. along_set R S name xs families k old new stays written distinct.1 along.1 there here)

-- ---- groups of one name

pub filter_same : (name : List ℕ) (all : List Numbered) (n : Numbered) → bytes_eq name n.family.name ≡ true → filter (has_name name) (all ++ n ∷ []) ≡ filter (has_name name) all ++ n ∷ []
filter_same name all n e =
    let one : filter (has_name name) (n ∷ []) ≡ n ∷ [] = rw e refl in
    filter-append (has_name name) all (n ∷ []) ∙ ap (λ l. filter (has_name name) all ++ l) one

pub filter_other : (name : List ℕ) (all : List Numbered) (n : Numbered) → bytes_eq name n.family.name ≡ false → filter (has_name name) (all ++ n ∷ []) ≡ filter (has_name name) all
filter_other name all n e =
    let none : filter (has_name name) (n ∷ []) ≡ [] = rw e refl in
    filter-append (has_name name) all (n ∷ []) ∙ ap (λ l. filter (has_name name) all ++ l) none ∙ append-nil (filter (has_name name) all)

filter_none_step : (name : List ℕ) (n : Numbered) (all : List Numbered) (b : Bool) → bytes_eq name n.family.name ≡ b → (b || list_any (has_name name) all) ≡ false
    → (list_any (has_name name) all ≡ false → filter (has_name name) all ≡ []) → filter (has_name name) (n ∷ all) ≡ []
filter_none_step name n all true p h rest = absurd (true≢false h)
filter_none_step name n all false p h rest = rw p (rest h)

pub filter_none : (name : List ℕ) (all : List Numbered) → list_any (has_name name) all ≡ false → filter (has_name name) all ≡ []
filter_none name [] e = refl
filter_none name (n ∷ all) e = filter_none_step name n all (bytes_eq name n.family.name) refl e (filter_none name all)

-- ---- which families merge

abbrev SumsAt : List Numbered → Numbered → Type 0
SumsAt all n = SumsFit n.family.type (rows_named n.family.name all)

sums_stay_by : (all : List Numbered) (n m : Numbered) (b : Bool) → bytes_eq m.family.name n.family.name ≡ b → SameType m n → SumsAt (all ++ n ∷ []) n → SumsAt all m → SumsAt (all ++ n ∷ []) m
sums_stay_by all n m true e types sums old =
    let name = name_is m.family.name n.family.name e in
    subst (λ t. SumsFit t (rows_named m.family.name (all ++ n ∷ []))) (sym (types name)) (subst (λ k. SumsFit n.family.type (rows_named k (all ++ n ∷ []))) (sym name) sums)
sums_stay_by all n m false e types sums old =
    subst (λ group. SumsFit m.family.type (flat_map rows_of group)) (sym (filter_other m.family.name all n e)) old

sums_stay : (all : List Numbered) (n : Numbered) (some : List Numbered) → All (λ m. SameType m n) some → SumsAt (all ++ n ∷ []) n → All (SumsAt all) some → All (SumsAt (all ++ n ∷ [])) some
sums_stay all n [] types sums old = All-nil (SumsAt (all ++ n ∷ []))
sums_stay all n (m ∷ some) types sums old =
    All-cons (SumsAt (all ++ n ∷ [])) m some
    (sums_stay_by all n m (bytes_eq m.family.name n.family.name) refl (All-head (λ m. SameType m n) m some types) sums (All-head (SumsAt all) m some old))
    (sums_stay all n some (All-tail (λ m. SameType m n) m some types) sums (All-tail (SumsAt all) m some old))

pub merges_push : (all : List Numbered) (n : Numbered) → Merges all → All (λ m. SameType m n) all → SumsFit n.family.type (rows_named n.family.name (all ++ n ∷ [])) → Merges (all ++ n ∷ [])
merges_push all n merges types sums = record {
  types = all_pairs_push SameType all n merges.types types;
  sums = All-push (SumsAt (all ++ n ∷ [])) all n (sums_stay all n all types sums merges.sums) sums;
}

pub merges_types : (all : List Numbered) (n : Numbered) → Merges (all ++ n ∷ []) → All (λ m. SameType m n) all
merges_types all n merges k d below =
    let last : length all < length (all ++ n ∷ []) = omega (arith, length-append {A = Numbered}) in
    subst (λ x. SameType x n) (get_or_append_left all (n ∷ []) d k below)
    (subst (λ y. SameType (get_or (all ++ n ∷ []) k d) y) (get_or_push all n d (length all) refl) (merges.types k (length all) d below last))

pub merges_sums : (all : List Numbered) (n : Numbered) → Merges (all ++ n ∷ []) → SumsFit n.family.type (rows_named n.family.name (all ++ n ∷ []))
merges_sums all n merges =
    let last : length all < length (all ++ n ∷ []) = omega (arith, length-append {A = Numbered}) in
    subst (SumsAt (all ++ n ∷ [])) (get_or_push all n n (length all) refl) (merges.sums (length all) n last)
