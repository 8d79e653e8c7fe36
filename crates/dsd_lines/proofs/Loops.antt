-- Texts that are read one after the other: what was read so far, and those that are left.
use Rattle.std.proofs.Common.{◌≡◌, ℕ, ◌<◌, List, [], ◌∷◌, ◌++◌, length, Option, Some, None, refl, sym, ap, ◌∙◌, append_assoc, append-nil, arith}
use Rattle.std.proofs.lemmas.Option.{same_Some}
use Rattle.dsd_lines.specs.Reading.{◌>>=◌, each, some_of}

-- what was read, and then the others
abbrev pub onto : {A : Type 0} → List A → Option (List A) → Option (List A)
onto done None = None
onto done (Some others) = Some (done ++ others)

abbrev pub ReadSoFar : {A : Type 0} → (List ℕ → Option A) → List (List ℕ) → List A → List (List ℕ) → Type 0
ReadSoFar read all done left = each read all ≡ onto done (each read left)

pub read_begin : {A : Type 0} (read : List ℕ → Option A) (all : List (List ℕ)) → ReadSoFar read all [] all
read_begin read all = by (each read all)
  where
    by : {A : Type 0} (o : Option (List A)) → o ≡ onto [] o
    by None = refl
    by (Some xs) = refl

pub read_next : {A : Type 0} (read : List ℕ → Option A) (all : List (List ℕ)) (done : List A) (left : List (List ℕ)) (text : List ℕ) (others : List (List ℕ)) (x : A)
    → ReadSoFar read all done left → left ≡ text ∷ others → read text ≡ Some x → ReadSoFar read all (done ++ x ∷ []) others
read_next {A} read all done left text others x so_far split is =
    so_far ∙ ap (λ l. onto done (each read l)) split ∙ ap (λ o. onto done (o >>= λ first. each read others >>= λ xs. Some (first ∷ xs))) is ∙ by (each read others)
  where
    by : (o : Option (List A)) → onto done (o >>= λ xs. Some (x ∷ xs)) ≡ onto (done ++ x ∷ []) o
    by None = refl
    by (Some xs) = ap Some (sym (append_assoc done (x ∷ []) xs))

pub read_bad : {A : Type 0} (read : List ℕ → Option A) (all : List (List ℕ)) (done : List A) (left : List (List ℕ)) (text : List ℕ) (others : List (List ℕ))
    → ReadSoFar read all done left → left ≡ text ∷ others → read text ≡ None → each read all ≡ None
read_bad read all done left text others so_far split none =
    so_far ∙ ap (λ l. onto done (each read l)) split ∙ ap (λ o. onto done (o >>= λ first. each read others >>= λ xs. Some (first ∷ xs))) none

pub read_end : {A : Type 0} (read : List ℕ → Option A) (all : List (List ℕ)) (done : List A) (left : List (List ℕ)) → ReadSoFar read all done left → left ≡ [] → each read all ≡ Some done
read_end read all done left so_far none = so_far ∙ ap (λ l. onto done (each read l)) none ∙ ap Some (append-nil done)

-- ---- one at least

pub some_bad : {A : Type 0} (read : List ℕ → Option A) (all : List (List ℕ)) → each read all ≡ None → some_of read all ≡ None
some_bad read [] e = refl
some_bad read (text ∷ texts) e = e

one_more : {A : Type 0} (first : Option A) (others : Option (List A)) → (first >>= λ x. others >>= λ xs. Some (x ∷ xs)) ≡ Some [] → ⊥
one_more None others e = cc
one_more (Some x) None e = cc
one_more (Some x) (Some xs) e = let same = same_Some (x ∷ xs) [] e in cc

pub some_none : {A : Type 0} (read : List ℕ → Option A) (all : List (List ℕ)) (done : List A) → each read all ≡ Some done → length done ≡ 0 → some_of read all ≡ None
some_none read [] done e none = refl
some_none read (text ∷ texts) [] e none = absurd (one_more (read text) (each read texts) e)
some_none read (text ∷ texts) (x ∷ done) e none = absurd (omega (arith, none))

pub some_read : {A : Type 0} (read : List ℕ → Option A) (all : List (List ℕ)) (done : List A) → each read all ≡ Some done → 0 < length done → some_of read all ≡ Some done
some_read read [] done e some = let same = same_Some [] done e in absurd (omega (arith, some, ap length same))
some_read read (text ∷ texts) done e some = e
