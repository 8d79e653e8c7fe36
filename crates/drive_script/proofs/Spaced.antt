-- Things that are read to the end of a line, each behind a space: what was read so far, and what the rest is read as.
use Rattle.std.proofs.Common.{◌≡◌, ℕ, zero, suc, ◌<◌, ◌≤◌, List, [], ◌∷◌, ◌++◌, length, Option, Some, None, refl, sym, ap, subst, ◌∙◌, append_assoc, arith}
use Rattle.std.specs.Prelude.{codes}
use Rattle.std.proofs.lemmas.List.{append-nil, length-append}
use Rattle.std.proofs.lemmas.Option.{same_Some, some_pair_parts}
use Rattle.drive_script.specs.Reading.{◌>>=◌, Reader, after, some_spaced_at, each_at, and_then}
use Rattle.drive_script.proofs.Fields.{bind_some}
use Rattle.drive_script.proofs.Readers.{IsReader, Ends, SpellsAfter, after_reads}

-- the end of a line, or a space
abbrev pub WordEnds : List ℕ → Type 0
WordEnds [] = Unit {0}
WordEnds (b ∷ rest) = b ≡ 32

-- each of these behind a space
abbrev pub SpellsEach : {A : Type 0} → (A → List ℕ → Type 0) → List A → List ℕ → Type 0
SpellsEach S [] front = front ≡ []
SpellsEach S (x ∷ xs) front = (word others : List ℕ) × S x word × SpellsEach S xs others × (front ≡ codes " " ++ (word ++ others))

pub ends_word : (rest : List ℕ) → Ends rest → WordEnds rest
ends_word rest stop = subst WordEnds (sym stop) tt

each_ends_word : {A : Type 0} (S : A → List ℕ → Type 0) (xs : List A) (front : List ℕ) → SpellsEach S xs front → WordEnds front
each_ends_word S [] front h = ends_word front h
each_ends_word S (x ∷ xs) front h = subst WordEnds (sym h.4) refl

pub nothing_before : {A : Type 0} (o : Option (List A × List ℕ)) → o ≡ and_then [] o
nothing_before None = refl
nothing_before (Some others) = refl

pub one_more : {A : Type 0} (done : List A) (a : A) (o : Option (List A × List ℕ)) → and_then done (o >>= λ others. Some (a ∷ others.0, others.1)) ≡ and_then (done ++ a ∷ []) o
one_more done a None = refl
one_more done a (Some others) = ap (λ l. before_rest l others.1) (sym (append_assoc done (a ∷ []) others.0))
  where
    before_rest : {A : Type 0} → List A → List ℕ → Option (List A × List ℕ)
    before_rest read rest = Some (read, rest)

module _ {A : Type 0} (read : Reader A) where
  -- the first thing and those behind it
  abbrev first_then : ℕ → A × List ℕ → Option (List A × List ℕ)
  first_then most first = some_spaced_at read most first.1 >>= λ others. Some (first.0 ∷ others.0, others.1)

  -- nothing is left behind them
  to_end : (most : ℕ) (bytes : List ℕ) (xs : List A) (rest : List ℕ) → some_spaced_at read most bytes ≡ Some (xs, rest) → rest ≡ []
  to_end zero [] xs rest e = sym (some_pair_parts [] xs [] rest e).1
  to_end (suc most) [] xs rest e = sym (some_pair_parts [] xs [] rest e).1
  to_end zero (b ∷ bytes) xs rest e = absurd cc
  to_end (suc most) (b ∷ bytes) xs rest e =
      let m = bind_some (after (codes " ") read (b ∷ bytes)) (first_then most) (xs, rest) e in
      let k = bind_some (some_spaced_at read most m.0.1) (λ others. Some (m.0.0 ∷ others.0, others.1)) (xs, rest) m.2 in
      sym (some_pair_parts (m.0.0 ∷ k.0.0) xs k.0.1 rest k.2).1 ∙ to_end most m.0.1 k.0.0 k.0.1 k.1

  pub all_read : (bytes : List ℕ) (xs : List A) (rest : List ℕ) → each_at read bytes ≡ Some (xs, rest) → rest ≡ []
  all_read bytes xs rest e = to_end (length bytes) bytes xs rest e

  -- ---- one after another

  -- so much was read, and the rest is read behind it
  pub record ItemsLeft (start : List ℕ) (done : List A) (rest : List ℕ) : Type 0 where
    most : ℕ
    enough : length rest ≤ most
    all : each_at read start ≡ and_then done (some_spaced_at read most rest)

  pub items_begin : (start : List ℕ) → ItemsLeft start [] start
  items_begin start = record { most = length start; enough = omega arith; all = nothing_before (some_spaced_at read (length start) start) }

  pub items_end : (start : List ℕ) (done : List A) (rest : List ℕ) → rest ≡ [] → ItemsLeft start done rest → each_at read start ≡ Some (done, [])
  items_end start done rest none h = h.all ∙ ap (λ l. and_then done (some_spaced_at read h.most l)) none ∙ by h.most
    where
      with_nothing : List A → Option (List A × List ℕ)
      with_nothing xs = Some (xs, [])

      by : (most : ℕ) → and_then done (some_spaced_at read most []) ≡ Some (done, [])
      by zero = ap with_nothing (append-nil done)
      by (suc most) = ap with_nothing (append-nil done)

  pub bad_item : (start : List ℕ) (done : List A) (rest : List ℕ) → 0 < length rest → after (codes " ") read rest ≡ None → ItemsLeft start done rest → each_at read start ≡ None
  bad_item start done rest some none h = by h.most rest some h.enough none h.all
    where
      by : (most : ℕ) (rest : List ℕ) → 0 < length rest → length rest ≤ most → after (codes " ") read rest ≡ None → each_at read start ≡ and_then done (some_spaced_at read most rest) → each_at read start ≡ None
      by most [] some few none e = absurd (omega (arith, some))
      by zero (b ∷ rest) some few none e = absurd (omega (arith, few))
      by (suc most) (b ∷ rest) some few none e = e ∙ rw none refl

  module _ (S : A → List ℕ → Type 0) (Stop : List ℕ → Type 0) (reads : IsReader read S Stop) where
    spaced_reads : IsReader (after (codes " ") read) (SpellsAfter (codes " ") S) Stop
    spaced_reads = after_reads (codes " ") read S Stop reads

    pub item_shorter : (rest : List ℕ) (x : A) (left : List ℕ) → after (codes " ") read rest ≡ Some (x, left) → length left < length rest
    item_shorter rest x left found =
        let h = spaced_reads.takes rest x left found in
        let (word, spelled, front) = h.1 in
        omega (arith, ap length h.2, length-append h.0 left, ap length front)

    pub next_item : (start : List ℕ) (done : List A) (rest : List ℕ) (x : A) (left : List ℕ) → 0 < length rest → after (codes " ") read rest ≡ Some (x, left) → ItemsLeft start done rest → ItemsLeft start (done ++ x ∷ []) left
    next_item start done rest x left some found h = by h.most rest some h.enough found h.all
      where
        by : (most : ℕ) (rest : List ℕ) → 0 < length rest → length rest ≤ most → after (codes " ") read rest ≡ Some (x, left) → each_at read start ≡ and_then done (some_spaced_at read most rest) → ItemsLeft start (done ++ x ∷ []) left
        by most [] some few found e = absurd (omega (arith, some))
        by zero (b ∷ rest) some few found e = absurd (omega (arith, few))
        by (suc most) (b ∷ rest) some few found e = record {
          most = most;
          enough = omega (arith, few, item_shorter (b ∷ rest) x left found);
          all = e ∙ rw found (one_more done x (some_spaced_at read most left));
        }

    -- ---- what is read is their spelling, and each spelling is read

    none_taken : (xs : List A) (rest : List ℕ) → ◌≡◌ {A = Option (List A × List ℕ)} (Some ([], [])) (Some (xs, rest)) → (front : List ℕ) × SpellsEach S xs front × ([] ≡ front ++ rest)
    none_taken xs rest e =
        let same = some_pair_parts [] xs [] rest e in
        ([], subst (λ l. SpellsEach S l []) same.0 refl, same.1)

    item_before : (bytes : List ℕ) (x : A) (xs : List A) (middle rest : List ℕ) → (front : List ℕ) × SpellsAfter (codes " ") S x front × (bytes ≡ front ++ middle) → (front : List ℕ) × SpellsEach S xs front × (middle ≡ front ++ rest) → (front : List ℕ) × SpellsEach S (x ∷ xs) front × (bytes ≡ front ++ rest)
    item_before bytes x xs middle rest (f, (word, spelled, behind_space), split) (g, others, more) =
        (f ++ g, (word, g, spelled, others, ap (λ l. l ++ g) behind_space), split ∙ ap (λ l. f ++ l) more ∙ sym (append_assoc f g rest))

    each_take : (most : ℕ) (bytes : List ℕ) (xs : List A) (rest : List ℕ) → some_spaced_at read most bytes ≡ Some (xs, rest) → (front : List ℕ) × SpellsEach S xs front × (bytes ≡ front ++ rest)
    each_take zero [] xs rest e = none_taken xs rest e
    each_take (suc most) [] xs rest e = none_taken xs rest e
    each_take zero (b ∷ bytes) xs rest e = absurd cc
    each_take (suc most) (b ∷ bytes) xs rest e =
        let m = bind_some (after (codes " ") read (b ∷ bytes)) (first_then most) (xs, rest) e in
        let k = bind_some (some_spaced_at read most m.0.1) (λ others. Some (m.0.0 ∷ others.0, others.1)) (xs, rest) m.2 in
        let same : ◌≡◌ {A = List A × List ℕ} (m.0.0 ∷ k.0.0, k.0.1) (xs, rest) = same_Some (m.0.0 ∷ k.0.0, k.0.1) (xs, rest) k.2 in
        subst (λ (p : List A × List ℕ). (front : List ℕ) × SpellsEach S p.0 front × (b ∷ bytes ≡ front ++ p.1)) {x = (m.0.0 ∷ k.0.0, k.0.1)} {y = (xs, rest)} same
        (item_before (b ∷ bytes) m.0.0 k.0.0 m.0.1 k.0.1 (spaced_reads.takes (b ∷ bytes) m.0.0 m.0.1 m.1) (each_take most m.0.1 k.0.0 k.0.1 k.1))

    module _ (stops : (rest : List ℕ) → WordEnds rest → Stop rest) where
      each_again : (most : ℕ) (xs : List A) (front : List ℕ) → SpellsEach S xs front → length front ≤ most → some_spaced_at read most front ≡ Some (xs, [])
      each_again zero [] front h few = ap (some_spaced_at read zero) h
      each_again (suc most) [] front h few = ap (some_spaced_at read (suc most)) h
      each_again zero (x ∷ xs) front (word, others, spelled, more, split) few = absurd (omega (arith, few, ap length split))
      each_again (suc most) (x ∷ xs) front (word, others, spelled, more, split) few =
          let shorter : length others ≤ most = omega (arith, few, ap length split, length-append word others) in
          let first = spaced_reads.again x (codes " " ++ word) others (word, spelled, refl) (stops others (each_ends_word S xs others more)) in
          ap (some_spaced_at read (suc most)) split ∙ ap (λ o. o >>= first_then most) first ∙ rw (each_again most xs others more shorter) refl

      pub each_reads : IsReader (each_at read) (SpellsEach S) Ends
      each_reads = record {
        takes = λ bytes xs rest e. each_take (length bytes) bytes xs rest e;
        again = λ xs front rest h stop.
            let all : front ++ rest ≡ front = ap (λ l. front ++ l) stop ∙ append-nil front in
            ap (each_at read) all ∙ each_again (length front) xs front h (omega arith) ∙ ap (λ r. Some (xs, r)) (sym stop);
      }
