-- Sets of kinds by their letters: what is read is their spelling, and each spelling is read.
use Rattle.std.proofs.Common.{◌≡◌, ℕ, ◌<◌, Bool, true, false, ◌==◌, List, [], ◌∷◌, ◌++◌, map, length, Option, Some, None, refl, sym, ap, subst, ◌∙◌, arith}
use Rattle.std.specs.Prelude.{fold, if◌then◌else◌}
use Rattle.std.proofs.lemmas.Bool.{eqb-true}
use Rattle.std.proofs.lemmas.Option.{same_Some, some_pair_parts}
use Rattle.metrics_core.specs.Kinds.{KindMask, mask_has}
use Rattle.metrics_core.specs.declared.kinds.MetricKind.{MetricKind}
use Rattle.metrics_core.specs.declared.kinds.MetricKind.TheVariants as kinds
use Rattle.metrics_registry.specs.Masks.{no_kinds, only}
use Rattle.drive_script.specs.Words.{kind_letter, with_kind, AreNewKinds, IsMask}
use Rattle.drive_script.specs.Reading.{◌>>=◌, kind_of_letter, kind_at, where_one, more_kinds_at, mask_at}
use Rattle.drive_script.proofs.Fields.{bind_some}
use Rattle.drive_script.proofs.Readers.{IsReader}
use Rattle.drive_script.proofs.Spaced.{WordEnds}

letter_takes : (c : ℕ) (kind : MetricKind) → kind_of_letter c ≡ Some kind → c ≡ kind_letter kind
letter_takes c kind e = by (c == 99) (c == 103) (c == 104) refl refl refl e
  where
    by : (p q r : Bool) → (c == 99) ≡ p → (c == 103) ≡ q → (c == 104) ≡ r → (if p then Some kinds.Counter else if q then Some kinds.Gauge else if r then Some kinds.Histogram else None) ≡ Some kind → c ≡ kind_letter kind
    by true q r is _ _ f = eqb-true c 99 is ∙ ap kind_letter (same_Some kinds.Counter kind f)
    by false true r _ is _ f = eqb-true c 103 is ∙ ap kind_letter (same_Some kinds.Gauge kind f)
    by false false true _ _ is f = eqb-true c 104 is ∙ ap kind_letter (same_Some kinds.Histogram kind f)
    by false false false _ _ _ f = absurd cc

letter_again : (kind : MetricKind) → kind_of_letter (kind_letter kind) ≡ Some kind
letter_again kinds.Counter = refl
letter_again kinds.Gauge = refl
letter_again kinds.Histogram = refl

-- ---- the kinds behind the first

-- the kinds of letters that were read, beside those of a set
record MoreKinds (mask : KindMask) (bytes : List ℕ) (all : KindMask) (rest : List ℕ) : Type 0 where
  kinds : List MetricKind
  new : AreNewKinds mask kinds
  split : bytes ≡ map kind_letter kinds ++ rest
  meant : all ≡ fold with_kind mask kinds

no_more : (mask : KindMask) (bytes : List ℕ) (all : KindMask) (rest : List ℕ) → ◌≡◌ {A = Option (KindMask × List ℕ)} (Some (mask, bytes)) (Some (all, rest)) → MoreKinds mask bytes all rest
no_more mask bytes all rest e = let same = some_pair_parts mask all bytes rest e in record { kinds = []; new = tt; split = same.1; meant = sym same.0 }

-- what is read behind the letter of a kind
abbrev behind_letter : KindMask → List ℕ → MetricKind → Option (KindMask × List ℕ)
behind_letter mask bytes kind = if mask_has mask kind then None else more_kinds_at (with_kind mask kind) bytes

-- what the bytes behind a letter are read as
abbrev TakenBehind : List ℕ → Type 0
TakenBehind bytes = (mask all : KindMask) (rest : List ℕ) → more_kinds_at mask bytes ≡ Some (all, rest) → MoreKinds mask bytes all rest

letter_taken : (c : ℕ) (bytes : List ℕ) → TakenBehind bytes → (mask all : KindMask) (rest : List ℕ) (kind : MetricKind) → kind_of_letter c ≡ Some kind → (b : Bool) → mask_has mask kind ≡ b → (if b then None else more_kinds_at (with_kind mask kind) bytes) ≡ Some (all, rest) → MoreKinds mask (c ∷ bytes) all rest
letter_taken c bytes behind mask all rest kind is true _ f = absurd cc
letter_taken c bytes behind mask all rest kind is false absent f =
    let h = behind (with_kind mask kind) all rest f in
    let letter = letter_takes c kind is in
    record { kinds = kind ∷ h.kinds; new = (absent, h.new); split = (λ j. letter j ∷ h.split j); meant = h.meant }

one_taken : (c : ℕ) (bytes : List ℕ) → TakenBehind bytes → (mask all : KindMask) (rest : List ℕ) (o : Option MetricKind) → kind_of_letter c ≡ o → where_one o (Some (mask, c ∷ bytes)) (behind_letter mask bytes) ≡ Some (all, rest) → MoreKinds mask (c ∷ bytes) all rest
one_taken c bytes behind mask all rest None is f = no_more mask (c ∷ bytes) all rest f
one_taken c bytes behind mask all rest (Some kind) is f = letter_taken c bytes behind mask all rest kind is (mask_has mask kind) refl f

more_take : (bytes : List ℕ) → TakenBehind bytes
more_take [] mask all rest e = no_more mask [] all rest e
more_take (c ∷ bytes) mask all rest e = one_taken c bytes (more_take bytes) mask all rest (kind_of_letter c) refl e

more_again : (ks : List MetricKind) (mask : KindMask) (rest : List ℕ) → AreNewKinds mask ks → WordEnds rest → more_kinds_at mask (map kind_letter ks ++ rest) ≡ Some (fold with_kind mask ks, rest)
more_again [] mask [] h stop = refl
more_again [] mask (b ∷ rest) h stop = subst (λ c. more_kinds_at mask (c ∷ rest) ≡ Some (mask, c ∷ rest)) (sym stop) refl
more_again (kind ∷ ks) mask rest h stop =
    let bytes : List ℕ = map kind_letter ks ++ rest in
    ap (λ o. where_one o (Some (mask, kind_letter kind ∷ bytes)) (behind_letter mask bytes)) (letter_again kind)
    ∙ ap (λ b. if b then None else more_kinds_at (with_kind mask kind) bytes) h.0
    ∙ more_again ks (with_kind mask kind) rest h.1 stop

-- ---- the whole set

none_has : (kind : MetricKind) → mask_has no_kinds kind ≡ false
none_has kinds.Counter = refl
none_has kinds.Gauge = refl
none_has kinds.Histogram = refl

abbrev pub SpellsMask : KindMask → List ℕ → Type 0
SpellsMask mask front = IsMask front mask

abbrev more_behind : MetricKind × List ℕ → Option (KindMask × List ℕ)
more_behind first = more_kinds_at (only first.0) first.1

first_takes : (bytes : List ℕ) (first : MetricKind × List ℕ) → kind_at bytes ≡ Some first → bytes ≡ kind_letter first.0 ∷ first.1
first_takes [] first e = absurd cc
first_takes (c ∷ bytes) first e =
    let m = bind_some (kind_of_letter c) (λ kind. Some (kind, bytes)) first e in
    let same : (m.0, bytes) ≡ first = same_Some (m.0, bytes) first m.2 in
    ap (λ x. x ∷ bytes) (letter_takes c m.0 m.1) ∙ ap (λ (p : MetricKind × List ℕ). kind_letter p.0 ∷ p.1) same

mask_takes : (bytes : List ℕ) (mask : KindMask) (rest : List ℕ) → mask_at bytes ≡ Some (mask, rest) → (front : List ℕ) × SpellsMask mask front × (bytes ≡ front ++ rest)
unfolding mask_at
mask_takes bytes mask rest e =
    let m = bind_some (kind_at bytes) more_behind (mask, rest) e in
    let more = more_take m.0.1 (only m.0.0) mask rest m.2 in (
      kind_letter m.0.0 ∷ map kind_letter more.kinds,
      record { kinds = m.0.0 ∷ more.kinds; some = omega arith; different = (none_has m.0.0, more.new); spelled = refl; meant = more.meant },
      first_takes bytes m.0 m.1 ∙ ap (λ l. kind_letter m.0.0 ∷ l) more.split,
    )

mask_again : (mask : KindMask) (front rest : List ℕ) → SpellsMask mask front → WordEnds rest → mask_at (front ++ rest) ≡ Some (mask, rest)
unfolding mask_at
mask_again mask front rest h stop = ap (λ l. mask_at (l ++ rest)) h.spelled ∙ by h.kinds h.some h.different ∙ ap (λ m. Some (m, rest)) (sym h.meant)
  where
    by : (ks : List MetricKind) → 0 < length ks → AreNewKinds no_kinds ks → mask_at (map kind_letter ks ++ rest) ≡ Some (fold with_kind no_kinds ks, rest)
    by [] some new = absurd (omega (arith, some))
    by (kind ∷ ks) some new =
        let bytes : List ℕ = map kind_letter ks ++ rest in
        ap (λ o. (o >>= λ k. Some (k, bytes)) >>= more_behind) (letter_again kind) ∙ more_again ks (only kind) rest new.1 stop

pub mask_reads : IsReader mask_at SpellsMask WordEnds
mask_reads = record { takes = mask_takes; again = mask_again }
