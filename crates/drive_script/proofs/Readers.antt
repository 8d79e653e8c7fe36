-- Readers of one thing and another: what they read stands there, and what stands there they read.
use Rattle.std.proofs.Common.{◌≡◌, ℕ, List, [], ◌∷◌, ◌++◌, Option, Some, None, refl, sym, ap, subst, ◌∙◌, append_assoc, inl, inr, ◌⊎◌}
use Rattle.std.proofs.lemmas.List.{append-nil}
use Rattle.std.proofs.lemmas.Option.{same_Some}
use Rattle.drive_script.specs.Reading.{◌>>=◌, ◌or◌, Reader, both, seen, behind, after, standing, end_at, whole}
use Rattle.drive_script.proofs.Fields.{bind_some, behind_takes, behind_again}

-- Spells a front: the front is a spelling of a. Stops rest: a spelling ends before these bytes.
pub record IsReader {A : Type 0} (read : Reader A) (Spells : A → List ℕ → Type 0) (Stops : List ℕ → Type 0) : Type 0 where
  pub takes : (bytes : List ℕ) (a : A) (rest : List ℕ) → read bytes ≡ Some (a, rest) → (front : List ℕ) × Spells a front × (bytes ≡ front ++ rest)
  pub again : (a : A) (front rest : List ℕ) → Spells a front → Stops rest → read (front ++ rest) ≡ Some (a, rest)

-- the end of a line
abbrev pub Ends : List ℕ → Type 0
Ends rest = rest ≡ []

-- a reader that stops anywhere
abbrev pub Anywhere : List ℕ → Type 0
Anywhere rest = Unit {0}

pub stops_less : {A : Type 0} (read : Reader A) (Spells : A → List ℕ → Type 0) (Stops Fewer : List ℕ → Type 0) → IsReader read Spells Stops → ((rest : List ℕ) → Fewer rest → Stops rest) → IsReader read Spells Fewer
stops_less read Spells Stops Fewer r fewer = record { takes = r.takes; again = λ a front rest h stop. r.again a front rest h (fewer rest stop) }

-- ---- one thing and then another

abbrev pub SpellsBoth : {A B : Type 0} → (A → List ℕ → Type 0) → (A → B → List ℕ → Type 0) → A × B → List ℕ → Type 0
SpellsBoth S T ab front = (x y : List ℕ) × S ab.0 x × T ab.0 ab.1 y × (front ≡ x ++ y)

module _ {A B : Type 0} (first : Reader A) (second : A → Reader B) (S : A → List ℕ → Type 0) (T : A → B → List ℕ → Type 0) (Stop Last : List ℕ → Type 0) where
  -- one front and another behind it
  both_front : (bytes : List ℕ) (a : A) (b : B) (middle rest : List ℕ) → (front : List ℕ) × S a front × (bytes ≡ front ++ middle) → (front : List ℕ) × T a b front × (middle ≡ front ++ rest) → (front : List ℕ) × SpellsBoth S T (a, b) front × (bytes ≡ front ++ rest)
  both_front bytes a b middle rest h k = (h.0 ++ k.0, (h.0, k.0, h.1, k.1, refl), h.2 ∙ ap (λ l. h.0 ++ l) k.2 ∙ sym (append_assoc h.0 k.0 rest))

  both_takes : IsReader first S Stop → ((a : A) → IsReader (second a) (T a) Last) → (bytes : List ℕ) (ab : A × B) (rest : List ℕ) → both first second bytes ≡ Some (ab, rest) → (front : List ℕ) × SpellsBoth S T ab front × (bytes ≡ front ++ rest)
  both_takes f s bytes ab rest e =
      let a = bind_some (first bytes) (λ x. second x.0 x.1 >>= λ y. Some ((x.0, y.0), y.1)) (ab, rest) e in
      let b = bind_some (second a.0.0 a.0.1) (λ y. Some ((a.0.0, y.0), y.1)) (ab, rest) a.2 in
      let same : ((a.0.0, b.0.0), b.0.1) ≡ (ab, rest) = same_Some ((a.0.0, b.0.0), b.0.1) (ab, rest) b.2 in
      subst (λ (r : (A × B) × List ℕ). (front : List ℕ) × SpellsBoth S T r.0 front × (bytes ≡ front ++ r.1)) {x = ((a.0.0, b.0.0), b.0.1)} {y = (ab, rest)} same
      (both_front bytes a.0.0 b.0.0 a.0.1 b.0.1 (f.takes bytes a.0.0 a.0.1 a.1) ((s a.0.0).takes a.0.1 b.0.0 b.0.1 b.1))

  both_again : IsReader first S Stop → ((a : A) → IsReader (second a) (T a) Last) → ((a : A) (b : B) (y rest : List ℕ) → T a b y → Last rest → Stop (y ++ rest)) → (ab : A × B) (front rest : List ℕ) → SpellsBoth S T ab front → Last rest → both first second (front ++ rest) ≡ Some (ab, rest)
  both_again f s stops ab front rest h stop =
      let split : front ++ rest ≡ h.0 ++ (h.1 ++ rest) = ap (λ l. l ++ rest) h.4 ∙ append_assoc h.0 h.1 rest in
      ap (both first second) split ∙ rw (f.again ab.0 h.0 (h.1 ++ rest) h.2 (stops ab.0 ab.1 h.1 rest h.3 stop), (s ab.0).again ab.1 h.1 rest h.3 stop) refl

  pub both_reads : IsReader first S Stop → ((a : A) → IsReader (second a) (T a) Last) → ((a : A) (b : B) (y rest : List ℕ) → T a b y → Last rest → Stop (y ++ rest)) → IsReader (both first second) (SpellsBoth S T) Last
  both_reads f s stops = record { takes = both_takes f s; again = both_again f s stops }

-- ---- what is read, seen as something else

abbrev pub SpellsSeen : {A B : Type 0} → (A → B) → (A → List ℕ → Type 0) → B → List ℕ → Type 0
SpellsSeen {A} f S b front = (a : A) × (f a ≡ b) × S a front

pub seen_reads : {A B : Type 0} (f : A → B) (read : Reader A) (S : A → List ℕ → Type 0) (Stop : List ℕ → Type 0) → IsReader read S Stop → IsReader (seen f read) (SpellsSeen f S) Stop
seen_reads {A} {B} f read S Stop r = record { takes = takes; again = again }
  where
    takes : (bytes : List ℕ) (b : B) (rest : List ℕ) → seen f read bytes ≡ Some (b, rest) → (front : List ℕ) × SpellsSeen f S b front × (bytes ≡ front ++ rest)
    takes bytes b rest e =
        let a = bind_some (read bytes) (λ x. Some (f x.0, x.1)) (b, rest) e in
        let x = r.takes bytes a.0.0 a.0.1 a.1 in
        let same : (f a.0.0, a.0.1) ≡ (b, rest) = same_Some (f a.0.0, a.0.1) (b, rest) a.2 in
        subst (λ (p : B × List ℕ). (front : List ℕ) × SpellsSeen f S p.0 front × (bytes ≡ front ++ p.1)) same (x.0, (a.0.0, refl, x.1), x.2)

    again : (b : B) (front rest : List ℕ) → SpellsSeen f S b front → Stop rest → seen f read (front ++ rest) ≡ Some (b, rest)
    again b front rest h stop = rw (r.again h.0 front rest h.2 stop) (ap (λ y. Some (y, rest)) h.1)

-- ---- a literal and then something

abbrev pub SpellsAfter : {A : Type 0} → List ℕ → (A → List ℕ → Type 0) → A → List ℕ → Type 0
SpellsAfter literal S a front = (x : List ℕ) × S a x × (front ≡ literal ++ x)

pub after_reads : {A : Type 0} (literal : List ℕ) (read : Reader A) (S : A → List ℕ → Type 0) (Stop : List ℕ → Type 0) → IsReader read S Stop → IsReader (after literal read) (SpellsAfter literal S) Stop
after_reads {A} literal read S Stop r = record { takes = takes; again = again }
  where
    takes : (bytes : List ℕ) (a : A) (rest : List ℕ) → after literal read bytes ≡ Some (a, rest) → (front : List ℕ) × SpellsAfter literal S a front × (bytes ≡ front ++ rest)
    takes bytes a rest e =
        let m = bind_some (behind literal bytes) read (a, rest) e in
        let x = r.takes m.0 a rest m.2 in
        (literal ++ x.0, (x.0, x.1, refl), behind_takes literal bytes m.0 m.1 ∙ ap (λ l. literal ++ l) x.2 ∙ sym (append_assoc literal x.0 rest))

    again : (a : A) (front rest : List ℕ) → SpellsAfter literal S a front → Stop rest → after literal read (front ++ rest) ≡ Some (a, rest)
    again a front rest h stop =
        let split : front ++ rest ≡ literal ++ (h.0 ++ rest) = ap (λ l. l ++ rest) h.2 ∙ append_assoc literal h.0 rest in
        ap (after literal read) split ∙ rw (behind_again literal (h.0 ++ rest)) (r.again a h.0 rest h.1 stop)

-- ---- a literal that stands for something

pub standing_takes : {A : Type 0} (literal : List ℕ) (a b : A) (bytes rest : List ℕ) → standing literal a bytes ≡ Some (b, rest) → (a ≡ b) × (bytes ≡ literal ++ rest)
standing_takes {A} literal a b bytes rest e =
    let m = bind_some (behind literal bytes) (λ r. Some (a, r)) (b, rest) e in
    let same : (a, m.0) ≡ (b, rest) = same_Some (a, m.0) (b, rest) m.2 in
    (ap (λ (p : A × List ℕ). p.0) same, behind_takes literal bytes m.0 m.1 ∙ ap (λ (p : A × List ℕ). literal ++ p.1) same)

pub or_some : {A : Type 0} (o p : Option A) (x : A) → (o or p) ≡ Some x → (o ≡ Some x) ⊎ (p ≡ Some x)
or_some None p x e = inr e
or_some (Some y) p x e = inl e

-- ---- to the end of a line

end_takes : (bytes : List ℕ) (x : Unit {0}) → end_at bytes ≡ Some x → bytes ≡ []
end_takes [] x e = refl
end_takes (b ∷ bytes) x e = absurd cc

pub whole_takes : {A : Type 0} (read : Reader A) (S : A → List ℕ → Type 0) (Stop : List ℕ → Type 0) → IsReader read S Stop → (line : List ℕ) (a : A) → whole read line ≡ Some a → S a line
whole_takes read S Stop r line a e =
    let m = bind_some (read line) (λ x. end_at x.1 >>= λ _. Some x.0) a e in
    let k = bind_some (end_at m.0.1) (λ _. Some m.0.0) a m.2 in
    let x = r.takes line m.0.0 m.0.1 m.1 in
    let all : line ≡ x.0 = x.2 ∙ ap (λ l. x.0 ++ l) (end_takes m.0.1 k.0 k.1) ∙ append-nil x.0 in
    subst (S a) (sym all) (subst (λ b. S b x.0) (same_Some m.0.0 a k.2) x.1)

pub whole_again : {A : Type 0} (read : Reader A) (S : A → List ℕ → Type 0) (Stop : List ℕ → Type 0) → IsReader read S Stop → Stop [] → (line : List ℕ) (a : A) → S a line → whole read line ≡ Some a
whole_again read S Stop r stop line a h = ap (whole read) (sym (append-nil line)) ∙ rw (r.again a line [] h stop) refl
